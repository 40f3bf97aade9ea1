-- `put`: the slot is there, or there is none.
use Rattle.std.proofs.Common.{sym}
use lib.Seq.{set_out}
use Rattle.text.proofs.bytes.put.Goals as goal

pub returns-else-k-slots : goal.returns-else-k-slots
returns-else-k-slots g c = sym (set_out _ _ _ c.if-k-slots.false)
