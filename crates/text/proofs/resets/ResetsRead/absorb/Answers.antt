-- `absorb`: field by field what each call ensures is the field of `absorbed`.
use Rattle.std.proofs.Common.{◌≡◌, ◌∙◌, sym}
use Rattle.text.specs.resets.OnePass.{put, absorbed}
use Rattle.text.proofs.Laws.Slots.{put_is}
use Rattle.text.proofs.bytes.Library.{missing}
use Rattle.text.proofs.resets.ResetsRead.absorb.Goals as goal

pub returns : goal.returns
unfolding absorbed put
returns c =
    let s = c.args.self in
    let resets : c.put.new.slots ≡ put s.resets c.clock-k.result c.stored.result =
    c.put.ensures ∙ sym (put_is s.resets c.clock-k.result 4 c.stored.result c.well_formed.0.1.1.1.1.0.1.0.1) in
    rw (resets, c.stored.ensures, c.is_undeclared.ensures, missing c.args.item _ c.is_none.ensures, c.clock-k.ensures)
