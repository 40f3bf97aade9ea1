-- `with_invariant`: the slots with one more, if there is such a slot.
use Rattle.text.specs.lines.Store.{with_invariant}
use Rattle.text.proofs.head.with_invariant.Goals as goal

pub returns : goal.returns
unfolding with_invariant
returns c = rw c.put.ensures
