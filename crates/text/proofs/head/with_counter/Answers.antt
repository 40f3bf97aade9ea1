-- `with_counter`: the slots with one more, if there is such a slot.
use Rattle.text.specs.lines.Store.{with_counter}
use Rattle.text.proofs.head.with_counter.Goals as goal

pub returns : goal.returns
unfolding with_counter
returns c = rw c.put.ensures
