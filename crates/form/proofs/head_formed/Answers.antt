-- `head_formed`: the conjunction of its tests.
use Rattle.std.proofs.Common.{arith}
use Rattle.std.proofs.lemmas.Grind.{common_steps}
use Rattle.model.specs.Form.{head_formed}
use Rattle.form.proofs.head_formed.Goals as goal

pub returns-then-m-5 : goal.returns-then-m-5
unfolding head_formed
returns-then-m-5 c = grind (arith, common_steps)

pub returns-else-m-5 : goal.returns-else-m-5
unfolding head_formed
returns-else-m-5 c = grind (arith, common_steps)
