-- `edge_formed`: the conjunction of its tests.
use Rattle.std.proofs.Common.{arith}
use Rattle.std.proofs.lemmas.Grind.{common_steps}
use Rattle.model.specs.Form.{edge_formed}
use Rattle.form.proofs.edge_formed.Goals as goal

pub returns-then-order_formed : goal.returns-then-order_formed
unfolding edge_formed
returns-then-order_formed c = grind (arith, common_steps)

pub returns-else-order_formed : goal.returns-else-order_formed
unfolding edge_formed
returns-else-order_formed c = grind (arith, common_steps)
