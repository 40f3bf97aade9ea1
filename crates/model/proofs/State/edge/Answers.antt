-- `edge`: the updates, then the three tests.
use Rattle.std.proofs.Common.{arith}
use Rattle.std.proofs.lemmas.Grind.{common_steps}
use Rattle.model.specs.Automaton.{edge_step, edge_allowed}
use Rattle.model.proofs.State.edge.Goals as goal

pub returns-in_err-values : goal.returns-in_err-values
unfolding edge_step
returns-in_err-values c = grind (arith, common_steps)

pub returns : goal.returns
unfolding edge_step edge_allowed
returns c = grind (arith, common_steps)
