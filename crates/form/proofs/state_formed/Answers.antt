-- `state_formed`: the conjunction of its tests.
use Rattle.std.proofs.Common.{arith}
use Rattle.std.proofs.lemmas.Grind.{common_steps}
use Rattle.model.specs.Form.{state_formed}
use Rattle.form.proofs.state_formed.Goals as goal

pub returns-then-counters_in_group : goal.returns-then-counters_in_group
unfolding state_formed
returns-then-counters_in_group c = grind (arith, common_steps)

pub returns-else-counters_in_group : goal.returns-else-counters_in_group
unfolding state_formed
returns-else-counters_in_group c = grind (arith, common_steps)
