-- `delay`: the later state, if its invariant holds.
use Rattle.std.proofs.Common.{arith}
use Rattle.std.proofs.lemmas.Grind.{common_steps}
use Rattle.model.specs.Automaton.{delay_step}
use Rattle.model.proofs.State.delay.Goals as goal

pub returns : goal.returns
unfolding delay_step
returns c = grind (arith, common_steps)
