-- `walk`: the refusals 20, 21, 29 in the report's order; then `walk_from` reports the steps from the initial state.
use Rattle.std.proofs.Common.{arith}
use Rattle.std.proofs.lemmas.Grind.{common_steps}
use Rattle.model.specs.Run.{start}
use Rattle.walk.specs.Walker.{walk_report}
use Rattle.walk.proofs.walk.Goals as goal

pub returns-then-not-well_formed : goal.returns-then-not-well_formed
unfolding walk_report start
returns-then-not-well_formed c = grind (arith, common_steps)

pub returns-then-run-gt-STEPS : goal.returns-then-run-gt-STEPS
unfolding walk_report start
returns-then-run-gt-STEPS c = grind (arith, common_steps)

pub returns-then-not-invariant_holds : goal.returns-then-not-invariant_holds
unfolding walk_report start
returns-then-not-invariant_holds c = grind (arith, common_steps)

pub returns : goal.returns
unfolding walk_report start
returns c = grind (arith, common_steps)
