-- `check_bound`: the conjunction of its tests.
use Rattle.std.proofs.Common.{arith}
use Rattle.std.proofs.lemmas.Grind.{common_steps}
use Rattle.form.specs.BoundCheck.{bound_checked}
use Rattle.form.proofs.check_bound.Goals as goal

pub returns-then-not-well_formed : goal.returns-then-not-well_formed
unfolding bound_checked
returns-then-not-well_formed c = grind (arith, common_steps)

pub returns-then-bound-gt-STEPS : goal.returns-then-bound-gt-STEPS
unfolding bound_checked
returns-then-bound-gt-STEPS c = grind (arith, common_steps)

pub returns : goal.returns
unfolding bound_checked
returns c = grind (arith, common_steps)
