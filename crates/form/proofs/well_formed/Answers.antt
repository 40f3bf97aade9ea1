-- `well_formed`: the conjunction of its tests.
use Rattle.std.proofs.Common.{arith}
use Rattle.std.proofs.lemmas.Grind.{common_steps}
use Rattle.model.specs.Form.{well_formed}
use Rattle.form.proofs.well_formed.Goals as goal

pub returns-then-invariants_formed : goal.returns-then-invariants_formed
unfolding well_formed
returns-then-invariants_formed c = grind (arith, common_steps)

pub returns-else-invariants_formed : goal.returns-else-invariants_formed
unfolding well_formed
returns-else-invariants_formed c = grind (arith, common_steps)
