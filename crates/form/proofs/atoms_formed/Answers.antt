-- `atoms_formed`: the conjunction of its tests.
use Rattle.std.proofs.Common.{arith}
use Rattle.std.proofs.lemmas.Grind.{common_steps}
use Rattle.model.specs.Form.{atoms_formed}
use Rattle.form.proofs.atoms_formed.Goals as goal

pub returns-then-each_formed : goal.returns-then-each_formed
unfolding atoms_formed
returns-then-each_formed c = grind (arith, common_steps)

pub returns-else-each_formed : goal.returns-else-each_formed
unfolding atoms_formed
returns-else-each_formed c = grind (arith, common_steps)
