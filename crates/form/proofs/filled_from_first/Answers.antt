-- `filled_from_first`: the conjunction of its tests.
use Rattle.std.proofs.Common.{arith}
use Rattle.std.proofs.lemmas.Grind.{common_steps}
use Rattle.model.specs.Form.{filled_from_first}
use Rattle.model.specs.Indexed.{all_below}
use Rattle.form.proofs.filled_from_first.Goals as goal

pub returns-then-no_gap-2 : goal.returns-then-no_gap-2
unfolding filled_from_first all_below
returns-then-no_gap-2 c = grind (arith, common_steps)

pub returns-else-no_gap-2 : goal.returns-else-no_gap-2
unfolding filled_from_first all_below
returns-else-no_gap-2 c = grind (arith, common_steps)
