-- check_excluded: no clause where the comparison holds, else the clause of two negated literals.
use Rattle.std.proofs.Common.{sym}
use Rattle.search.proofs.CheckLaws.{checked_one, checked_out, checked_in}
use Rattle.search.proofs.truth.check_excluded.Goals as goal

pub returns-then-holds : goal.returns-then-holds
returns-then-holds c = checked_out _ _ _ (sym c.if-holds.ensures)

pub returns : goal.returns
returns c = checked_in _ _ _ (sym c.if-holds.ensures) (checked_one _ _ _ c.counted.ensures c.not_both.ensures)
