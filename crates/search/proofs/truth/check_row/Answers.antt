-- check_row: the pairs up to the d-th are true.
use Rattle.std.proofs.Common.{arith, refl, sym, ◌+◌}
use Rattle.search.proofs.CheckLaws.{checked_one, checked_passed, stopped, upto_done, upto_failed, upto_next, upto_none}
use Rattle.search.proofs.Skips.{passed_over, row_length, row_true}
use Rattle.search.proofs.truth.check_row.Goals as goal

pub returns-then-not-is_true : goal.returns-then-not-is_true
returns-then-not-is_true c =
    checked_passed (passed_over (row_true c.args.a.now c.args.x (c.args.x + 1) c.args.n (sym c.if-not-is_true.ensures)) (row_length _ _ _) refl) (omega arith)

pub loop-d-init : goal.loop-d-init
loop-d-init c = upto_none

pub returns-in_err-count : goal.returns-in_err-count
returns-in_err-count c =
    stopped c.from_residual.ensures.1
    (upto_failed c.loop-d.invariant 64 c.loop-d-test.true (checked_one _ _ _ c.in_err-count.ensures c.not_both.ensures) (omega (arith, c.loop-d-test.true)))

pub loop-d-preserved : goal.loop-d-preserved
loop-d-preserved c = upto_next c.loop-d.invariant c.loop-d-test.true (checked_one _ _ _ c.in_ok-count.ensures c.not_both.ensures)

pub returns : goal.returns
returns c = upto_done c.loop-d.invariant 64 c.loop-d-test.false (omega (arith, c.loop-d.invariant.le))
