-- check_group: the clause of the members, then the pairs of each member.
use Rattle.std.proofs.Common.{arith, ◌*◌}
use Rattle.list.specs.Clauses.{group_clauses, pairs}
use Rattle.search.proofs.CheckLaws.{checked_one, checked_stop, checked_then, passed_check, stopped, upto_done, upto_failed, upto_next, upto_none}
use Rattle.search.specs.Limits.{most_group_clauses}
use Rattle.search.proofs.truth.check_group.Goals as goal

pub returns-in_err-count : goal.returns-in_err-count
unfolding group_clauses
returns-in_err-count c =
    stopped c.from_residual.ensures.1
    (checked_stop _ most_group_clauses (checked_one _ _ _ c.in_err-count.ensures c.members_true.ensures) (omega arith))

pub loop-i-init : goal.loop-i-init
loop-i-init c = upto_none

pub returns-in_err-count-2 : goal.returns-in_err-count-2
unfolding group_clauses pairs
returns-in_err-count-2 c =
    let first = checked_one _ _ _ c.in_ok-count.ensures c.members_true.ensures in
    stopped c.from_residual-in_err-count-2.ensures.1
    (checked_then most_group_clauses (passed_check first)
    (upto_failed c.loop-i.invariant (64 * 64) c.loop-i-test.true c.in_err-count-2.ensures (omega (arith, c.loop-i-test.true))) (omega (arith, first.most)))

pub loop-i-preserved : goal.loop-i-preserved
loop-i-preserved c = upto_next c.loop-i.invariant c.loop-i-test.true c.in_ok-count-2.ensures

pub returns : goal.returns
unfolding group_clauses pairs
returns c =
    let first = checked_one _ _ _ c.in_ok-count.ensures c.members_true.ensures in
    checked_then most_group_clauses (passed_check first)
    (upto_done c.loop-i.invariant (64 * 64) c.loop-i-test.false (omega (arith, c.loop-i.invariant.le))) (omega (arith, first.most))
