-- check_delays: the clauses of the delays below d are true.
use Rattle.std.proofs.Common.{arith, ◌*◌}
use Rattle.search.proofs.CheckLaws.{stopped, upto_done, upto_failed, upto_next, upto_none}
use Rattle.search.specs.Limits.{most_delay_clauses}
use Rattle.search.proofs.pieces.check_delays.Goals as goal

pub loop-d-init : goal.loop-d-init
loop-d-init c = upto_none

pub returns-in_err-count : goal.returns-in_err-count
returns-in_err-count c =
    stopped c.from_residual.ensures.1
    (upto_failed c.loop-d.invariant (32 * most_delay_clauses) (omega (arith, c.loop-d-test.true)) c.in_err-count.ensures
    (omega (arith, c.loop-d-test.true, c.requires.0.top_le)))

pub loop-d-preserved : goal.loop-d-preserved
loop-d-preserved c = upto_next c.loop-d.invariant (omega (arith, c.loop-d-test.true)) c.in_ok-count.ensures

pub returns-in_ok-count : goal.returns-in_ok-count
returns-in_ok-count c =
    let all = upto_next c.loop-d.invariant (omega (arith, c.loop-d-test.true)) c.in_ok-count.ensures in
    upto_done all (32 * most_delay_clauses) (omega arith) (omega (arith, all.le, c.requires.0.top_le))

pub returns : goal.returns
returns c =
    upto_done c.loop-d.invariant (32 * most_delay_clauses) (omega (arith, c.loop-d-test.false)) (omega (arith, c.loop-d.invariant.le, c.requires.0.top_le))
