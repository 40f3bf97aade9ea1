-- check_steps: the clauses of the first steps are true.
use Rattle.std.proofs.Common.{arith, ◌*◌}
use Rattle.parts.proofs.KnownLaws.{step_room}
use Rattle.search.proofs.CheckLaws.{stopped, upto_done, upto_failed, upto_next, upto_none}
use Rattle.search.specs.Limits.{most_step_clauses}
use Rattle.search.proofs.check_steps.Goals as goal

pub loop-t-init : goal.loop-t-init
loop-t-init c = upto_none

pub check_step-requires : goal.check_step-requires
check_step-requires c =
    let pre = c.requires in (
      pre.0,
      pre.1,
      omega (arith, c.loop-t-test.true, pre.2),
      omega (arith, step_room c.args.layout.now.model c.loop-t.t c.args.bound c.loop-t-test.true, pre.3),
      omega (arith, c.loop-t.invariant.few, c.loop-t-test.true, pre.2, pre.4),
    )

pub returns-in_err-count : goal.returns-in_err-count
returns-in_err-count c =
    stopped c.from_residual.ensures.1
    (upto_failed c.loop-t.invariant (64 * most_step_clauses) c.loop-t-test.true c.in_err-count.ensures (omega (arith, c.loop-t-test.true, c.requires.2)))

pub loop-t-preserved : goal.loop-t-preserved
loop-t-preserved c = upto_next c.loop-t.invariant c.loop-t-test.true c.in_ok-count.ensures

pub returns : goal.returns
returns c = upto_done c.loop-t.invariant (64 * most_step_clauses) c.loop-t-test.false (omega (arith, c.loop-t.invariant.le, c.requires.2))
