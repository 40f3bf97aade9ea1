-- check_delay: the clauses of the first groups under the delay are true; those of a delay that is false are passed over.
use Rattle.std.proofs.Common.{arith, ap, sym, refl, ◌+◌}
use Rattle.parts.specs.Rules.{part_clauses}
use Rattle.search.proofs.CheckLaws.{checked_as, checked_passed, stopped, upto_done, upto_failed, upto_next, upto_none}
use Rattle.search.proofs.FalseChoices.{delay_true}
use Rattle.search.proofs.Skips.{passed_over}
use Rattle.search.specs.Limits.{most_delay_clauses}
use Rattle.search.proofs.pieces.check_delay.Goals as goal

pub returns-then-not-is_true : goal.returns-then-not-is_true
returns-then-not-is_true c =
    let pre = c.requires in
    checked_passed
    (passed_over (delay_true c.args.a.now c.args.b.now c.args.o c.args.d (sym c.if-not-is_true.ensures)) (pre.2.delay_clauses c.args.d) refl)
    (omega (arith, pre.0.state_le))

pub loop-g-init : goal.loop-g-init
loop-g-init c = upto_none

pub returns-in_err-count : goal.returns-in_err-count
returns-in_err-count c =
    let x = c.args.o + c.args.b.now.state + c.args.d in
    stopped c.from_residual.ensures.1
    (upto_failed c.loop-g.invariant most_delay_clauses c.loop-g-test.true (checked_as (ap (part_clauses x) c.delay_part.ensures) c.in_err-count.ensures)
    (omega (arith, c.loop-g-test.true, c.requires.0.groups_le, c.requires.0.vars_le)))

pub loop-g-preserved : goal.loop-g-preserved
loop-g-preserved c =
    let x = c.args.o + c.args.b.now.state + c.args.d in
    upto_next c.loop-g.invariant c.loop-g-test.true (checked_as (ap (part_clauses x) c.delay_part.ensures) c.in_ok-count.ensures)

pub returns : goal.returns
returns c =
    upto_done c.loop-g.invariant most_delay_clauses c.loop-g-test.false
    (omega (arith, c.loop-g.invariant.le, c.requires.0.groups_le, c.requires.0.vars_le))
