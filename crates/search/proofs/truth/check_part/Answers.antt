-- check_part: the clauses of the values up to the v-th are true.
use Rattle.std.proofs.Common.{arith}
use Rattle.parts.specs.Rules.{part_clauses}
use Rattle.search.proofs.CheckLaws.{stopped, upto_done, upto_failed, upto_next, upto_none}
use Rattle.search.specs.Limits.{most_part_clauses}
use Rattle.search.proofs.truth.check_part.Goals as goal

pub loop-v-init : goal.loop-v-init
loop-v-init c = upto_none

pub returns-in_err-count : goal.returns-in_err-count
unfolding part_clauses
returns-in_err-count c =
    stopped c.from_residual.ensures.1
    (upto_failed c.loop-v.invariant most_part_clauses c.loop-v-test.true c.in_err-count.ensures (omega (arith, c.loop-v-test.true, c.requires.1.size_le)))

pub loop-v-preserved : goal.loop-v-preserved
loop-v-preserved c = upto_next c.loop-v.invariant c.loop-v-test.true c.in_ok-count.ensures

pub returns : goal.returns
unfolding part_clauses
returns c = upto_done c.loop-v.invariant most_part_clauses c.loop-v-test.false (omega (arith, c.loop-v.invariant.le, c.requires.1.size_le))
