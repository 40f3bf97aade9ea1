-- check_edges: the clauses of the first edges are true.
use Rattle.std.proofs.Common.{arith, ◌*◌}
use Rattle.counts.specs.Tables.{most_edge_clauses}
use Rattle.parts.proofs.KnownLaws.{wf}
use Rattle.parts.proofs.LayoutLaws.{known_of_layout}
use Rattle.search.proofs.CheckLaws.{stopped, upto_done, upto_failed, upto_next, upto_none}
use Rattle.search.proofs.check_edges.Goals as goal

pub loop-e-init : goal.loop-e-init
loop-e-init c = upto_none

pub check_edge-requires : goal.check_edge-requires
check_edge-requires c =
    let pre = c.requires in (
      pre.0,
      c.loop-e-test.true,
      pre.1,
      pre.2,
      omega (arith, pre.3, c.loop-e.invariant.few, c.loop-e-test.true, (wf (known_of_layout c.args.layout.now)).used_le),
    )

pub returns-in_err-count : goal.returns-in_err-count
returns-in_err-count c =
    stopped c.from_residual.ensures.1
    (upto_failed c.loop-e.invariant (32 * most_edge_clauses) c.loop-e-test.true c.in_err-count.ensures
    (omega (arith, c.loop-e-test.true, (wf (known_of_layout c.args.layout.now)).used_le)))

pub loop-e-preserved : goal.loop-e-preserved
loop-e-preserved c = upto_next c.loop-e.invariant c.loop-e-test.true c.in_ok-count.ensures

pub returns : goal.returns
returns c =
    upto_done c.loop-e.invariant (32 * most_edge_clauses) c.loop-e-test.false
    (omega (arith, c.loop-e.invariant.le, (wf (known_of_layout c.args.layout.now)).used_le))
