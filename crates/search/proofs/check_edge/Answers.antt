-- check_edge: the clauses of the first parts of the edge are true; those of an edge that is false are passed over.
use Rattle.std.proofs.Common.{arith, ap, sym, refl, length}
use Rattle.model.proofs.FormLaws.{choices_is}
use Rattle.counts.specs.Tables.{most_edge_clauses}
use Rattle.parts.specs.Rules.{part_clauses}
use Rattle.parts.proofs.KnownLaws.{known_bounded, known_state, known_top, wf}
use Rattle.parts.proofs.LayoutLaws.{known_of_layout}
use Rattle.search.proofs.CheckLaws.{checked_as, checked_passed, stopped, upto_done, upto_failed, upto_next, upto_none}
use Rattle.search.proofs.FalseChoices.{edge_clauses_lem, edge_true}
use Rattle.search.proofs.Skips.{passed_over}
use Rattle.search.proofs.StepLaws.{edge_checked, part_fits}
use Rattle.search.proofs.check_edge.Goals as goal

pub overflow_add-edges_at : goal.overflow_add-edges_at
overflow_add-edges_at c = record
    { fits = omega (arith, (known_bounded (known_of_layout c.args.layout.now)).state_le, (known_bounded (known_of_layout c.args.layout.now)).top_le) }

pub overflow_add-edges_at-2 : goal.overflow_add-edges_at-2
overflow_add-edges_at-2 c = record
    { fits = omega (arith, (known_bounded (known_of_layout c.args.layout.now)).state_le, (known_bounded (known_of_layout c.args.layout.now)).top_le) }

pub overflow_add-x : goal.overflow_add-x
overflow_add-x c =
    record {
      fits = omega (
        arith,
        (known_bounded (known_of_layout c.args.layout.now)).state_le,
        (known_bounded (known_of_layout c.args.layout.now)).top_le,
        c.requires.2,
      );
    }

pub overflow_add-x-2 : goal.overflow_add-x-2
overflow_add-x-2 c =
    let k = known_of_layout c.args.layout.now in
    record { fits = omega (arith, (known_bounded k).state_le, (known_bounded k).top_le, (wf k).used_le, c.requires.1, c.requires.2) }

pub is_true-requires : goal.is_true-requires
is_true-requires c =
    let k = known_of_layout c.args.layout.now in
    omega (arith, known_state k, known_top k, choices_is c.args.layout.now.model, c.requires.1, c.requires.3)

pub offset_bounds-table-e : goal.offset_bounds-table-e
offset_bounds-table-e c = record { fits = omega (arith, (wf (known_of_layout c.args.layout.now)).used_le, c.requires.1) }

pub bounds-table-e : goal.bounds-table-e
bounds-table-e c = omega (arith, (wf (known_of_layout c.args.layout.now)).used_le, c.requires.1)

pub returns-then-not-is_true : goal.returns-then-not-is_true
returns-then-not-is_true c =
    let k = known_of_layout c.args.layout.now in
    let pre = c.requires in
    let all = edge_true k c.args.a.now c.args.o _ c.args.e pre.1 (omega (arith, known_state k, known_top k)) (sym c.if-not-is_true.ensures) in
    checked_passed (passed_over all (edge_clauses_lem k c.args.o c.args.e pre.1 pre.0) refl) (omega (arith, pre.0.few c.args.e pre.1))

pub offset_bounds-layout-e : goal.offset_bounds-layout-e
offset_bounds-layout-e c = record { fits = omega (arith, (wf (known_of_layout c.args.layout.now)).used_le, c.requires.1) }

pub bounds-layout-e : goal.bounds-layout-e
bounds-layout-e c = omega (arith, (wf (known_of_layout c.args.layout.now)).used_le, c.requires.1)

pub overflow_add-j-end : goal.overflow_add-j-end
overflow_add-j-end c =
    let k = known_bounded (known_of_layout c.args.layout.now) in
    record { fits = omega (arith, k.groups_le, k.vars_le) }

pub loop-j-init : goal.loop-j-init
loop-j-init c = upto_none

pub edge_part-requires : goal.edge_part-requires
edge_part-requires c = (known_bounded (known_of_layout c.args.layout.now), c.requires.2, c.loop-j-test.true)

pub check_part-requires : goal.check_part-requires
check_part-requires c =
    let k = known_of_layout c.args.layout.now in
    let pre = c.requires in (
      omega (arith, known_state k, known_top k, choices_is c.args.layout.now.model, pre.1, pre.3),
      part_fits k c.args.o (length c.args.a.now) c.args.e c.loop-j.j pre.3 pre.1 c.loop-j-test.true c.edge_part.ensures,
      omega (arith, c.loop-j.invariant.few, c.loop-j-test.true, (known_bounded k).groups_le, (known_bounded k).vars_le, pre.4),
    )

pub returns-in_err-count : goal.returns-in_err-count
returns-in_err-count c =
    let k = known_of_layout c.args.layout.now in
    stopped c.from_residual.ensures.1
    (edge_checked k c.args.o _ c.args.e c.requires.1 (omega (arith, known_state k, known_top k))
    (upto_failed c.loop-j.invariant most_edge_clauses c.loop-j-test.true (checked_as (ap (part_clauses _) c.edge_part.ensures) c.in_err-count.ensures)
    (omega (arith, c.loop-j-test.true, (known_bounded k).groups_le, (known_bounded k).vars_le))))

pub loop-j-preserved : goal.loop-j-preserved
loop-j-preserved c = upto_next c.loop-j.invariant c.loop-j-test.true (checked_as (ap (part_clauses _) c.edge_part.ensures) c.in_ok-count.ensures)

pub returns : goal.returns
returns c =
    let k = known_of_layout c.args.layout.now in
    edge_checked k c.args.o _ c.args.e c.requires.1 (omega (arith, known_state k, known_top k))
    (upto_done c.loop-j.invariant most_edge_clauses c.loop-j-test.false
    (omega (arith, c.loop-j.invariant.le, (known_bounded k).groups_le, (known_bounded k).vars_le)))
