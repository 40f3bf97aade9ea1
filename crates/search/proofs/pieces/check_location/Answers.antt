-- check_location: the clauses of the first atoms are true; those of a location that is false are passed over.
use Rattle.std.proofs.Common.{arith, ap, subst, sym, refl, length, ◌+◌}
use Rattle.counts.specs.Tables.{most_invariant_clauses}
use Rattle.parts.specs.Rules.{Fits, part_clauses}
use Rattle.parts.specs.declared.Part.{Part}
use Rattle.parts.proofs.KnownLaws.{invariant_fits, known_bounded, known_locations, wf}
use Rattle.parts.proofs.LayoutLaws.{known_of_layout}
use Rattle.search.proofs.CheckLaws.{checked_as, checked_passed, stopped, upto_done, upto_failed, upto_next, upto_none}
use Rattle.search.proofs.FalseChoices.{location_clauses, location_true}
use Rattle.search.proofs.Skips.{passed_over}
use Rattle.search.proofs.pieces.check_location.Goals as goal

pub overflow_add-location : goal.overflow_add-location
overflow_add-location c = record { fits = omega (arith, (wf (known_of_layout c.args.layout.now)).locations_le, c.requires.1, c.requires.2) }

pub is_true-requires : goal.is_true-requires
is_true-requires c = omega (arith, known_locations (known_of_layout c.args.layout.now), c.requires.1, c.requires.3)

pub offset_bounds-table-l : goal.offset_bounds-table-l
offset_bounds-table-l c = record { fits = omega (arith, (wf (known_of_layout c.args.layout.now)).locations_le, c.requires.1) }

pub bounds-table-l : goal.bounds-table-l
bounds-table-l c = omega (arith, (wf (known_of_layout c.args.layout.now)).locations_le, c.requires.1)

pub returns-then-not-is_true : goal.returns-then-not-is_true
returns-then-not-is_true c =
    let k = known_of_layout c.args.layout.now in
    let pre = c.requires in
    checked_passed (passed_over (location_true k c.args.a.now c.args.o c.args.l (sym c.if-not-is_true.ensures))
    (location_clauses k c.args.o c.args.l pre.1 pre.0) refl)
    (omega (arith, pre.0.few c.args.l pre.1))

pub offset_bounds-layout-l : goal.offset_bounds-layout-l
offset_bounds-layout-l c = record { fits = omega (arith, (wf (known_of_layout c.args.layout.now)).locations_le, c.requires.1) }

pub bounds-layout-l : goal.bounds-layout-l
bounds-layout-l c = omega (arith, (wf (known_of_layout c.args.layout.now)).locations_le, c.requires.1)

pub loop-atom-init : goal.loop-atom-init
loop-atom-init c = upto_none

pub atom_part-requires : goal.atom_part-requires
atom_part-requires c = (known_bounded (known_of_layout c.args.layout.now), c.requires.2)

pub check_part-requires : goal.check_part-requires
check_part-requires c =
    let k = known_of_layout c.args.layout.now in
    let pre = c.requires in
    let fits = invariant_fits k c.args.o (length c.args.a.now) c.args.l pre.3 pre.1 c.loop-atom.atom-index c.loop-atom-test.true in (
      omega (arith, known_locations k, pre.1, pre.3),
      subst (λ (p : Part). Fits p (length c.args.a.now)) (sym c.atom_part.ensures) fits,
      omega (arith, c.loop-atom.invariant.few, c.loop-atom-test.true, pre.4),
    )

pub returns-in_err-count : goal.returns-in_err-count
returns-in_err-count c =
    let x = c.args.o + c.args.l in
    stopped c.from_residual.ensures.1
    (upto_failed c.loop-atom.invariant most_invariant_clauses c.loop-atom-test.true
    (checked_as (ap (part_clauses x) c.atom_part.ensures) c.in_err-count.ensures) (omega (arith, c.loop-atom-test.true)))

pub loop-atom-preserved : goal.loop-atom-preserved
loop-atom-preserved c =
    let x = c.args.o + c.args.l in
    upto_next c.loop-atom.invariant c.loop-atom-test.true (checked_as (ap (part_clauses x) c.atom_part.ensures) c.in_ok-count.ensures)

pub returns : goal.returns
returns c = upto_done c.loop-atom.invariant most_invariant_clauses c.loop-atom-test.false (omega (arith, c.loop-atom.invariant.le))
