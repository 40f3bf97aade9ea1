-- The atoms of the location.
use Rattle.std.proofs.Common.{arith, sym}
use Rattle.parts.specs.Numbering.{most_variables}
use Rattle.parts.proofs.KnownLaws.{wf, known_bounded, known_locations, invariant_fits, location_piece_of}
use Rattle.parts.proofs.LayoutLaws.{known_of_layout}
use Rattle.emission.proofs.ClauseLaws.{wrote_as, room_as}
use Rattle.emission.proofs.state.put_invariant.Goals as goal

pub overflow_cast-x-2 : goal.overflow_cast-x-2
overflow_cast-x-2 c = omega (arith, (wf (known_of_layout c.args.layout.now)).locations_le, c.requires.1)

pub overflow_add-x : goal.overflow_add-x
overflow_add-x c = omega (arith, c.requires.0, known_locations (known_of_layout c.args.layout.now), c.requires.1)

pub offset_bounds-layout-l : goal.offset_bounds-layout-l
offset_bounds-layout-l c = omega (arith, (wf (known_of_layout c.args.layout.now)).locations_le, c.requires.1)

pub bounds-layout-l : goal.bounds-layout-l
bounds-layout-l c = omega (arith, (wf (known_of_layout c.args.layout.now)).locations_le, c.requires.1)

pub put_atoms-requires : goal.put_atoms-requires
put_atoms-requires c =
    let a = c.args in
    let k = known_of_layout a.layout.now in (
      (known_bounded k).vars_le,
      omega (arith, c.requires.0, known_locations k, c.requires.1),
      invariant_fits k a.o most_variables a.l c.requires.0 c.requires.1,
      room_as (sym (location_piece_of k a.o a.l c.requires.1)) c.requires.2,
    )

pub returns : goal.returns
returns c =
    let a = c.args in
    wrote_as (sym (location_piece_of (known_of_layout a.layout.now) a.o a.l c.requires.1)) c.put_atoms.ensures
