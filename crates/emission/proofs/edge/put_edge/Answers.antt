-- The pieces of an edge, kind after kind.
use Rattle.std.proofs.Common.{arith}
use Rattle.parts.proofs.KnownLaws.{wf, known_bounded}
use Rattle.parts.proofs.LayoutLaws.{known_of_layout}
use Rattle.emission.proofs.ListPieces.{choice_below, source_in, target_in, guard_fits, updates_fit, resets_fit, edge_is}
use Rattle.emission.proofs.ClauseLaws.{wrote_then, room_first, room_then, wrote_as, room_as}
use Rattle.emission.proofs.edge.put_edge.Goals as goal

pub offset_bounds-layout-e : goal.offset_bounds-layout-e
offset_bounds-layout-e c =
    let a = c.args in
    let k = known_of_layout a.layout.now in
    omega (arith, (wf k).used_le, c.requires.1)

pub bounds-layout-e : goal.bounds-layout-e
bounds-layout-e c =
    let a = c.args in
    let k = known_of_layout a.layout.now in
    omega (arith, (wf k).used_le, c.requires.1)

pub overflow_cast-x : goal.overflow_cast-x
overflow_cast-x c =
    let a = c.args in
    let k = known_of_layout a.layout.now in
    omega (arith, choice_below k a.o c.requires.0 a.e c.requires.1)

pub overflow_add-x : goal.overflow_add-x
overflow_add-x c =
    let a = c.args in
    let k = known_of_layout a.layout.now in
    omega (arith, choice_below k a.o c.requires.0 a.e c.requires.1)

pub overflow_add-x-2 : goal.overflow_add-x-2
overflow_add-x-2 c =
    let a = c.args in
    let k = known_of_layout a.layout.now in
    omega (arith, choice_below k a.o c.requires.0 a.e c.requires.1)

pub overflow_add-x-3 : goal.overflow_add-x-3
overflow_add-x-3 c =
    let a = c.args in
    let k = known_of_layout a.layout.now in
    omega (arith, choice_below k a.o c.requires.0 a.e c.requires.1)

pub overflow_add-x-4 : goal.overflow_add-x-4
overflow_add-x-4 c =
    let a = c.args in
    let k = known_of_layout a.layout.now in
    omega (arith, choice_below k a.o c.requires.0 a.e c.requires.1)

pub overflow_cast-next-2 : goal.overflow_cast-next-2
overflow_cast-next-2 c =
    let a = c.args in
    let k = known_of_layout a.layout.now in
    omega (arith, target_in k a.o c.requires.0 a.e c.requires.1)

pub overflow_add-next-2 : goal.overflow_add-next-2
overflow_add-next-2 c =
    let a = c.args in
    let k = known_of_layout a.layout.now in
    omega (arith, target_in k a.o c.requires.0 a.e c.requires.1)

pub overflow_add-goal : goal.overflow_add-goal
overflow_add-goal c =
    let a = c.args in
    let k = known_of_layout a.layout.now in
    omega (arith, target_in k a.o c.requires.0 a.e c.requires.1)

pub put_implication-target-requires : goal.put_implication-target-requires
put_implication-target-requires c =
    let a = c.args in
    let k = known_of_layout a.layout.now in
    let whole = room_as (edge_is k a.o a.e c.requires.1) c.requires.2 in (
      choice_below k a.o c.requires.0 a.e c.requires.1,
      source_in k a.o c.requires.0 a.e c.requires.1,
      room_first _ (room_first _ (room_first _ (room_first _ whole))),
    )

pub put_implication-guarded-requires : goal.put_implication-guarded-requires
put_implication-guarded-requires c =
    let a = c.args in
    let k = known_of_layout a.layout.now in
    let whole = room_as (edge_is k a.o a.e c.requires.1) c.requires.2 in (
      choice_below k a.o c.requires.0 a.e c.requires.1,
      target_in k a.o c.requires.0 a.e c.requires.1,
      room_then c.put_implication-target.ensures (room_first _ (room_first _ (room_first _ whole))),
    )

pub put_atoms-counters-requires : goal.put_atoms-counters-requires
put_atoms-counters-requires c =
    let a = c.args in
    let k = known_of_layout a.layout.now in
    let ends = wrote_then c.put_implication-target.ensures c.put_implication-guarded.ensures in
    let whole = room_as (edge_is k a.o a.e c.requires.1) c.requires.2 in (
      (known_bounded k).vars_le,
      choice_below k a.o c.requires.0 a.e c.requires.1,
      guard_fits k a.o c.requires.0 a.e c.requires.1,
      room_then ends (room_first _ (room_first _ whole)),
    )

pub put_updates-clocks-requires : goal.put_updates-clocks-requires
put_updates-clocks-requires c =
    let a = c.args in
    let k = known_of_layout a.layout.now in
    let whole = room_as (edge_is k a.o a.e c.requires.1) c.requires.2 in
    let guard = wrote_then (wrote_then c.put_implication-target.ensures c.put_implication-guarded.ensures) c.put_atoms-counters.ensures in (
      choice_below k a.o c.requires.0 a.e c.requires.1,
      (known_bounded k).vars_le,
      updates_fit k a.o c.requires.0 a.e c.requires.1,
      room_then guard (room_first _ whole),
    )

pub put_resets-requires : goal.put_resets-requires
put_resets-requires c =
    let a = c.args in
    let k = known_of_layout a.layout.now in
    let whole = room_as (edge_is k a.o a.e c.requires.1) c.requires.2 in
    let guard = wrote_then (wrote_then c.put_implication-target.ensures c.put_implication-guarded.ensures) c.put_atoms-counters.ensures in (
      choice_below k a.o c.requires.0 a.e c.requires.1,
      known_bounded k,
      resets_fit k a.o c.requires.0 a.e c.requires.1,
      room_then (wrote_then guard c.put_updates-clocks.ensures) whole,
    )

pub returns : goal.returns
returns c =
    let a = c.args in
    let k = known_of_layout a.layout.now in
    let guard = wrote_then (wrote_then c.put_implication-target.ensures c.put_implication-guarded.ensures) c.put_atoms-counters.ensures in
    wrote_as (edge_is k a.o a.e c.requires.1) (wrote_then (wrote_then guard c.put_updates-clocks.ensures) c.put_resets.ensures)
