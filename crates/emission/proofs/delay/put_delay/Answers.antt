-- A delay on each group, a group a turn.
use Rattle.std.proofs.Common.{arith, sym, ◌≡◌}
use Rattle.parts.specs.Numbering.{most_variables}
use Rattle.parts.proofs.KnownLaws.{known_bounded, step_in, delay_piece_of}
use Rattle.parts.proofs.LayoutLaws.{known_of_layout}
use Rattle.emission.proofs.ClauseLaws.{wrote_each, wrote_each_none, room_each, wrote_as, room_as}
use Rattle.emission.proofs.delay.put_delay.Goals as goal

pub overflow_cast-x-2 : goal.overflow_cast-x-2
overflow_cast-x-2 c =
    let a = c.args in
    let s = step_in (known_of_layout a.layout.now) a.o most_variables c.requires.0 in
    omega (arith, s.choice_in, s.delay_is_choice)

pub overflow_add-x : goal.overflow_add-x
overflow_add-x c =
    let a = c.args in
    let s = step_in (known_of_layout a.layout.now) a.o most_variables c.requires.0 in
    omega (arith, s.choice_in, s.delay_is_choice)

pub overflow_cast-x-3 : goal.overflow_cast-x-3
overflow_cast-x-3 c =
    let a = c.args in
    let s = step_in (known_of_layout a.layout.now) a.o most_variables c.requires.0 in
    omega (arith, s.choice_in, s.delay_is_choice)

pub overflow_add-x-2 : goal.overflow_add-x-2
overflow_add-x-2 c =
    let a = c.args in
    let s = step_in (known_of_layout a.layout.now) a.o most_variables c.requires.0 in
    omega (arith, s.choice_in, s.delay_is_choice)

pub loop-g-init : goal.loop-g-init
loop-g-init c = wrote_each_none _ _ _ (omega (arith, c.requires.2.words.room))

pub put_delay_group-end-requires : goal.put_delay_group-end-requires
put_delay_group-end-requires c =
    let a = c.args in
    let k = known_of_layout a.layout.now in
    let s = step_in k a.o most_variables c.requires.0 in (
      omega (arith, s.choice_in, s.delay_is_choice),
      omega arith,
      (known_bounded k).vars_le,
      s.delay_fits a.d c.loop-g.g c.loop-g-test.true,
      room_each _ _ _ c.loop-g.invariant c.loop-g-test.true (room_as (sym (delay_piece_of k a.o a.d)) c.requires.2),
    )

pub loop-g-preserved : goal.loop-g-preserved
loop-g-preserved c = wrote_each _ _ c.loop-g.invariant c.put_delay_group-end.ensures

pub returns : goal.returns
returns c =
    let a = c.args in
    let done : c.loop-g.g ≡ a.layout.now.table.groups = omega (arith, c.loop-g-test.false, c.loop-g.auto.g-end) in
    wrote_as (sym (delay_piece_of (known_of_layout a.layout.now) a.o a.d)) (rw done at c.loop-g.invariant)
