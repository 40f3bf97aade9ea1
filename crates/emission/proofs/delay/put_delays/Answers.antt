-- Each delay, a delay a turn.
use Rattle.std.proofs.Common.{arith, ◌≡◌, ◌+◌}
use Rattle.parts.proofs.LayoutLaws.{known_of_layout}
use Rattle.emission.proofs.ListPieces.{delays_are}
use Rattle.emission.proofs.ClauseLaws.{wrote_each, wrote_each_none, room_each, wrote_as, room_as}
use Rattle.emission.proofs.delay.put_delays.Goals as goal

pub loop-d-init : goal.loop-d-init
loop-d-init c = wrote_each_none _ _ _ (omega (arith, c.requires.1.words.room))

pub put_delay-end-requires : goal.put_delay-end-requires
put_delay-end-requires c =
    let whole = delays_are (known_of_layout c.args.layout.now) c.args.o in
    (c.requires.0, omega (arith, c.loop-d-test.true), room_each _ _ _ c.loop-d.invariant c.loop-d-test.true (room_as whole c.requires.1))

pub loop-d-preserved : goal.loop-d-preserved
loop-d-preserved c = wrote_each _ _ c.loop-d.invariant c.put_delay-end.ensures

pub returns : goal.returns
returns c =
    let l = c.args.layout.now in
    let done : c.loop-d.d ≡ l.table.top + 1 = omega (arith, c.loop-d-test.false, c.loop-d.auto.d-end) in
    wrote_as (delays_are (known_of_layout l) c.args.o) (rw done at c.loop-d.invariant)
