-- The invariant of each location, a location a turn.
use Rattle.std.proofs.Common.{arith, ◌≡◌}
use Rattle.list.proofs.PieceClauses.{invariants_piece}
use Rattle.emission.proofs.ClauseLaws.{wrote_each, wrote_each_none, room_each, wrote_as, room_as}
use Rattle.emission.proofs.state.put_invariants.Goals as goal

pub loop-l-init : goal.loop-l-init
loop-l-init c = wrote_each_none _ _ _ (omega (arith, c.requires.1.words.room))

pub put_invariant-end-requires : goal.put_invariant-end-requires
put_invariant-end-requires c =
    let whole = invariants_piece c.args.layout.now.model c.args.o in
    (c.requires.0, c.loop-l-test.true, room_each _ _ _ c.loop-l.invariant c.loop-l-test.true (room_as whole c.requires.1))

pub loop-l-preserved : goal.loop-l-preserved
loop-l-preserved c = wrote_each _ _ c.loop-l.invariant c.put_invariant-end.ensures

pub returns : goal.returns
returns c =
    let m = c.args.layout.now.model in
    let done : c.loop-l.l ≡ m.locations = omega (arith, c.loop-l-test.false, c.loop-l.auto.l-end) in
    wrote_as (invariants_piece m c.args.o) (rw done at c.loop-l.invariant)
