-- The pieces of four slots, a slot a turn.
use Rattle.std.proofs.Common.{arith, ◌≡◌}
use Rattle.emission.proofs.ClauseLaws.{wrote_each, wrote_each_none, room_each}
use Rattle.emission.proofs.state.put_atoms.Goals as goal

pub loop-atom-init : goal.loop-atom-init
loop-atom-init c = wrote_each_none _ _ _ (omega (arith, c.requires.3.words.room))

pub put_atom-end-requires : goal.put_atom-end-requires
put_atom-end-requires c = (
  c.requires.0,
  omega arith,
  c.requires.2 c.loop-atom.atom-index c.loop-atom-test.true,
  room_each _ _ _ c.loop-atom.invariant c.loop-atom-test.true c.requires.3,
)

pub loop-atom-preserved : goal.loop-atom-preserved
loop-atom-preserved c = wrote_each _ _ c.loop-atom.invariant c.put_atom-end.ensures

pub returns : goal.returns
returns c =
    let done : c.loop-atom.atom-index ≡ 4 = omega (arith, c.loop-atom-test.false, c.loop-atom.auto.atom-index-end) in
    rw done at c.loop-atom.invariant
