-- Each counter's update, a counter a turn.
use Rattle.std.proofs.Common.{arith, ◌≡◌}
use Rattle.emission.proofs.ClauseLaws.{wrote_each, wrote_each_none, room_each}
use Rattle.emission.proofs.edge.put_updates.Goals as goal

pub loop-i-init : goal.loop-i-init
loop-i-init c = wrote_each_none _ _ _ (omega (arith, c.requires.3.words.room))

pub put_update-end-requires : goal.put_update-end-requires
put_update-end-requires c = (
  omega arith,
  omega (arith, c.requires.1, c.loop-i-test.true),
  c.requires.2 c.loop-i.i c.loop-i-test.true,
  room_each _ _ _ c.loop-i.invariant c.loop-i-test.true c.requires.3,
)

pub loop-i-preserved : goal.loop-i-preserved
loop-i-preserved c = wrote_each _ _ c.loop-i.invariant c.put_update-end.ensures

pub returns : goal.returns
returns c =
    let done : c.loop-i.i ≡ c.args.b.now.vars = omega (arith, c.loop-i-test.false, c.loop-i.auto.i-end) in
    rw done at c.loop-i.invariant
