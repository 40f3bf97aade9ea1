-- A row a turn, each in the tail that begins where the one before ended.
use Rattle.std.proofs.Common.{arith, ◌≡◌}
use Rattle.emission.proofs.ClauseLaws.{wrote_each_tail, wrote_each_none, room_each, room_tail}
use Rattle.emission.proofs.pieces.put_rows.Goals as goal

pub loop-i-init : goal.loop-i-init
loop-i-init c = wrote_each_none _ _ _ (omega arith)

pub put_row-at-requires : goal.put_row-at-requires
put_row-at-requires c =
    (c.requires.0, omega (arith, c.requires.1, c.loop-i-test.true), room_tail (room_each _ _ _ c.loop-i.invariant c.loop-i-test.true c.requires.2))

pub loop-i-preserved : goal.loop-i-preserved
loop-i-preserved c = wrote_each_tail _ _ c.loop-i.invariant c.put_row-at.ensures

pub returns : goal.returns
returns c =
    let done : c.loop-i.i ≡ c.args.count = omega (arith, c.loop-i-test.false, c.loop-i.auto.i-end) in
    rw done at c.loop-i.invariant
