-- A row of a rule, a value a turn.
use Rattle.std.proofs.Common.{arith, ◌≡◌}
use Rattle.emission.proofs.PartRows.{reach_le}
use Rattle.emission.proofs.ClauseLaws.{wrote_each, wrote_each_none, room_each}
use Rattle.emission.proofs.rules.put_row.Goals as goal

pub loop-v-init : goal.loop-v-init
loop-v-init c = wrote_each_none _ _ _ (omega (arith, c.requires.4.words.room))

pub put_value-end-requires : goal.put_value-end-requires
put_value-end-requires c =
    let far = reach_le c.args.rule c.loop-v.v c.args.n c.loop-v-test.true in
    (omega arith, omega arith, omega arith, omega (arith, far), room_each _ _ _ c.loop-v.invariant c.loop-v-test.true c.requires.4)

pub loop-v-preserved : goal.loop-v-preserved
loop-v-preserved c = wrote_each _ _ c.loop-v.invariant c.put_value-end.ensures

pub returns : goal.returns
returns c =
    let done : c.loop-v.v ≡ c.args.n = omega (arith, c.loop-v-test.false, c.loop-v.auto.v-end) in
    rw done at c.loop-v.invariant
