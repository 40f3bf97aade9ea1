-- Each clock's update, a clock a turn.
use Rattle.std.proofs.Common.{arith, ◌≡◌, ◌+◌, ◌-◌}
use Rattle.emission.proofs.ClauseLaws.{wrote_each, wrote_each_none, room_each}
use Rattle.emission.proofs.edge.put_resets.Goals as goal

pub overflow_add-i-end : goal.overflow_add-i-end
overflow_add-i-end c = omega (arith, c.requires.1.vars_le)

pub overflow_sub-i-end : goal.overflow_sub-i-end
overflow_sub-i-end c = omega (arith, c.requires.1.vars_in)

pub loop-i-init : goal.loop-i-init
loop-i-init c = wrote_each_none _ _ _ (omega (arith, c.requires.3.words.room))

pub put_reset-end-requires : goal.put_reset-end-requires
put_reset-end-requires c = (
  omega arith,
  c.requires.1.vars_le,
  omega (arith, c.requires.1.groups_le, c.loop-i-test.true),
  c.requires.2 c.loop-i.i c.loop-i-test.true,
  room_each _ _ _ c.loop-i.invariant c.loop-i-test.true c.requires.3,
)

pub loop-i-preserved : goal.loop-i-preserved
loop-i-preserved c = wrote_each _ _ c.loop-i.invariant c.put_reset-end.ensures

pub returns : goal.returns
returns c =
    let b = c.args.b.now in
    let done : c.loop-i.i ≡ b.groups - (1 + b.vars) = omega (arith, c.loop-i-test.false, c.loop-i.auto.i-end) in
    rw done at c.loop-i.invariant
