-- `put_groups`: the loop has written the first groups.
use Rattle.std.proofs.Common.{arith, ◌≡◌, length}
use Rattle.buffer.proofs.BufferLaws.{wrote_each_none, wrote_each, room_each}
use Rattle.encode.specs.BlockBytes.{shown_bytes}
use Rattle.encode.proofs.put_groups.Goals as goal

pub loop-group-init : goal.loop-group-init
loop-group-init c = wrote_each_none _ _ _ (omega (arith, c.requires.room))

pub put_group-end-requires : goal.put_group-end-requires
unfolding shown_bytes
put_group-end-requires c = room_each (shown_bytes c.args.groups.now) _ _ c.loop-group.invariant c.loop-group-test.true c.requires

pub loop-group-preserved : goal.loop-group-preserved
unfolding shown_bytes
loop-group-preserved c = wrote_each (shown_bytes c.args.groups.now) _ c.loop-group.invariant c.put_group-end.ensures

pub returns : goal.returns
returns c =
    let done : c.loop-group.group-index ≡ length c.args.groups.now = omega (arith, c.loop-group-test.false) in
    rw done at c.loop-group.invariant
