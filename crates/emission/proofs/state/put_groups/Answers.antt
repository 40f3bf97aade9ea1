-- The group clauses of each group, a group a turn.
use Rattle.std.proofs.Common.{arith, sym, ◌≡◌}
use Rattle.parts.proofs.KnownLaws.{groups_piece_of}
use Rattle.parts.proofs.LayoutLaws.{known_of_layout}
use Rattle.emission.proofs.ClauseLaws.{wrote_each, wrote_each_none, room_each, wrote_as, room_as}
use Rattle.emission.proofs.state.put_groups.Goals as goal

pub loop-g-init : goal.loop-g-init
loop-g-init c = wrote_each_none _ _ _ (omega (arith, c.requires.1.words.room))

pub put_group_at-end-requires : goal.put_group_at-end-requires
put_group_at-end-requires c =
    let whole = sym (groups_piece_of (known_of_layout c.args.layout.now) c.args.o) in
    (c.requires.0, c.loop-g-test.true, room_each _ _ _ c.loop-g.invariant c.loop-g-test.true (room_as whole c.requires.1))

pub loop-g-preserved : goal.loop-g-preserved
loop-g-preserved c = wrote_each _ _ c.loop-g.invariant c.put_group_at-end.ensures

pub returns : goal.returns
returns c =
    let whole = sym (groups_piece_of (known_of_layout c.args.layout.now) c.args.o) in
    let done : c.loop-g.g ≡ c.args.layout.now.table.groups = omega (arith, c.loop-g-test.false, c.loop-g.auto.g-end) in
    wrote_as whole (rw done at c.loop-g.invariant)
