-- A group, or the atoms of a location's invariant.
use Rattle.std.proofs.Common.{arith}
use Rattle.parts.proofs.KnownLaws.{known_groups}
use Rattle.parts.proofs.LayoutLaws.{known_of_layout}
use Rattle.emission.proofs.ListPieces.{group_is, invariant_is}
use Rattle.emission.proofs.ClauseLaws.{wrote_as, room_as}
use Rattle.emission.proofs.pieces.put_state_piece.Goals as goal

pub put_group_at-requires : goal.put_group_at-requires
put_group_at-requires c =
    let a = c.args in
    let h = c.if-piece-layout.true in
    (c.requires.0, h, room_as (group_is (known_of_layout a.layout.now) a.o a.piece h) c.requires.2)

pub returns-then-piece-layout : goal.returns-then-piece-layout
returns-then-piece-layout c = wrote_as (group_is (known_of_layout c.args.layout.now) c.args.o c.args.piece c.if-piece-layout.true) c.put_group_at.ensures

pub put_invariant-requires : goal.put_invariant-requires
put_invariant-requires c =
    let a = c.args in
    let k = known_of_layout a.layout.now in
    let h = c.if-piece-layout.false in
    (c.requires.0, omega (arith, known_groups k, h, c.requires.1), room_as (invariant_is k a.o a.piece h) c.requires.2)

pub returns-else-piece-layout : goal.returns-else-piece-layout
returns-else-piece-layout c = wrote_as (invariant_is (known_of_layout c.args.layout.now) c.args.o c.args.piece c.if-piece-layout.false) c.put_invariant.ensures
