-- The writer that row and number name; a buffer for the longest piece has room for each.
use Rattle.std.proofs.Common.{arith, ◌<◌, ◌≤◌}
use Rattle.model.proofs.FormLaws.{state_size_le}
use Rattle.parts.proofs.KnownLaws.{wf}
use Rattle.parts.proofs.LayoutLaws.{known_of_layout}
use Rattle.emission.specs.Cut.{state_count}
use Rattle.emission.proofs.CutLaws.{row_step, start_state, start_initial, of_step, of_end}
use Rattle.emission.proofs.ListPieces.{piece_room}
use Rattle.emission.proofs.ClauseLaws.{wrote_as, room_as}
use Rattle.emission.proofs.pieces.put_piece.Goals as goal

pub put_state_piece-requires : goal.put_state_piece-requires
put_state_piece-requires c =
    let a = c.args in
    let m = a.layout.now.model in
    let room = piece_room m a.layout.now.formed a.bound a.row a.piece c.requires.2 c.requires.3 in
    let h : a.piece < state_count m = omega (arith, c.if-piece-state_pieces.true, c.state_pieces.ensures) in
    let whole = start_state m a.bound a.row a.piece c.if-row-eq0.true h in
    (omega (arith, state_size_le m (wf (known_of_layout a.layout.now))), h, room_as whole room)

pub returns-then-piece-state_pieces : goal.returns-then-piece-state_pieces
returns-then-piece-state_pieces c =
    let a = c.args in
    let m = a.layout.now.model in
    let h : a.piece < state_count m = omega (arith, c.if-piece-state_pieces.true, c.state_pieces.ensures) in
    let whole = start_state m a.bound a.row a.piece c.if-row-eq0.true h in
    wrote_as whole c.put_state_piece.ensures

pub put_initial-requires : goal.put_initial-requires
put_initial-requires c =
    let a = c.args in
    let m = a.layout.now.model in
    let room = piece_room m a.layout.now.formed a.bound a.row a.piece c.requires.2 c.requires.3 in
    let h : state_count m ≤ a.piece = omega (arith, c.if-piece-state_pieces.false, c.state_pieces.ensures) in
    let whole = start_initial m a.bound a.row a.piece c.if-row-eq0.true h in
    room_as whole room

pub returns-else-piece-state_pieces : goal.returns-else-piece-state_pieces
returns-else-piece-state_pieces c =
    let a = c.args in
    let m = a.layout.now.model in
    let h : state_count m ≤ a.piece = omega (arith, c.if-piece-state_pieces.false, c.state_pieces.ensures) in
    let whole = start_initial m a.bound a.row a.piece c.if-row-eq0.true h in
    wrote_as whole c.put_initial.ensures

pub put_step_piece-requires : goal.put_step_piece-requires
put_step_piece-requires c =
    let a = c.args in
    let m = a.layout.now.model in
    let room = piece_room m a.layout.now.formed a.bound a.row a.piece c.requires.2 c.requires.3 in
    let whole = of_step m a.bound a.row a.piece c.if-row-eq0.false c.if-row-bound.true in
    let count = row_step m a.bound a.row c.if-row-eq0.false c.if-row-bound.true in
    (omega (arith, c.requires.0, c.if-row-eq0.false, c.if-row-bound.true), omega (arith, c.requires.2, count), room_as whole room)

pub returns-then-row-bound : goal.returns-then-row-bound
returns-then-row-bound c =
    let a = c.args in
    let m = a.layout.now.model in
    let whole = of_step m a.bound a.row a.piece c.if-row-eq0.false c.if-row-bound.true in
    wrote_as whole c.put_step_piece.ensures

pub put_end-requires : goal.put_end-requires
put_end-requires c =
    let a = c.args in
    let m = a.layout.now.model in
    let room = piece_room m a.layout.now.formed a.bound a.row a.piece c.requires.2 c.requires.3 in
    let whole = of_end m a.bound a.row a.piece c.if-row-bound.false in
    (c.requires.0, room_as whole room)

pub returns-else-row-bound : goal.returns-else-row-bound
returns-else-row-bound c =
    let a = c.args in
    let m = a.layout.now.model in
    let whole = of_end m a.bound a.row a.piece c.if-row-bound.false in
    wrote_as whole c.put_end.ensures
