-- put_cut_row: a piece a turn, each from where the one before ended.
use Rattle.std.proofs.Common.{arith, sym, ◌≡◌, ◌<◌}
use Rattle.buffer.proofs.BufferLaws.{wrote_as, wrote_each, wrote_each_none, room_as, room_each}
use Rattle.emission.specs.Cut.{row_pieces, piece_of}
use Rattle.dimacs.specs.File.{lines_of}
use Rattle.dimacs.proofs.BaseLaws.{piece_texts, piece_lines, row_pieces_joined}
use Rattle.dimacs.proofs.rows.put_cut_row.Goals as goal

pub loop-p-init : goal.loop-p-init
loop-p-init c = wrote_each_none _ _ _ (omega (arith, c.requires.3.room))

pub put_base_piece-count-requires : goal.put_base_piece-count-requires
put_base_piece-count-requires c =
    (c.requires.1, omega (arith, c.loop-p-test.true, c.row_pieces-p-end.ensures))

pub put_words-end-requires : goal.put_words-end-requires
put_words-end-requires c =
    let a = c.args in
    let pre = c.requires in
    let l = a.layout.now in
    let k = a.bound in
    let r = a.row in
    let p = c.loop-p.p in
    let in_row : p < row_pieces l.model k r = omega (arith, c.loop-p-test.true, c.row_pieces-p-end.ensures) in
    let held = c.put_base_piece-count.ensures in
    let text = piece_lines l.model l.formed k r pre.0 pre.1 pre.2 p in_row held.front in
    let whole = room_as (row_pieces_joined l.model k r) pre.3 in
    let room = room_each (λ i. lines_of (piece_of l.model k r i)) p (row_pieces l.model k r) c.loop-p.invariant in_row whole in
    (pre.2.long, piece_texts l.model l.formed k r pre.0 pre.1 pre.2 p in_row held.front, room_as (sym text) room)

pub loop-p-preserved : goal.loop-p-preserved
loop-p-preserved c =
    let a = c.args in
    let pre = c.requires in
    let l = a.layout.now in
    let k = a.bound in
    let r = a.row in
    let p = c.loop-p.p in
    let in_row : p < row_pieces l.model k r = omega (arith, c.loop-p-test.true, c.row_pieces-p-end.ensures) in
    let piece = c.put_base_piece-count.ensures in
    let text = piece_lines l.model l.formed k r pre.0 pre.1 pre.2 p in_row piece.front in
    wrote_each (λ i. lines_of (piece_of l.model k r i)) p c.loop-p.invariant (wrote_as (sym text) c.put_words-end.ensures)

pub returns : goal.returns
returns c =
    let a = c.args in
    let m = a.layout.now.model in
    let done : c.loop-p.p ≡ row_pieces m a.bound a.row = omega (arith, c.row_pieces-p-end.ensures, c.loop-p-test.false) in
    wrote_as (row_pieces_joined m a.bound a.row) (rw done at c.loop-p.invariant)
