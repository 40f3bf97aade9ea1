-- cut_row_bytes: the bytes of a piece a turn.
use Rattle.std.proofs.Common.{arith, sym, ap, ◌≡◌, ◌∙◌, ◌<◌, ℕ, length, List}
use lib.ListN.{length-append}
use lib.Seq.{length-take-le}
use Rattle.model.specs.Indexed.{each}
use Rattle.model.proofs.IndexedLaws.{each_zero}
use Rattle.list.proofs.ListLaws.{each_more}
use Rattle.emission.specs.Cut.{row_pieces, piece_of}
use Rattle.emission.proofs.CutLaws.{row_pieces_most}
use Rattle.dimacs.specs.File.{lines_of}
use Rattle.dimacs.proofs.BaseLaws.{piece_texts, piece_lines, row_pieces_joined, held_piece_most}
use Rattle.dimacs.proofs.PageLaws.{piece_most}
use Rattle.dimacs.proofs.rows.cut_row_bytes.Goals as goal

pub loop-piece-init : goal.loop-piece-init
loop-piece-init c = (sym (ap length (each_zero _)), omega arith)

pub put_base_piece-count-requires : goal.put_base_piece-count-requires
put_base_piece-count-requires c =
    (c.requires.1, omega (arith, c.loop-piece-test.true, c.row_pieces-piece-end.ensures))

pub words_bytes-bytes-requires : goal.words_bytes-bytes-requires
words_bytes-bytes-requires c =
    let a = c.args in
    let pre = c.requires in
    let l = a.layout.now in
    let p = c.loop-piece.piece in
    let in_row : p < row_pieces l.model a.bound a.row = omega (arith, c.loop-piece-test.true, c.row_pieces-piece-end.ensures) in
    let held = c.put_base_piece-count.ensures in
    let texts = piece_texts l.model l.formed a.bound a.row pre.0 pre.1 pre.2 p in_row held.front in
    let most = held_piece_most l.model l.formed a.bound a.row p in_row held in
    (omega (arith, most, length-take-le _ c.put_base_piece-count.new.words held.fits), pre.2.long, texts)

pub overflow_add-bytes : goal.overflow_add-bytes
overflow_add-bytes c =
    let a = c.args in
    let pre = c.requires in
    let l = a.layout.now in
    let k = a.bound in
    let r = a.row in
    let p = c.loop-piece.piece in
    let in_row : p < row_pieces l.model k r = omega (arith, c.loop-piece-test.true, c.row_pieces-piece-end.ensures) in
    let held = c.put_base_piece-count.ensures in
    let text = piece_lines l.model l.formed k r pre.0 pre.1 pre.2 p in_row held.front in
    let most = piece_most l.model l.formed k pre.0 r p pre.1 in_row in
    omega (arith, c.words_bytes-bytes.ensures, ap length text, most, c.loop-piece.invariant.1, row_pieces_most l.model l.formed k r, in_row)

pub loop-piece-preserved : goal.loop-piece-preserved
loop-piece-preserved c =
    let a = c.args in
    let pre = c.requires in
    let l = a.layout.now in
    let k = a.bound in
    let r = a.row in
    let p = c.loop-piece.piece in
    let f : ℕ → List ℕ = λ i. lines_of (piece_of l.model k r i) in
    let in_row : p < row_pieces l.model k r = omega (arith, c.loop-piece-test.true, c.row_pieces-piece-end.ensures) in
    let held = c.put_base_piece-count.ensures in
    let text = piece_lines l.model l.formed k r pre.0 pre.1 pre.2 p in_row held.front in
    let most = piece_most l.model l.formed k pre.0 r p pre.1 in_row in
    let bytes = c.words_bytes-bytes.ensures in (
      omega (arith, c.loop-piece.invariant.0, bytes, ap length text, ap length (each_more p f), length-append (each p f) (f p)),
      omega (arith, c.loop-piece.invariant.1, bytes, ap length text, most),
    )

pub returns : goal.returns
returns c =
    let a = c.args in
    let m = a.layout.now.model in
    let done : c.loop-piece.piece ≡ row_pieces m a.bound a.row = omega (arith, c.row_pieces-piece-end.ensures, c.loop-piece-test.false) in
    rw done at c.loop-piece.invariant.0 ∙ ap length (sym (row_pieces_joined m a.bound a.row))
