-- row_bytes: the whole row at once, or piece after piece.
use Rattle.std.proofs.Common.{arith, ap, ◌∙◌, length}
use lib.Seq.{length-take-le}
use Rattle.dimacs.specs.Rows.{FewWords}
use Rattle.dimacs.proofs.BaseLaws.{row_texts, row_lines, held_row_most}
use Rattle.dimacs.proofs.rows.row_bytes.Goals as goal

pub words_bytes-requires : goal.words_bytes-requires
words_bytes-requires c =
    let a = c.args in
    let pre = c.requires in
    let l = a.layout.now in
    let few : FewWords l.model = omega (arith, pre.0.words, c.if-one-le-WORDS.true) in
    let held = c.put_base_row-count.ensures in
    let most = held_row_most l.model l.formed a.bound a.row few held in
    let texts = c.fill_row.ensures in (
      omega (arith, most, length-take-le _ c.put_base_row-count.new.words held.fits),
      texts.long,
      row_texts l.model l.formed a.bound a.row pre.1 pre.2 texts held.front,
    )

pub returns-then-one-le-WORDS : goal.returns-then-one-le-WORDS
returns-then-one-le-WORDS c =
    let a = c.args in
    let pre = c.requires in
    let l = a.layout.now in
    let held = c.put_base_row-count.ensures in
    let texts = c.fill_row.ensures in
    let text = row_lines l.model l.formed a.bound a.row pre.1 pre.2 texts held.front in
    (c.words_bytes.ensures ∙ ap length text, texts.long)
