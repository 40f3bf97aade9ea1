-- put_page: the first line, or a piece of a row.
use Rattle.std.proofs.Common.{arith, sym, ◌∙◌, ◌-◌, ◌<◌, ◌≤◌, ◌+◌}
use Rattle.buffer.proofs.BufferLaws.{wrote_as, room_as}
use Rattle.emission.specs.Cut.{row_pieces}
use Rattle.dimacs.proofs.BaseLaws.{piece_texts, piece_lines}
use Rattle.dimacs.proofs.PageLaws.{first_page, page_later, pages_later}
use Rattle.dimacs.proofs.pages.put_page.Goals as goal

pub put_first_line-requires : goal.put_first_line-requires
put_first_line-requires c =
    let pre = c.requires in
    let a = c.args in
    room_as (sym (first_page a.layout.now.model a.bound a.row a.p a.n pre.0 c.if-row-eq0.true)) pre.5

pub returns-then-row-eq0 : goal.returns-then-row-eq0
returns-then-row-eq0 c =
    let a = c.args in
    wrote_as (sym (first_page a.layout.now.model a.bound a.row a.p a.n c.requires.0 c.if-row-eq0.true)) c.put_first_line.ensures

pub put_base_piece-count-requires : goal.put_base_piece-count-requires
put_base_piece-count-requires c =
    let pre = c.requires in
    let a = c.args in
    (omega (arith, pre.2), omega (arith, pre.3, pages_later a.layout.now.model a.bound a.row c.if-row-eq0.false))

pub put_words-requires : goal.put_words-requires
put_words-requires c =
    let pre = c.requires in
    let a = c.args in
    let l = a.layout.now in
    let r = a.row - 1 in
    let in_row : a.p < row_pieces l.model a.bound r = omega (arith, pre.3, pages_later l.model a.bound a.row c.if-row-eq0.false) in
    let in_list : r ≤ a.bound + 1 = omega (arith, pre.2) in
    let held = c.put_base_piece-count.ensures in
    let texts = c.fill_row.ensures in
    let text = piece_lines l.model l.formed a.bound r pre.1 in_list texts a.p in_row held.front in
    let page = text ∙ sym (page_later l.model a.bound a.row a.p c.if-row-eq0.false) in
    (texts.long, piece_texts l.model l.formed a.bound r pre.1 in_list texts a.p in_row held.front, room_as (sym page) pre.5)

pub returns : goal.returns
returns c =
    let pre = c.requires in
    let a = c.args in
    let l = a.layout.now in
    let r = a.row - 1 in
    let in_row : a.p < row_pieces l.model a.bound r = omega (arith, pre.3, pages_later l.model a.bound a.row c.if-row-eq0.false) in
    let in_list : r ≤ a.bound + 1 = omega (arith, pre.2) in
    let held = c.put_base_piece-count.ensures in
    let text = piece_lines l.model l.formed a.bound r pre.1 in_list c.fill_row.ensures a.p in_row held.front in
    wrote_as (sym (text ∙ sym (page_later l.model a.bound a.row a.p c.if-row-eq0.false))) c.put_words.ensures
