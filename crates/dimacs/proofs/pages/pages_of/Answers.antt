-- pages_of: one page of the first line, else the pieces of the list's row.
use Rattle.std.proofs.Common.{arith}
use Rattle.dimacs.proofs.PageLaws.{pages_first, pages_later, pages_most}
use Rattle.dimacs.proofs.pages.pages_of.Goals as goal

pub returns-then-row-eq0 : goal.returns-then-row-eq0
returns-then-row-eq0 c =
    let a = c.args in
    (omega (arith, pages_first a.layout.now.model a.bound a.row c.if-row-eq0.true), omega arith)

pub returns : goal.returns
returns c =
    let a = c.args in
    let l = a.layout.now in
    let later = pages_later l.model a.bound a.row c.if-row-eq0.false in
    let most = pages_most l.model l.formed a.bound c.requires a.row in
    (omega (arith, later, c.row_pieces.ensures), omega (arith, later, most, c.row_pieces.ensures))
