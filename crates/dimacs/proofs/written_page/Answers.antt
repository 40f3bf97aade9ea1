-- written_page: a page is no longer than its buffer.
use Rattle.std.proofs.Common.{arith}
use Rattle.dimacs.proofs.PrintLaws.{page_printed, page_room}
use Rattle.dimacs.proofs.PageLaws.{page_most}
use Rattle.dimacs.proofs.written_page.Goals as goal

pub put_page-requires : goal.put_page-requires
put_page-requires c =
    let a = c.args in
    let p = c.requires in
    let l = a.layout.now in
    let most = page_most l.model l.formed a.bound p.0 a.row a.p p.1 p.2 in
    (c.list_counts-n.ensures, p.0, p.1, p.2, omega arith, page_room most p.3)

pub returns : goal.returns
returns c =
    page_printed c.put_page.ensures
