-- page: nothing without such a row, such a page or room for it; else written_page.
use Rattle.std.proofs.Common.{arith, ◌<◌, ◌≤◌, length}
use Rattle.dimacs.specs.Pages.{rows_to_print, pages_to_print}
use Rattle.dimacs.proofs.PrintLaws.{row_of_file, file_formed, file_small, rows_are, pages_are, no_row, no_page, no_room, some_page}
use Rattle.dimacs.proofs.PrintLaws.{printed_none, printed_as}
use Rattle.dimacs.proofs.page.Goals as goal

pub returns-then-rows_to_print-row : goal.returns-then-rows_to_print-row
returns-then-rows_to_print-row c =
    let a = c.args in
    let h : rows_to_print a.m a.bound ≤ a.row = omega (arith, c.rows_to_print.ensures.0, c.if-rows_to_print-row.true) in
    printed_none a.out.now (no_row a.m a.bound a.row a.p (length a.out.now) h)

pub returns-then-pages_to_print-p : goal.returns-then-pages_to_print-p
returns-then-pages_to_print-p c =
    let a = c.args in
    let f : a.row < rows_to_print a.m a.bound = omega (arith, c.rows_to_print.ensures.0, c.if-rows_to_print-row.false) in
    let l : pages_to_print a.m a.bound a.row ≤ a.p = omega (arith, c.pages_to_print.ensures.0, c.if-pages_to_print-p.true) in
    printed_none a.out.now (no_page a.m a.bound a.row a.p (length a.out.now) f l)

pub returns-then-out-lt-PAGE : goal.returns-then-out-lt-PAGE
returns-then-out-lt-PAGE c =
    let a = c.args in
    let f : a.row < rows_to_print a.m a.bound = omega (arith, c.rows_to_print.ensures.0, c.if-rows_to_print-row.false) in
    let g : a.p < pages_to_print a.m a.bound a.row = omega (arith, c.pages_to_print.ensures.0, c.if-pages_to_print-p.false) in
    printed_none a.out.now (no_room a.m a.bound a.row a.p (length a.out.now) f g c.if-out-lt-PAGE.true)

pub new-requires : goal.new-requires
new-requires c =
    let a = c.args in
    let f : a.row < rows_to_print a.m a.bound = omega (arith, c.rows_to_print.ensures.0, c.if-rows_to_print-row.false) in
    file_formed a.m a.bound (row_of_file a.m a.bound a.row f)

pub written_page-requires : goal.written_page-requires
written_page-requires c =
    let a = c.args in
    let f : a.row < rows_to_print a.m a.bound = omega (arith, c.rows_to_print.ensures.0, c.if-rows_to_print-row.false) in
    let g : a.p < pages_to_print a.m a.bound a.row = omega (arith, c.pages_to_print.ensures.0, c.if-pages_to_print-p.false) in
    let has = row_of_file a.m a.bound a.row f in
    rw c.new.ensures (
      file_small a.m a.bound has,
      omega (arith, f, rows_are a.m a.bound has),
      omega (arith, g, pages_are a.m a.bound a.row has),
      omega (arith, c.if-out-lt-PAGE.false),
    )

pub returns : goal.returns
returns c =
    let a = c.args in
    let f : a.row < rows_to_print a.m a.bound = omega (arith, c.rows_to_print.ensures.0, c.if-rows_to_print-row.false) in
    let g : a.p < pages_to_print a.m a.bound a.row = omega (arith, c.pages_to_print.ensures.0, c.if-pages_to_print-p.false) in
    printed_as (some_page a.m a.bound a.row a.p (length a.out.now) f g c.if-out-lt-PAGE.false) (rw c.new.ensures at c.written_page.ensures)
