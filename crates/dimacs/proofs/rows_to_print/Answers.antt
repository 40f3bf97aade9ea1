-- rows_to_print: none without a file, else the first line and the rows of the list.
use Rattle.std.proofs.Common.{arith, sym, ◌∙◌}
use Rattle.dimacs.proofs.PrintLaws.{file_small, rows_none, rows_are}
use Rattle.dimacs.proofs.rows_to_print.Goals as goal

pub returns-then-not-has_file : goal.returns-then-not-has_file
returns-then-not-has_file c =
    (sym (rows_none c.args.m c.args.bound (sym c.has_file.ensures ∙ c.if-not-has_file.true)), omega arith)

pub returns : goal.returns
returns c =
    let a = c.args in
    let has = sym c.has_file.ensures ∙ c.if-not-has_file.false in
    (sym (rows_are a.m a.bound has), omega (arith, file_small a.m a.bound has))
