-- pages_to_print: none without a file, else what pages_of counts.
use Rattle.std.proofs.Common.{arith, sym, ap, ◌∙◌}
use Rattle.model.specs.declared.Model.{Model}
use Rattle.dimacs.specs.Pages.{pages_in}
use Rattle.dimacs.proofs.PrintLaws.{pages_none, pages_are}
use Rattle.dimacs.proofs.pages_to_print.Goals as goal

pub returns-then-not-has_file : goal.returns-then-not-has_file
returns-then-not-has_file c =
    let a = c.args in
    (sym (pages_none a.m a.bound a.row (sym c.has_file.ensures ∙ c.if-not-has_file.true)), omega arith)

pub returns : goal.returns
returns c =
    let a = c.args in
    let has = sym c.has_file.ensures ∙ c.if-not-has_file.false in
    let of_model = ap (λ (m : Model). pages_in m a.bound a.row) c.new.ensures in
    (c.pages_of.ensures.0 ∙ of_model ∙ sym (pages_are a.m a.bound a.row has), c.pages_of.ensures.1)
