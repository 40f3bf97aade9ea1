-- `is_positive`: the first byte decides the definition, and then the others.
use Rattle.std.proofs.Common.{rules, tests, arith, ◌∙◌}
use borrow.Author.Tests.{eq-eqb}
use Rattle.std.proofs.lemmas.Iterator.{YieldsList-from_slice}
use Rattle.std.proofs.lemmas.Iterator.Search.{all_from_yields_List}
use Rattle.text.specs.bytes.Bytes.{is_digit}
use Rattle.output.proofs.WordLaws.{digits_are, positive_none, positive_zero, positive_other}
use Rattle.output.proofs.literals.is_positive.Goals as goal

pub returns-in-empty : goal.returns-in-empty
returns-in-empty c = positive_none _ (omega arith)

pub returns-then-first-ne48 : goal.returns-then-first-ne48
returns-then-first-ne48 c =
    let d = c.args.d.now in
    all_from_yields_List is_digit _ _ _ c.all.ensures.ran (YieldsList-from_slice d cc) (λ x b q k. search (rules, tests))
    ∙ digits_are d ∙ positive_other d (λ h. omega (arith, h)) c.if-first-ne48.true

pub returns-else-first-ne48 : goal.returns-else-first-ne48
returns-else-first-ne48 c =
    let zero = c.if-first-ne48.false in
    rw (eq-eqb _ _ zero) (positive_zero c.args.d.now (λ h. omega (arith, h)) zero)
