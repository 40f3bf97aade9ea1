-- `are_literals`: the invariant is that what is left is of literals if and only if all is.
use Rattle.std.proofs.Common.{sym, ◌∙◌}
use Rattle.output.proofs.WordLaws.{words_other, words_next}
use Rattle.output.proofs.literals.are_literals.Goals as goal

pub returns-then-not-names_variable : goal.returns-then-not-names_variable
returns-then-not-names_variable c =
    let named = sym c.names_variable.ensures ∙ c.if-not-names_variable.true in
    sym (words_other _ _ _ c.in-Some.ensures.0 named) ∙ c.loop-word.invariant

pub loop-word-preserved : goal.loop-word-preserved
loop-word-preserved c =
    let named = sym c.names_variable.ensures ∙ c.if-not-names_variable.false in
    sym (words_next _ _ _ c.in-Some.ensures.0 named) ∙ c.loop-word.invariant
