-- `judge_whole_line`: the tokens of a line, by its form: `line_alone`, and `line_words` where it has literals.
use native.Mathlib.Omega.{arith}
use borrow.Author.Rules.{rules}
use mathlib.Core.Path.{sym, ap, ◌∙◌}
use Rattle.std.proofs.lemmas.Grind.{common_steps}
use Rattle.std.proofs.lemmas.Iterator.Consumers.{fold_from_yields_List, YieldsList-from_first}
use Rattle.output.specs.Counting.{literal_up_to, literals_left, count, count_literal}
use Rattle.output.specs.declared.literals.Literal.{Literal}
use Rattle.output.specs.declared.reading.Reading.{Reading}
use mathlib.Core.List.{map}
use lib.ListN.{drop}
use Rattle.text.specs.bytes.Bytes.{split_on}
use Rattle.output.proofs.Parts.{rest_is}
use Rattle.output.proofs.LiteralLaws.{left_is}
use Rattle.output.proofs.LineLaws.{values_long}
use Rattle.output.proofs.TokenLaws.{line_alone, line_words, fold_words}
use Rattle.output.proofs.reading.Reading.judge_whole_line.Goals as goal

pub returns-in-Some-Values : goal.returns-in-Some-Values
returns-in-Some-Values c =
    let a = c.args in
    let most = a.variables.most in
    let words = split_on 32 (drop 2 a.l.now) in
    let parts = c.new.ensures.1 ∙ ap (split_on 32) (rest_is 2 a.l.now) in
    let read = map (literal_up_to most) words in
    let folded =
    fold_from_yields_List _ (λ (r : Reading) (l : Literal). count_literal most a.limit l r) _ _ c.fold.ensures.ran
    (YieldsList-from_first (λ l. l) literals_left read (left_is c.new.result c.new.ensures.0 parts))
    (λ r l b q k. search rules) in
    line_words (count most a.limit) (literal_up_to most) a.l.now c.form-form.ensures c.judge_line-r.ensures
    (search rules) (folded ∙ fold_words most a.limit (literal_up_to most) words c.judge_line-r.result)

pub slice_bounds-new-end : goal.slice_bounds-new-end
slice_bounds-new-end c =
    let long = values_long c.args.l.now (sym c.form-form.ensures ∙ search rules) in
    omega (arith, long)

pub slice_bounds-new-count : goal.slice_bounds-new-count
slice_bounds-new-count c =
    let long = values_long c.args.l.now (sym c.form-form.ensures ∙ search rules) in
    omega (arith, long)

pub slice_bounds-new-start : goal.slice_bounds-new-start
slice_bounds-new-start c =
    let long = values_long c.args.l.now (sym c.form-form.ensures ∙ search rules) in
    omega (arith, long)

pub returns-in_default : goal.returns-in_default
returns-in_default c =
    let a = c.args in
    let most = a.variables.most in
    line_alone (count most a.limit) (literal_up_to most) a.l.now c.form-form.ensures c.judge_line-r.ensures (grind (arith, common_steps))

pub returns-in_default-2 : goal.returns-in_default-2
returns-in_default-2 c =
    let a = c.args in
    let most = a.variables.most in
    line_alone (count most a.limit) (literal_up_to most) a.l.now c.form-form.ensures c.judge_line-r.ensures (grind (arith, common_steps))
