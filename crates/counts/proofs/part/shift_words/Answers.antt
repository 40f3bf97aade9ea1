-- `shift_words`: each value has three words and one more if its result lies in range.
use Rattle.std.proofs.Common.{rules, tests, arith, ap, ◌∙◌, ◌≡◌, ◌+◌, ℕ, Bool, length, cond, refl, is_some, Option, None, Some}
use Rattle.std.proofs.lemmas.Iterator.{YieldsList-from_range}
use Rattle.std.proofs.lemmas.Iterator.Consumers.{count_from_yields_List, YieldsList-from_filter}
use Rattle.std.proofs.lemmas.List.Sums.{length-filter}
use Rattle.std.specs.List.{filter, range_with_len}
use Rattle.model.specs.Indexed.{sum_below}
use Rattle.model.specs.Automaton.{shifted}
use Rattle.model.proofs.ByIndex.{sum_by_range}
use Rattle.model.proofs.IndexedLaws.{sum_same, sum_add, sum_const}
use Rattle.list.specs.Lists.{to_list}
use Rattle.parts.specs.declared.Rule.TheVariants.{Shift}
use Rattle.counts.specs.PartCounts.{rule_words}
use Rattle.counts.proofs.part.shift_words.Goals as goal

one_more : (x : Option ℕ) → 3 + length (to_list x) ≡ 3 + cond (is_some x) 1 0
one_more None = refl
one_more (Some v) = refl

pub returns : goal.returns
returns c =
    let a = c.args in
    let lands : ℕ → Bool = λ v. is_some (shifted a.offset a.greatest v) in
    let landing : ℕ → ℕ = λ v. cond (lands v) 1 0 in
    let here : c.count-landing.result ≡ length (filter lands (range_with_len 0 a.n)) =
    count_from_yields_List _ _ c.count-landing.ensures.ran
    (YieldsList-from_filter _ lands (YieldsList-from_range 0 a.n a.n (cc) (omega arith)) c.filter.ensures.closure (λ x r q k. search (rules, tests))) in
    let words : sum_below (rule_words (Shift a.offset a.greatest)) a.n ≡ sum_below (λ v. 3 + landing v) a.n =
    sum_same _ _ a.n (λ v l. one_more (shifted a.offset a.greatest v)) in
    let same : sum_below (λ v. landing (0 + v)) a.n ≡ sum_below landing a.n = sum_same _ _ a.n (λ v l. ap landing (omega arith)) in
    omega (arith, here ∙ length-filter lands (range_with_len 0 a.n) ∙ sum_by_range landing 0 a.n ∙ same, words, sum_add (λ _. 3) landing a.n, sum_const a.n 3)
