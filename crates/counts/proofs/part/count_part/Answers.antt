-- `count_part`: for each rule the sum over the values in closed form.
use Rattle.std.proofs.Common.{arith, rules, ap, sym, ◌∙◌, ◌≡◌, ◌*◌, ℕ, ℤ, to_z, of_z, w8}
use mathlib.Core.Logic.{⊎_elim}
use Rattle.model.specs.Indexed.{sum_below}
use Rattle.model.proofs.IndexedLaws.{sum_const}
use Rattle.parts.specs.declared.Rule.TheVariants.{Exclude, Shift}
use Rattle.counts.specs.PartCounts.{rule_words}
use Rattle.counts.proofs.PartLaws.{rule_sum_le, exclude_words}
use Rattle.counts.proofs.part.count_part.Goals as goal

pub overflow_mul-result : goal.overflow_mul-result
overflow_mul-result c =
    record { fits = omega (arith, c.failing_count-failing.ensures, rule_sum_le (Exclude c.in-Exclude.relation c.in-Exclude.constant) c.args.p.size) }

pub returns-in-Exclude : goal.returns-in-Exclude
returns-in-Exclude c =
    let n = c.args.p.size in
    rw c.in-Exclude.is
    (c.failing_count-failing.ensures, ap (λ (k : ℕ). k * 3) c.failing_count-failing.ensures ∙ sym (exclude_words c.in-Exclude.relation c.in-Exclude.constant n))

pub returns-in-Keep : goal.returns-in-Keep
returns-in-Keep c =
    let n = c.args.p.size in
    ⊎_elim
    (λ e. rw e (omega (arith, sum_const n 1), sym (sum_const n 4)))
    (λ e. rw e.2 (omega (arith, sum_const n 1), sym (sum_const n 4))) c.in-Keep.is

pub returns-in-Shift : goal.returns-in-Shift
returns-in-Shift c =
    let n = c.args.p.size in
    let exact : to_z w8 (of_z w8 c.in-Shift.offset) ≡ c.in-Shift.offset = search rules in
    rw c.in-Shift.is (
      omega (arith, sum_const n 1),
      c.shift_words.ensures ∙ ap (λ (z : ℤ). sum_below (rule_words (Shift z c.in-Shift.greatest)) n) exact,
    )

pub returns-in-Set : goal.returns-in-Set
returns-in-Set c =
    let n = c.args.p.size in
    rw c.in-Set.is (omega (arith, sum_const n 1), sym (sum_const n 3))

pub returns-in-Forbid : goal.returns-in-Forbid
returns-in-Forbid c =
    let n = c.args.p.size in
    rw c.in-Forbid.is (omega (arith, sum_const n 1), sym (sum_const n 2))
