-- Clauses that begin with the negation of x are all true where x is false, so a search passes over them by their number.
use mathlib.Core.Path.{◌≡◌, refl}
use mathlib.Core.List.{List, [], ◌∷◌}
use mathlib.Core.Bool.{Bool, true, false, cond}
use Prim.Native.Nat.{ℕ, zero, suc, ◌+◌}
use native.Mathlib.Omega.{arith}
use lib.ListN.{length}
use Rattle.model.specs.Indexed.{each}
use Rattle.model.specs.Automaton.{meets}
use Rattle.model.proofs.IndexedLaws.{each_suc, length_each, sum_const}
use Rattle.list.specs.Clauses.{negated, Clause, one}
use Rattle.list.specs.Assignments.{bit, true_before}
use Rattle.parts.specs.declared.Rule.{Rule}
use Rattle.parts.specs.declared.Rule.TheVariants.{Exclude, Keep, Rise, Shift, Set, Forbid}
use Rattle.parts.specs.declared.Part.{Part}
use Rattle.parts.specs.Rules.{rule_clauses, value_clauses, part_clauses}
use Rattle.parts.proofs.PartLengths.{one_length}
use Rattle.search.proofs.CheckLaws.{Passed, passed_none, passed_then, passed_each_none}

-- all clauses of a piece are true
abbrev pub AllTrue : List ℕ → List Clause → Type 0
AllTrue a cs = true_before a cs ≡ length cs

pub passed_over : {a : List ℕ} {cs : List Clause} {i j n : ℕ} → AllTrue a cs → n ≡ length cs → j ≡ i + n → Passed a cs i j
passed_over h l e = record { count = omega (arith, l, e); all = h }

pub all_each : (a : List ℕ) (f : ℕ → List Clause) (n : ℕ) → ((v : ℕ) → AllTrue a (f v)) → AllTrue a (each n f)
all_each a f zero h = (passed_each_none a f 0).all
all_each a f (suc n) h = rw (each_suc n f) (passed_then {i = 0} (passed_over (all_each a f n h) refl refl) (passed_over (h n) refl refl)).all

module _ (a : List ℕ) (x : ℕ) (h : bit a x ≡ false) where
  led_true : (c : Clause) → AllTrue a (one (negated x ∷ c))
  unfolding true_before one
  led_true c = rw h

  rule_true : (y after v : ℕ) (r : Rule) → AllTrue a (rule_clauses x y after v r)
  rule_true y after v (Exclude relation constant) = by (meets relation v constant)
    where
      by : (b : Bool) → AllTrue a (cond b [] (one (negated x ∷ negated y ∷ [])))
      by true = (passed_none a 0).all
      by false = led_true (negated y ∷ [])
  rule_true y after v Keep = led_true _
  rule_true y after v (Rise d top) = led_true _
  rule_true y after v (Shift offset greatest) = led_true _
  rule_true y after v (Set u) = led_true _
  rule_true y after v Forbid = led_true _

  pub part_true : (p : Part) → AllTrue a (part_clauses x p)
  unfolding part_clauses value_clauses
  part_true p = all_each a (value_clauses x p) p.size (λ v. rule_true (p.before + v) p.after v p.rule)

-- the pairs of a member of a group with those after it
pub row_true : (a : List ℕ) (x y n : ℕ) → bit a x ≡ false → AllTrue a (each n (λ d. one (negated x ∷ negated (y + d) ∷ [])))
row_true a x y n h = all_each a (λ d. one (negated x ∷ negated (y + d) ∷ [])) n (λ d. led_true a x h _)

pub row_length : (x y n : ℕ) → n ≡ length (each n (λ d. one (negated x ∷ negated (y + d) ∷ [])))
row_length x y n = omega (arith, length_each (λ _. 1) n (λ d. one (negated x ∷ negated (y + d) ∷ [])) (λ d. one_length _), sum_const n 1)
