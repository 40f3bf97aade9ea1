-- A part has as many clauses and words as its rule and its size say, whatever the numbers of its variables; and what the sums over its values are.
use mathlib.Core.Path.{◌≡◌, refl, sym, ap, ap₂, ◌∙◌}
use mathlib.Core.Bool.{Bool, true, false, cond, not}
use mathlib.Core.List.{List, [], ◌∷◌, map}
use mathlib.Core.Logic.{⊎_elim}
use Rattle.std.specs.Prelude.{Option, None, Some}
use Prim.Native.Nat.{ℕ, zero, suc, ◌+◌, ◌-◌, ◌*◌, ◌≤◌, ◌<◌, min}
use native.Mathlib.Omega.{arith}
use lib.Dec.{eqb, ltb}
use lib.ListN.{length, length-append}
use borrow.Author.Tests.{lt-ltb, le-ltb, le-leb, lt-leb, ne_eqb, eq-eqb}
use Rattle.model.specs.declared.Relation.{Relation}
use Rattle.model.specs.declared.Relation.TheVariants.{Less, LessEqual, Equal, GreaterEqual, Greater, NotEqual}
use Rattle.model.specs.Indexed.{each, sum_below}
use Rattle.model.specs.Automaton.{meets, shifted}
use Rattle.model.proofs.IndexedLaws.{length_each, sum_below_lem, sum_none, sum_suc, sum_closed, lt_or_le}
use Rattle.list.specs.Clauses.{Clause, bare, negated, one, clause_words, words_of}
use Rattle.list.specs.Lists.{to_list}
use Rattle.list.proofs.OneHot.{words_app}
use Rattle.parts.specs.declared.Rule.{Rule}
use Rattle.parts.specs.declared.Rule.TheVariants.{Exclude, Keep, Rise, Shift, Set, Forbid}
use Rattle.parts.specs.declared.Part.{Part}
use Rattle.parts.specs.Rules.{rule_clauses, value_clauses, part_clauses}
use Rattle.counts.specs.Counted.{Counted}
use Rattle.counts.specs.PartCounts.{rule_count, rule_words, part_count, part_words}
use Rattle.counts.proofs.CountLaws.{Most, by_count}

-- ---- the clauses of a part
rule_count_lem : (x y z v : ℕ) (r : Rule) → length (rule_clauses x y z v r) ≡ rule_count r v
unfolding one
rule_count_lem x y z v (Exclude relation constant) = by (meets relation v constant)
  where
    by : (b : Bool) → length {A = Clause} (cond b [] (one (negated x ∷ negated y ∷ []))) ≡ cond b 0 1
    by true = refl
    by false = refl
rule_count_lem x y z v Keep = refl
rule_count_lem x y z v (Rise d top) = refl
rule_count_lem x y z v (Shift offset greatest) = refl
rule_count_lem x y z v (Set u) = refl
rule_count_lem x y z v Forbid = refl

pub part_count_lem : (x : ℕ) (p : Part) → length (part_clauses x p) ≡ part_count p
unfolding part_clauses value_clauses
part_count_lem x p = length_each (rule_count p.rule) p.size (value_clauses x p) (λ v. rule_count_lem x (p.before + v) p.after v p.rule)

-- ---- the words of a part
rule_words_lem : (x y z v : ℕ) (r : Rule) → length (words_of (rule_clauses x y z v r)) ≡ rule_words r v
unfolding one words_of clause_words
rule_words_lem x y z v (Exclude relation constant) = by (meets relation v constant)
  where
    by : (b : Bool) → length (words_of (cond b [] (one (negated x ∷ negated y ∷ [])))) ≡ cond b 0 3
    by true = refl
    by false = refl
rule_words_lem x y z v Keep = refl
rule_words_lem x y z v (Rise d top) = refl
rule_words_lem x y z v (Shift offset greatest) = by (shifted offset greatest v)
  where
    by : (u : Option ℕ) → length (words_of (one (negated x ∷ negated y ∷ map (λ w. bare (z + w)) (to_list u)))) ≡ 3 + length (to_list u)
    by None = refl
    by (Some w) = refl
rule_words_lem x y z v (Set u) = refl
rule_words_lem x y z v Forbid = refl

pub words_each : (len : ℕ → ℕ) (n : ℕ) (f : ℕ → List Clause) → ((i : ℕ) → length (words_of (f i)) ≡ len i) → length (words_of (each n f)) ≡ sum_below len n
unfolding each sum_below words_of
words_each len zero f h = refl
words_each len (suc n) f h =
    ap length (words_app (each n f) (f n)) ∙ length-append (words_of (each n f)) (words_of (f n)) ∙ ap₂ (λ (i j : ℕ). i + j) (words_each len n f h) (h n)

pub part_words_lem : (x : ℕ) (p : Part) → length (words_of (part_clauses x p)) ≡ part_words p
unfolding part_clauses value_clauses
part_words_lem x p = words_each (rule_words p.rule) p.size (value_clauses x p) (λ v. rule_words_lem x (p.before + v) p.after v p.rule)

pub counted_part : (x : ℕ) (p : Part) {a b : ℕ} → a ≡ part_count p → b ≡ part_words p → Counted (part_clauses x p) a b
counted_part x p h k = record { clauses_are = h ∙ sym (part_count_lem x p); words_are = k ∙ sym (part_words_lem x p) }

-- ---- at most a clause of three literals for each value
one_or_none : (x : Option ℕ) → length (to_list x) ≤ 1
one_or_none None = omega arith
one_or_none (Some a) = omega arith

unless : (b : Bool) (n : ℕ) → cond b 0 n ≤ n
unless true n = omega arith
unless false n = omega arith

rule_count_le : (r : Rule) (v : ℕ) → rule_count r v ≤ 1
rule_count_le (Exclude relation constant) v = unless (meets relation v constant) 1
rule_count_le Keep v = omega arith
rule_count_le (Rise d top) v = omega arith
rule_count_le (Shift offset greatest) v = omega arith
rule_count_le (Set u) v = omega arith
rule_count_le Forbid v = omega arith

pub rule_sum_le : (r : Rule) (n : ℕ) → sum_below (rule_count r) n ≤ n
rule_sum_le r n = omega (arith, sum_below_lem (rule_count r) n 1 (λ v _. rule_count_le r v))

pub exclude_words_le : (relation : Relation) (k v : ℕ) → rule_words (Exclude relation k) v ≤ 3
exclude_words_le relation k v = unless (meets relation v k) 3

pub rule_words_le : (r : Rule) (v : ℕ) → rule_words r v ≤ 4
rule_words_le (Exclude relation constant) v = omega (arith, exclude_words_le relation constant v)
rule_words_le Keep v = omega arith
rule_words_le (Rise d top) v = omega arith
rule_words_le (Shift offset greatest) v = omega (arith, one_or_none (shifted offset greatest v))
rule_words_le (Set u) v = omega arith
rule_words_le Forbid v = omega arith

-- a part with clauses of at most w words
pub most_part : (x : ℕ) (p : Part) (w n : ℕ) → ((v : ℕ) → rule_words p.rule v ≤ w) → p.size * w ≤ n → p.size ≤ 32 → Most (part_clauses x p) 32 n
most_part x p w n h k l =
    by_count (counted_part x p refl refl) (omega (arith, rule_sum_le p.rule p.size))
    (omega (arith, sum_below_lem (rule_words p.rule) p.size w (λ v _. h v)))

pub part_most : (x : ℕ) (p : Part) → p.size ≤ 32 → Most (part_clauses x p) 32 128
part_most x p l = most_part x p 4 128 (rule_words_le p.rule) (omega arith) l

-- ---- sums over the values
-- how many of n values fail a comparison with k
module _ (k : ℕ) where
  abbrev fails : Relation → ℕ → ℕ
  fails relation = rule_count (Exclude relation k)

  pub fails_less : (n : ℕ) → sum_below (fails Less) n ≡ n - min n k
  fails_less = sum_closed (fails Less) (λ n. n - min n k) (omega arith) (λ n. ⊎_elim
      (λ l. rw (lt-ltb n k l) (omega arith)) (λ l. rw (le-ltb n k l) (omega arith)) (lt_or_le n k))

  pub fails_less_equal : (n : ℕ) → sum_below (fails LessEqual) n ≡ n - min n (k + 1)
  fails_less_equal = sum_closed (fails LessEqual) (λ n. n - min n (k + 1)) (omega arith) (λ n. ⊎_elim
      (λ l. rw (lt-leb n k l) (omega arith)) (λ l. rw (le-leb n k l) (omega arith)) (lt_or_le k n))

  pub fails_greater_equal : (n : ℕ) → sum_below (fails GreaterEqual) n ≡ min n k
  fails_greater_equal = sum_closed (fails GreaterEqual) (λ n. min n k) (omega arith) (λ n. ⊎_elim
      (λ l. rw (lt-leb k n l) (omega arith)) (λ l. rw (le-leb k n l) (omega arith)) (lt_or_le n k))

  pub fails_greater : (n : ℕ) → sum_below (fails Greater) n ≡ min n (k + 1)
  fails_greater = sum_closed (fails Greater) (λ n. min n (k + 1)) (omega arith) (λ n. ⊎_elim
      (λ l. rw (lt-ltb k n l) (omega arith)) (λ l. rw (le-ltb k n l) (omega arith)) (lt_or_le k n))

  abbrev found : ℕ → ℕ
  found n = cond (ltb k n) 1 0

  -- k is found among n + 1 values if it was found before or is n
  found_next : (C : ℕ → ℕ → Bool → Type 0) (n : ℕ) → (n < k → C 0 0 false) → (n ≡ k → C 1 0 true) → (k < n → C 1 1 false)
      → C (found (suc n)) (found n) (eqb n k)
  found_next C n a b d = ⊎_elim
      (λ l. rw (le-ltb k (suc n) (omega arith), le-ltb k n (omega arith), ne_eqb n k (λ q. omega arith)) (a l))
      (λ l. ⊎_elim
      (λ w. rw (lt-ltb k (suc n) (omega arith), lt-ltb k n w, ne_eqb n k (λ q. omega arith)) (d w))
      (λ w. rw (lt-ltb k (suc n) (omega arith), le-ltb k n w, eq-eqb n k (omega arith)) (b (omega arith)))
      (lt_or_le k n)) (lt_or_le n k)

  pub fails_not_equal : (n : ℕ) → sum_below (fails NotEqual) n ≡ found n
  fails_not_equal = sum_closed (fails NotEqual) found (rw (le-ltb k 0 (omega arith)))
      (λ n. found_next (λ s t e. s ≡ t + cond (not e) 0 1) n (λ l. refl) (λ l. refl) (λ l. refl))

  pub fails_equal : (n : ℕ) → sum_below (fails Equal) n ≡ n - found n
  fails_equal = sum_closed (fails Equal) (λ n. n - found n) (omega arith)
      (λ n. found_next (λ s t e. suc n - s ≡ n - t + cond e 0 1) n (λ l. omega arith) (λ l. omega arith) (λ l. omega arith))

-- the clauses of an atom have two literals
pub exclude_words : (relation : Relation) (k n : ℕ) → sum_below (rule_words (Exclude relation k)) n ≡ sum_below (rule_count (Exclude relation k)) n * 3
exclude_words relation k =
    sum_closed (rule_words (Exclude relation k)) (λ n. sum_below (rule_count (Exclude relation k)) n * 3)
    (omega (arith, sum_none (rule_count (Exclude relation k)))) (λ n. omega (arith, sum_suc (rule_count (Exclude relation k)) n, three (meets relation n k)))
  where
    three : (b : Bool) → cond b 0 3 ≡ cond b 0 1 * 3
    three true = refl
    three false = refl
