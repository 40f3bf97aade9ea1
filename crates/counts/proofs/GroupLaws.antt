-- The count of a group: a clause of all members, and half of n (n - 1) pairs.
use mathlib.Core.Path.{◌≡◌, refl, sym, ap, ◌∙◌}
use mathlib.Core.List.{List, [], ◌∷◌, ◌++◌}
use Prim.Native.Nat.{ℕ, zero, suc, ◌+◌, ◌-◌, ◌*◌, ◌/◌, ◌≤◌}
use native.Mathlib.Nat.{zero-mul, suc-mul, add-mul, mul-suc, mul-zero, le_refl, mul-le-mul}
use native.Mathlib.Omega.{arith}
use lib.ListN.{length, length-append}
use Rattle.model.specs.Indexed.{each}
use Rattle.model.proofs.IndexedLaws.{each_zero, each_suc}
use Rattle.list.specs.Clauses.{Literal, Clause, clause_words, words_of, one, members, pairs, group_clauses, negated}
use Rattle.list.proofs.OneHot.{words_app}
use Rattle.counts.specs.Counted.{Counted}
use Rattle.counts.proofs.CountLaws.{counted_one, Most, by_count}

-- (n - 1) + (n - 2) + .., j summands
fewer : ℕ → ℕ → ℕ
fewer n zero = 0
fewer n (suc j) = fewer n j + (n - (j + 1))

fewer_is : (n j : ℕ) → j ≤ n → 2 * fewer n j + j * suc j ≡ 2 * (n * j)
unfolding fewer
fewer_is n zero h = omega (arith, zero-mul 1, mul-zero n)
fewer_is n (suc j) h = omega (arith, fewer_is n j (omega arith), mul-suc n j, suc-mul j (suc (suc j)), mul-suc j (suc j))

-- all of them: half of n (n - 1)
fewer_half : (n : ℕ) → fewer n n ≡ (n * n - n) / 2
fewer_half n = omega (arith, fewer_is n n (le_refl n), mul-suc n n)

-- a measure of lists of clauses that adds up
record Measure (size : List Clause → ℕ) : Type 0 where
  none : size [] ≡ 0
  append : (x y : List Clause) → size (x ++ y) ≡ size x + size y

by_clauses : Measure length
by_clauses = record { none = refl; append = length-append }

by_words : Measure (λ l. length (words_of l))
unfolding words_of
by_words = record { none = refl; append = λ x y. ap length (words_app x y) ∙ length-append (words_of x) (words_of y) }

module _ (size : List Clause → ℕ) (m : Measure size) where
  measured_none : (f : ℕ → List Clause) → size (each 0 f) ≡ 0
  measured_none f = ap size (each_zero f) ∙ m.none

  measured_suc : (f : ℕ → List Clause) (n : ℕ) → size (each (suc n) f) ≡ size (each n f) + size (f n)
  measured_suc f n = ap size (each_suc n f) ∙ m.append (each n f) (f n)

  -- n pieces of one size
  measured_each : (f : ℕ → List Clause) (s n : ℕ) → ((i : ℕ) → size (f i) ≡ s) → size (each n f) ≡ n * s
  measured_each f s zero h = measured_none f ∙ sym (zero-mul s)
  measured_each f s (suc n) h = omega (arith, measured_suc f n, measured_each f s n h, h n, suc-mul n s)

  -- rows that get shorter by one
  measured_rows : (f : ℕ → List Clause) (s n j : ℕ) → ((i : ℕ) → size (f i) ≡ (n - (i + 1)) * s) → size (each j f) ≡ fewer n j * s
  unfolding fewer
  measured_rows f s n zero h = measured_none f ∙ sym (zero-mul s)
  measured_rows f s n (suc j) h = omega (arith, measured_suc f j, measured_rows f s n j h, h j, add-mul (fewer n j) (n - (j + 1)) s)

  measured_pairs : (b n s : ℕ) → ((x y : Literal) → size (one (x ∷ y ∷ [])) ≡ s) → size (pairs b n) ≡ fewer n n * s
  unfolding pairs
  measured_pairs b n s h = measured_rows _ s n n (λ i. measured_each _ s (n - (i + 1)) (λ j. h (negated (b + i)) (negated (b + i + 1 + j))))

members_length : (b n : ℕ) → length (members b n) ≡ n
unfolding members
members_length b zero = ap length (each_zero _)
members_length b (suc n) = ap length (each_suc n _) ∙ length-append (each n _) (_ ∷ []) ∙ omega (arith, members_length b n)

pair_words : (x y : Literal) → length (words_of (one (x ∷ y ∷ []))) ≡ 3
unfolding words_of one clause_words
pair_words x y = refl

one_clause : (x y : Literal) → length (one (x ∷ y ∷ [])) ≡ 1
unfolding one
one_clause x y = refl

pub counted_group : (b n : ℕ) → Counted (group_clauses b n) (1 + (n * n - n) / 2) (n + 1 + (n * n - n) / 2 * 3)
unfolding group_clauses
counted_group b n =
    let head = counted_one (members b n) in
    record {
      clauses_are = sym (length-append (one (members b n)) (pairs b n) ∙ omega
          (arith, head.clauses_are, measured_pairs length by_clauses b n 1 one_clause, fewer_half n));
      words_are = sym (by_words.append (one (members b n)) (pairs b n) ∙ omega
          (arith, head.words_are, members_length b n, measured_pairs (λ l. length (words_of l)) by_words b n 3 pair_words, fewer_half n));
    }

-- ---- groups of up to 16, 32 and 64 members
module _ (b n : ℕ) where
  pub group_16 : n ≤ 16 → Most (group_clauses b n) 121 377
  group_16 l = let r : n ≤ n = omega arith in by_count (counted_group b n) (omega (arith, mul-le-mul l r)) (omega (arith, mul-le-mul l r))

  pub group_32 : n ≤ 32 → Most (group_clauses b n) 497 1521
  group_32 l = let r : n ≤ n = omega arith in by_count (counted_group b n) (omega (arith, mul-le-mul l r)) (omega (arith, mul-le-mul l r))

  pub group_64 : n ≤ 64 → Most (group_clauses b n) 2017 6113
  group_64 l = let r : n ≤ n = omega arith in by_count (counted_group b n) (omega (arith, mul-le-mul l r)) (omega (arith, mul-le-mul l r))
