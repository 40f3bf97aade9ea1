-- Counts add up: of two pieces, of a piece for each index; and a piece has at most so many clauses and words.
use mathlib.Core.Path.{◌≡◌, refl, sym, ap, ap₂, subst, ◌∙◌}
use mathlib.Core.List.{List, [], ◌∷◌, ◌++◌, map, append-nil}
use Prim.Native.Nat.{ℕ, zero, suc, ◌+◌, ◌*◌, ◌≤◌, ◌<◌}
use native.Mathlib.Nat.{zero-mul, suc-mul, mul-le-mul}
use native.Mathlib.Omega.{arith}
use lib.ListN.{length, length-append, length-map}
use Rattle.model.specs.Indexed.{each}
use Rattle.model.proofs.IndexedLaws.{each_zero, each_suc}
use Rattle.list.specs.Clauses.{Clause, clause_words, words_of, one}
use Rattle.list.proofs.ListLaws.{each_more}
use Rattle.list.proofs.OneHot.{words_app}
use Rattle.counts.specs.Counted.{Counted, most_piece}

-- ---- the empty piece, one clause, and two pieces
pub counted_none : Counted [] 0 0
unfolding words_of
counted_none = record { clauses_are = refl; words_are = refl }

clause_words_lem : (c : Clause) → length (clause_words c) ≡ length c + 1
unfolding clause_words
clause_words_lem c = length-append (map _ c) (_ ∷ []) ∙ ap (λ (n : ℕ). n + 1) (length-map c _)

pub counted_one : (c : Clause) → Counted (one c) 1 (length c + 1)
unfolding words_of one
counted_one c = record { clauses_are = refl; words_are = sym (ap length (append-nil (clause_words c)) ∙ clause_words_lem c) }

pub counted_app : {x y : List Clause} {a b c d : ℕ} → Counted x a b → Counted y c d → Counted (x ++ y) (a + c) (b + d)
counted_app {x} {y} p q = record {
  clauses_are = ap₂ (λ (i j : ℕ). i + j) p.clauses_are q.clauses_are ∙ sym (length-append x y);
  words_are =
      ap₂ (λ (i j : ℕ). i + j) p.words_are q.words_are ∙ sym (ap length (words_app x y) ∙ length-append (words_of x) (words_of y));
}

pub counted_is : {x : List Clause} {a b c d : ℕ} → Counted x a b → c ≡ a → d ≡ b → Counted x c d
counted_is s p q = record { clauses_are = p ∙ s.clauses_are; words_are = q ∙ s.words_are }

pub counted_as : {x y : List Clause} {a b : ℕ} → x ≡ y → Counted x a b → Counted y a b
counted_as {a = a} {b} e s = subst (λ (l : List Clause). Counted l a b) e s

pub itself : (x : List Clause) → Counted x (length x) (length (words_of x))
itself x = record { clauses_are = refl; words_are = refl }

-- ---- a piece for each index
module _ (f : ℕ → List Clause) where
  pub counted_each_none : Counted (each 0 f) 0 0
  counted_each_none = counted_as (sym (each_zero f)) counted_none

  pub counted_each_more : {i a b c d : ℕ} → Counted (each i f) a b → Counted (f i) c d → Counted (each (i + 1) f) (a + c) (b + d)
  counted_each_more {i} p q = counted_as (sym (each_more i f)) (counted_app p q)

  -- n pieces of one size
  pub counted_each : (n : ℕ) {a b : ℕ} → ((i : ℕ) → Counted (f i) a b) → Counted (each n f) (n * a) (n * b)
  counted_each zero {a} {b} h = counted_is counted_each_none (zero-mul a) (zero-mul b)
  counted_each (suc n) {a} {b} h =
      counted_as (sym (each_suc n f)) (counted_is (counted_app (counted_each n h) (h n)) (suc-mul n a) (suc-mul n b))

-- ---- at most so many clauses and words
pub record Most (x : List Clause) (clauses words : ℕ) : Type 0 where
  pub clauses_most : length x ≤ clauses
  pub words_most : length (words_of x) ≤ words

pub by_count : {x : List Clause} {a b c w : ℕ} → Counted x a b → a ≤ c → b ≤ w → Most x c w
by_count s l h = record { clauses_most = omega (arith, s.clauses_are); words_most = omega (arith, s.words_are) }

pub most_as : {x y : List Clause} {c w : ℕ} → x ≡ y → Most x c w → Most y c w
most_as {c = c} {w} e s = subst (λ (l : List Clause). Most l c w) e s

pub most_app : (x y : List Clause) {a b c d : ℕ} → Most x a b → Most y c d → Most (x ++ y) (a + c) (b + d)
most_app x y p q =
    let s = counted_app (itself x) (itself y) in
    record {
      clauses_most = omega (arith, p.clauses_most, q.clauses_most, s.clauses_are);
      words_most = omega (arith, p.words_most, q.words_most, s.words_are);
    }

module _ (f : ℕ → List Clause) (c w : ℕ) where
  most_each : (n : ℕ) → ((i : ℕ) → i < n → Most (f i) c w) → Most (each n f) (n * c) (n * w)
  most_each zero h = most_as (sym (each_zero f)) (by_count counted_none (omega arith) (omega arith))
  most_each (suc n) h =
      let p = most_app (each n f) (f n) (most_each n (λ i l. h i (omega arith))) (h n (omega arith)) in
      most_as (sym (each_suc n f))
      (record { clauses_most = omega (arith, p.clauses_most, suc-mul n c); words_most = omega (arith, p.words_most, suc-mul n w) })

  -- a pieces at most
  pub most_few : (n a : ℕ) → n ≤ a → ((i : ℕ) → i < n → Most (f i) c w) → Most (each n f) (a * c) (a * w)
  most_few n a l h =
      let p = most_each n h in
      let r : c ≤ c = omega arith in
      let t : w ≤ w = omega arith in
      record { clauses_most = omega (arith, p.clauses_most, mul-le-mul l r); words_most = omega (arith, p.words_most, mul-le-mul l t) }

-- what is counted is bounded
module _ {x : List Clause} {a b c w : ℕ} (s : Counted x a b) (m : Most x c w) where
  pub clauses_le : a ≤ c
  clauses_le = omega (arith, s.clauses_are, m.clauses_most)

  pub words_le : b ≤ w
  words_le = omega (arith, s.words_are, m.words_most)

-- a piece that is counted on its own is small
pub small_piece : {x : List Clause} {a b c w : ℕ} → Counted x a b → Most x c w → c ≤ most_piece → w ≤ most_piece → (a ≤ most_piece) × (b ≤ most_piece)
small_piece s m p q = (omega (arith, s.clauses_are, m.clauses_most, p), omega (arith, s.words_are, m.words_most, q))
