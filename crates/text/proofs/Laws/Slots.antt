-- Slots of which the first k are filled: those pass one test, the others another.
use Prim.Native.Nat.{ℕ, ◌+◌, ◌≤◌, ◌<◌, zero-le}
use mathlib.Core.Path.{◌≡◌, refl, sym, ap, ◌∙◌, subst}
use mathlib.Core.Logic.{⊎_elim}
use mathlib.Core.List.{List, [], ◌∷◌, foldl}
use mathlib.Core.Bool.{Bool, true, false, cond}
use native.Mathlib.Omega.{arith}
use lib.Dec.{T, ltb}
use lib.ListN.{length, get_or, set, replicate, length-set, length-replicate, get_or-replicate}
use lib.Seq.{get_or-set_same, get_or-set_other, set_out}
use borrow.Author.Tests.{lt-ltb, le-ltb, ltb-false}
use Rattle.model.proofs.IndexedLaws.{lt_or_le}
use Rattle.text.specs.bytes.Faulty.{any_of}
use Rattle.text.proofs.bytes.Flags.{any_head, any_tail}

pub three_ways : {C : Type 0} (i k : ℕ) → (i < k → C) → (i ≡ k → C) → (k < i → C) → C
three_ways i k below same above = ⊎_elim below (λ l. ⊎_elim above (λ r. same (omega arith)) (lt_or_le k i)) (lt_or_le i k)

-- n slots, of which k are filled; A tests a filled slot, B another; d stands for a slot that is not there
pub record Filled {X : Type 0} (A B : X → Bool) (d : X) (n k : ℕ) (l : List X) : Type 0 where
  pub long : length l ≡ n
  pub slot : (i : ℕ) → i < n → T (cond (ltb i k) (A (get_or l i d)) (B (get_or l i d)))

pub fill_none : {X : Type 0} (A B : X → Bool) (d : X) (n : ℕ) (x : X) → T (B x) → Filled A B d n 0 (replicate n x)
fill_none A B d n x h = record { long = length-replicate n x; slot = λ i p. rw (le-ltb i 0 zero-le, get_or-replicate n i x d p) h }

-- slots that pass both tests, whichever count as filled
pub fill_both : {X : Type 0} (A B : X → Bool) (d : X) (n k : ℕ) (x : X) → T (A x) → T (B x) → Filled A B d n k (replicate n x)
fill_both A B d n k x a b = record { long = length-replicate n x; slot = λ i p. rw (get_or-replicate n i x d p) (go (ltb i k)) }
  where
    go : (t : Bool) → T (cond t (A x) (B x))
    go true = a
    go false = b

module _ {X : Type 0} {A B : X → Bool} {d : X} {n k : ℕ} {l : List X} (f : Filled A B d n k l) where
  at_put : (j : ℕ) (x : X) (i : ℕ) → i < n → i ≡ j → get_or (set l j x) i d ≡ x
  at_put j x i p e = ap (λ (h : ℕ). get_or (set l j x) h d) e ∙ get_or-set_same l j x d (omega (arith, f.long))

  -- a filled slot is filled anew
  pub fill_again : (j : ℕ) (x : X) → j < k → T (A x) → Filled A B d n k (set l j x)
  fill_again j x q a = record { long = length-set l j x ∙ f.long; slot = slot }
    where
      slot : (i : ℕ) → i < n → T (cond (ltb i k) (A (get_or (set l j x) i d)) (B (get_or (set l j x) i d)))
      slot i p =
          three_ways i j
          (λ s. rw (get_or-set_other l j i x d (λ e. omega arith)) (f.slot i p))
          (λ e. let s : i < k = omega arith in rw (lt-ltb i k s, at_put j x i p e) a)
          (λ s. rw (get_or-set_other l j i x d (λ e. omega arith)) (f.slot i p))

  -- the next slot is filled, or counts as filled as it is
  pub fill_next : (x : X) → T (A x) → Filled A B d n (k + 1) (set l k x)
  fill_next x a = record { long = length-set l k x ∙ f.long; slot = slot }
    where
      slot : (i : ℕ) → i < n → T (cond (ltb i (k + 1)) (A (get_or (set l k x) i d)) (B (get_or (set l k x) i d)))
      slot i p =
          three_ways i k
          (λ s. let u : i < k + 1 = omega arith in
          rw (lt-ltb i (k + 1) u, get_or-set_other l k i x d (λ e. omega arith)) (rw (lt-ltb i k s) at (f.slot i p)))
          (λ e. let u : i < k + 1 = omega arith in rw (lt-ltb i (k + 1) u, at_put k x i p e) a)
          (λ s. let u : k + 1 ≤ i = omega arith in
          let w : k ≤ i = omega arith in
          rw (le-ltb i (k + 1) u, get_or-set_other l k i x d (λ e. omega arith)) (rw (le-ltb i k w) at (f.slot i p)))

  pub fill_count : T (A (get_or l k d)) → Filled A B d n (k + 1) l
  fill_count a = record { long = f.long; slot = slot }
    where
      slot : (i : ℕ) → i < n → T (cond (ltb i (k + 1)) (A (get_or l i d)) (B (get_or l i d)))
      slot i p =
          three_ways i k
          (λ s. let u : i < k + 1 = omega arith in rw (lt-ltb i (k + 1) u) (rw (lt-ltb i k s) at (f.slot i p)))
          (λ e. let u : i < k + 1 = omega arith in rw (lt-ltb i (k + 1) u) (subst (λ (j : ℕ). T (A (get_or l j d))) (sym e) a))
          (λ s. let u : k + 1 ≤ i = omega arith in
          let w : k ≤ i = omega arith in
          rw (le-ltb i (k + 1) u) (rw (le-ltb i k w) at (f.slot i p)))

-- where no slot is filled, the first test does not matter
pub fill_other : {X : Type 0} {A B : X → Bool} {d : X} {n : ℕ} {l : List X} (A' : X → Bool) → Filled A B d n 0 l → Filled A' B d n 0 l
fill_other A' f = record { long = f.long; slot = λ i p. rw (le-ltb i 0 zero-le) (rw (le-ltb i 0 zero-le) at (f.slot i p)) }

-- ---- a slot that is not there is put nowhere
pub put_is : {X : Type 0} (l : List X) (k n : ℕ) (x : X) → length l ≡ n → cond (ltb k n) (set l k x) l ≡ set l k x
put_is {X} l k n x long = go (ltb k n) refl
  where
    go : (b : Bool) → ltb k n ≡ b → cond b (set l k x) l ≡ set l k x
    go true e = refl
    go false e = sym (set_out l k x (omega (arith, ltb-false k n e)))

-- ---- items put into their slots one after the other, of which none fails the test `bad`
module _ {A X : Type 0} (bad : A → Bool) (key : A → ℕ) (given : A → X) where
  -- each fills a slot that counts as filled
  pub fill_all : {P Q : X → Bool} {d : X} {n k : ℕ} → ((a : A) → bad a ≡ false → (key a < k) × T (P (given a))) → (l : List A) → any_of bad l ≡ false
      → {slots : List X} → Filled P Q d n k slots → Filled P Q d n k (foldl (λ s a. set s (key a) (given a)) slots l)
  fill_all h [] u f = f
  fill_all h (a ∷ l) u f =
      let g = h a (any_head bad a l u) in
      fill_all h l (any_tail bad a l u) (fill_again f (key a) (given a) g.0 g.1)

  -- one pass puts what it stores of each, which is what is given
  pub put_all : {S : Type 0} (step : S → A → S) (slots : S → List X) (stored : A → X) (n : ℕ)
      → ((s : S) (a : A) → slots (step s a) ≡ cond (ltb (key a) n) (set (slots s) (key a) (stored a)) (slots s))
      → ((a : A) → bad a ≡ false → stored a ≡ given a)
      → (l : List A) → any_of bad l ≡ false → (s : S) → length (slots s) ≡ n
      → slots (foldl step s l) ≡ foldl (λ x a. set x (key a) (given a)) (slots s) l
  put_all step slots stored n h e [] u s long = refl
  put_all step slots stored n h e (a ∷ l) u s long =
      let next : slots (step s a) ≡ set (slots s) (key a) (given a) =
      h s a ∙ rw (e a (any_head bad a l u)) (put_is (slots s) (key a) n (given a) long) in
      put_all step slots stored n h e l (any_tail bad a l u) (step s a) (ap length next ∙ length-set (slots s) (key a) (given a) ∙ long)
      ∙ ap (λ (x : List X). foldl (λ x a. set x (key a) (given a)) x l) next
