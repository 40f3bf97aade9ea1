-- What the library says of bytes, and what the definitions say: the first byte, the leading digits, the key at the front, the parts.
use Prim.Native.Nat.{ℕ, suc, ◌+◌, ◌≤◌, ◌<◌}
use mathlib.Core.Path.{◌≡◌, refl, ap, ◌∙◌}
use mathlib.Core.List.{List, [], ◌∷◌, map, foldl}
use mathlib.Core.Bool.{Bool, true, false, cond, not, ◌&&◌}
use native.Mathlib.Omega.{arith}
use lib.Dec.{eqb}
use lib.ListN.{length, take, drop, get_or, length-drop}
use lib.Dec.{ltb}
use borrow.Author.Tests.{ltb-true, ltb-false}
use Rattle.std.proofs.lemmas.Bool.Decides.{nat_tests}
use Rattle.std.specs.List.{prefix_len, position_or_len, slice_split, onto_first, fold}
use Rattle.std.specs.Cmp.Lexicographic.{pointwise}
use Rattle.std.specs.Prelude.{Option, Some, None, is_some, Result, Ok, Err}
use Rattle.std.specs.Option.{ok_or}
use Rattle.text.specs.bytes.Bytes.{first_at, FirstFrom, digits_of, is_digit, starts_with, split_on, grow}

pub first_is : (b : ℕ) (l : List ℕ) → position_or_len (λ x. eqb x b) l ≡ first_at b l
unfolding first_at
first_is b [] = refl
first_is b (x ∷ l) = go (eqb x b) (first_is b l)
  where
    go : (t : Bool) → position_or_len (λ x. eqb x b) l ≡ first_at b l → cond (not t) (1 + position_or_len (λ x. eqb x b) l) 0 ≡ cond t 0 (first_at b l + 1)
    go true h = refl
    go false h = omega (arith, h)

pub digits_are : (l : List ℕ) → prefix_len is_digit l ≡ digits_of l
unfolding digits_of
digits_are [] = refl
digits_are (x ∷ l) = go (is_digit x) (digits_are l)
  where
    go : (t : Bool) → prefix_len is_digit l ≡ digits_of l → cond t (1 + prefix_len is_digit l) 0 ≡ cond t (digits_of l + 1) 0
    go true h = omega (arith, h)
    go false h = refl

pub prefix_le : {A : Type 0} (p : A → Bool) (l : List A) → prefix_len p l ≤ length l
prefix_le p [] = omega arith
prefix_le p (x ∷ l) = go (p x) (prefix_le p l)
  where
    go : (t : Bool) → prefix_len p l ≤ length l → cond t (1 + prefix_len p l) 0 ≤ suc (length l)
    go true h = omega (arith, h)
    go false h = omega arith

either : (x y : ℕ) → eqb x y ≡ eqb y x
either x y = grind (arith, nat_tests)

pub key_is : (k l : List ℕ) → pointwise eqb (take (length k) l) k ≡ starts_with k l
unfolding starts_with
key_is [] [] = refl
key_is [] (y ∷ l) = refl
key_is (x ∷ k) [] = refl
key_is (x ∷ k) (y ∷ l) = rw (key_is k l) (ap (λ (b : Bool). b && starts_with k l) (either y x))

-- x (120) at the front
pub x_first : (l : List ℕ) → pointwise eqb (take 1 l) (120 ∷ []) ≡ eqb (get_or l 0 0) 120
x_first [] = refl
x_first (x ∷ l) = go (eqb x 120)
  where
    go : (b : Bool) → (b && true) ≡ b
    go true = refl
    go false = refl

pub parts_are : (b : ℕ) (l : List ℕ) → slice_split (λ x. eqb x b) l ≡ split_on b l
unfolding split_on
parts_are b [] = refl
parts_are b (x ∷ l) = go (eqb x b) (parts_are b l)
  where
    onto : (ps : List (List ℕ)) → onto_first x ps ≡ grow x ps
    onto [] = refl
    onto (p ∷ ps) = refl

    go : (t : Bool) → slice_split (λ x. eqb x b) l ≡ split_on b l
        → cond t ([] ∷ slice_split (λ x. eqb x b) l) (onto_first x (slice_split (λ x. eqb x b) l)) ≡ cond t ([] ∷ split_on b l) (grow x (split_on b l))
    go true h = ap (λ (ps : List (List ℕ)). [] ∷ ps) h
    go false h = ap (onto_first x) h ∙ onto (split_on b l)

pub folds : {S A : Type 0} (h : S → A → S) (s : S) (l : List A) → fold h s l ≡ foldl h s l
folds h s [] = refl
folds h s (x ∷ l) = folds h (h s x) l

-- a fold over what each item is
pub folds_each : {S A B : Type 0} (h : S → B → S) (item : A → B) (s : S) (l : List A) → foldl (λ s x. h s (item x)) s l ≡ foldl h s (map item l)
folds_each h item s [] = refl
folds_each h item s (x ∷ l) = folds_each h item (h s (item x)) l

-- what `is_none` and `ok_or` say
pub missing : {A : Type 0} (o : Option A) (b : Bool) → is_some o ≡ not b → b ≡ not (is_some o)
missing o true h = rw h
missing o false h = rw h

module _ {A E : Type 0} {r : Result A E} (e : E) where
  pub form_refused : (o : Option A) → r ≡ ok_or o e → {k : E} → r ≡ Err k → (o ≡ None) × (k ≡ e)
  form_refused None p q = (refl, cc)
  form_refused (Some x) p q = absurd (cc)

  pub form_read : (o : Option A) → r ≡ ok_or o e → {x : A} → r ≡ Ok x → o ≡ Some x
  form_read None p q = absurd (cc)
  form_read (Some y) p q = cc

-- ---- the place that a search of the rest of a list finds
module _ (b at : ℕ) (s : List ℕ) (within : at ≤ length s) where
  abbrev place : ℕ
  place = position_or_len (λ x. eqb x b) (drop at s)

  abbrev found : Option ℕ
  found = cond (ltb place (length (drop at s))) (Some place) None

  shown : {r : Option ℕ} → r ≡ found → ltb place (length (drop at s)) ≡ true → r ≡ Some place
  shown p h = p ∙ rw h

  hidden : {r : Option ℕ} → r ≡ found → ltb place (length (drop at s)) ≡ false → r ≡ None
  hidden p h = p ∙ rw h

  pub found_none : {r : Option ℕ} → r ≡ found → r ≡ None → FirstFrom b at s (length s)
  found_none {r} p q = go (ltb place (length (drop at s))) refl
    where
      go : (t : Bool) → ltb place (length (drop at s)) ≡ t → FirstFrom b at s (length s)
      go true h = let e = shown p h in absurd (cc)
      go false h =
          let past : length (drop at s) ≤ place = ltb-false place (length (drop at s)) h in
          let most : place ≤ length (drop at s) = prefix_le _ (drop at s) in
          record { place = omega (arith, first_is b (drop at s), length-drop at s); low = within; high = omega arith }

  pub found_some : {r : Option ℕ} {k : ℕ} → r ≡ found → r ≡ Some k → FirstFrom b at s (at + k) × (at + k < length s)
  found_some {r} {k} p q = go (ltb place (length (drop at s))) refl
    where
      go : (t : Bool) → ltb place (length (drop at s)) ≡ t → FirstFrom b at s (at + k) × (at + k < length s)
      go true h =
          let e = shown p h in
          let same : k ≡ place = cc in
          let inside : place < length (drop at s) = ltb-true place (length (drop at s)) h in (
            record { place = omega (arith, first_is b (drop at s), same); low = omega arith; high = omega (arith, inside, same, length-drop at s) },
            omega (arith, inside, same, length-drop at s),
          )
      go false h = let e = hidden p h in absurd (cc)
