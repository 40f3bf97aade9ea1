-- The parts of a list between the bytes b, one after the other.
use Prim.Native.Nat.{ℕ, suc, ◌+◌, ◌-◌, ◌<◌}
use mathlib.Core.Path.{◌≡◌, refl, sym, ap, ◌∙◌}
use mathlib.Core.List.{List, [], ◌∷◌}
use mathlib.Core.Bool.{Bool, true, false, cond, false≢true}
use native.Mathlib.Numerals.{add-one}
use native.Mathlib.Omega.{arith}
use lib.ListN.{length, take, drop, length-drop}
use lib.Seq.{take_all}
use lib.Dec.{eqb, ltb, leb-suc-suc}
use borrow.Author.Tests.{lt-ltb, ltb-true, ltb-false}
use Rattle.std.specs.Prelude.{Option, Some, None, is_some}
use Rattle.std.specs.List.{position_or_len}
use Rattle.text.specs.bytes.Bytes.{split_on}

-- ---- a list is cut at its first b
-- the place of the first b, or the length
abbrev place : ℕ → List ℕ → ℕ
place b l = position_or_len (λ x. eqb x b) l

-- what a list is split into after the place k of its first b
abbrev others_from : ℕ → ℕ → List ℕ → List (List ℕ)
others_from b k l = cond (ltb k (length l)) (split_on b (drop (suc k) l)) []

split_first : (b : ℕ) (l : List ℕ) → split_on b l ≡ take (place b l) l ∷ others_from b (place b l) l
unfolding split_on
split_first b [] = refl
split_first b (x ∷ l) = go (eqb x b) refl (split_first b l)
  where
    go : (t : Bool) → eqb x b ≡ t → split_on b l ≡ take (place b l) l ∷ others_from b (place b l) l
        → split_on b (x ∷ l) ≡ take (place b (x ∷ l)) (x ∷ l) ∷ others_from b (place b (x ∷ l)) (x ∷ l)
    go true e h = rw (e, lt-ltb 0 (suc (length l)) (omega arith))
    go false e h = let one : 1 + place b l ≡ suc (place b l) = omega arith in rw (e, h, one, leb-suc-suc (suc (place b l)) (length l))

-- what `position` answers of it
abbrev place_in : Option ℕ → ℕ
place_in None = 0
place_in (Some i) = i

module _ (b : ℕ) (l : List ℕ) {r : Option ℕ} (found : r ≡ cond (ltb (place b l) (length l)) (Some (place b l)) None) where
  pub cut_none : r ≡ None → split_on b l ≡ l ∷ []
  cut_none h = go (ltb (place b l) (length l)) refl
    where
      go : (t : Bool) → ltb (place b l) (length l) ≡ t → split_on b l ≡ l ∷ []
      go true e = absurd (false≢true (ap is_some (sym h ∙ rw e at found)))
      go false e = split_first b l ∙ rw (e, take_all (place b l) l (ltb-false (place b l) (length l) e))

  pub cut_some : (i : ℕ) → r ≡ Some i → (split_on b l ≡ take i l ∷ split_on b (drop (i + 1) l)) × (i < length l)
  cut_some i h = go (ltb (place b l) (length l)) refl
    where
      go : (t : Bool) → ltb (place b l) (length l) ≡ t → (split_on b l ≡ take i l ∷ split_on b (drop (i + 1) l)) × (i < length l)
      go true e =
          let here : place b l ≡ i = ap place_in (sym (rw e at found) ∙ h) in
          let within = ltb-true (place b l) (length l) e in
          (split_first b l ∙ rw (e, here, add-one i), omega (arith, here, within))
      go false e = absurd (false≢true (ap is_some (sym (rw e at found) ∙ h)))

-- what follows a place of it, as a part of it
pub rest_is : (i : ℕ) (l : List ℕ) → take (length l - i) (drop i l) ≡ drop i l
rest_is i l = take_all (length l - i) (drop i l) (omega (arith, length-drop i l))

-- a list has a first part
pub part_any : (b : ℕ) (l : List ℕ) → (p : List ℕ) × (ps : List (List ℕ)) × (split_on b l ≡ p ∷ ps)
part_any b l = (take (place b l) l, others_from b (place b l) l, split_first b l)
