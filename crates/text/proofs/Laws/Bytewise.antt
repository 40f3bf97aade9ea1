-- Laws of the definitions in specs/Bytes, one byte at a time from a place of the list.
use Prim.Native.Nat.{ℕ, suc, ◌+◌, ◌-◌, ◌≤◌, ◌<◌}
use mathlib.Core.Path.{◌≡◌, refl, sym}
use mathlib.Core.List.{List, [], ◌∷◌}
use mathlib.Core.Bool.{Bool, true, false, cond}
use native.Mathlib.Numerals.{add-one}
use native.Mathlib.Omega.{arith}
use lib.ListN.{length, get_or, take, drop, drop_of_length-le, length-drop}
use lib.Seq.{drop-cons, take_all}
use lib.Dec.{eqb}
use borrow.Author.Tests.{eq-eqb, ne_eqb}
use Rattle.std.specs.Prelude.{None}
use Rattle.text.specs.bytes.Bytes.{first_at, number_of, starts_with, is_hyphen}

-- ---- the first b
pub first_at_here : (b : ℕ) (s : List ℕ) (i : ℕ) → i < length s → get_or s i 0 ≡ b → first_at b (drop i s) ≡ 0
unfolding first_at
first_at_here b s i h e = rw (drop-cons s i 0 h, eq-eqb _ _ e)

pub first_at_next : (b : ℕ) (s : List ℕ) (i : ℕ) → i < length s → (get_or s i 0 ≡ b → ⊥) → first_at b (drop i s) ≡ first_at b (drop (i + 1) s) + 1
unfolding first_at
first_at_next b s i h e = rw (add-one i, drop-cons s i 0 h, ne_eqb _ _ e)

pub first_at_end : (b : ℕ) (s : List ℕ) (i : ℕ) → length s ≤ i → first_at b (drop i s) ≡ 0
unfolding first_at
first_at_end b s i h = rw (drop_of_length-le s h)

pub first_at_le : (b : ℕ) (l : List ℕ) → first_at b l ≤ length l
unfolding first_at
first_at_le b [] = omega arith
first_at_le b (x ∷ l) = go (eqb x b) (first_at_le b l)
  where
    go : (t : Bool) → first_at b l ≤ length l → cond t 0 (first_at b l + 1) ≤ suc (length l)
    go true h = omega arith
    go false h = omega arith

-- ---- numbers have one, two or three bytes
pub number_of_none : (s : List ℕ) → (length s ≡ 1 → ⊥) → (length s ≡ 2 → ⊥) → (length s ≡ 3 → ⊥) → None ≡ number_of s
unfolding number_of
number_of_none [] p q r = refl
number_of_none (a ∷ []) p q r = absurd (p refl)
number_of_none (a ∷ b ∷ []) p q r = absurd (q refl)
number_of_none (a ∷ b ∷ c ∷ []) p q r = absurd (r refl)
number_of_none (a ∷ b ∷ c ∷ d ∷ s) p q r = refl

-- ---- keys
pub starts_with_next : (k s : List ℕ) (i : ℕ) → i < length k → i < length s → get_or s i 0 ≡ get_or k i 0
    → starts_with (drop i k) (drop i s) ≡ starts_with (drop (i + 1) k) (drop (i + 1) s)
unfolding starts_with
starts_with_next k s i h j e = rw (drop-cons k i 0 h, drop-cons s i 0 j, eq-eqb _ _ (sym e), add-one)

pub starts_with_other : (k s : List ℕ) (i : ℕ) → i < length k → i < length s → (get_or s i 0 ≡ get_or k i 0 → ⊥) → starts_with (drop i k) (drop i s) ≡ false
unfolding starts_with
starts_with_other k s i h j e = rw (drop-cons k i 0 h, drop-cons s i 0 j, ne_eqb _ _ (λ q. e (sym q)))

pub starts_with_short : (k s : List ℕ) (i : ℕ) → i < length k → length s ≤ i → starts_with (drop i k) (drop i s) ≡ false
unfolding starts_with
starts_with_short k s i h j = rw (drop-cons k i 0 h, drop_of_length-le s j)

pub starts_with_done : (k s : List ℕ) (i : ℕ) → length k ≤ i → starts_with (drop i k) (drop i s) ≡ true
unfolding starts_with
starts_with_done k s i h = rw (drop_of_length-le k h)

-- ---- a hyphen alone
pub is_hyphen_one : (s : List ℕ) → length s ≡ 1 → eqb (get_or s 0 0) 45 ≡ is_hyphen s
unfolding is_hyphen
is_hyphen_one [] h = absurd (omega arith)
is_hyphen_one (x ∷ []) h = refl
is_hyphen_one (x ∷ y ∷ s) h = absurd (omega arith)

pub is_hyphen_more : (s : List ℕ) → (length s ≡ 1 → ⊥) → false ≡ is_hyphen s
unfolding is_hyphen
is_hyphen_more [] h = refl
is_hyphen_more (x ∷ []) h = absurd (h refl)
is_hyphen_more (x ∷ y ∷ s) h = refl

-- ---- the rest of a list from a place, as a part of it
pub part_to_end : (s : List ℕ) (a : ℕ) → take (length s - a) (drop a s) ≡ drop a s
part_to_end s a = take_all (length s - a) (drop a s) (omega (arith, length-drop a s))
