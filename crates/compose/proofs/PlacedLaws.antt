-- Storing one list after the other, and adding moves.
use mathlib.Core.Path.{◌≡◌, refl, sym, ap, ◌∙◌}
use mathlib.Core.List.{List, [], ◌∷◌, ◌++◌}
use Prim.Native.Nat.{ℕ, zero, suc, ◌+◌, ◌≤◌, ◌<◌}
use native.Mathlib.Omega.{arith}
use lib.ListN.{length, get_or, set, replicate, length-set, length-append, length-replicate, get_or-replicate}
use lib.Seq.{ext_get_or, set_out, get_or-set_same, get_or-set_other}
use Rattle.model.specs.Indexed.{list_below}
use Rattle.model.proofs.IndexedLaws.{length_list, get_d_list}
use Rattle.compose.specs.declared.moves.Move.{Move}
use Rattle.compose.specs.declared.moves.Moves.{Moves}
use Rattle.compose.specs.Moves.{no_move, placed, added, no_moves}

-- ---- storing
module _ {A : Type 0} where
  pub placed_none : (slots : List A) (n : ℕ) → placed slots n [] ≡ slots
  unfolding placed
  placed_none slots n = refl

  -- two lists in a row are stored as one
  pub placed_app : (slots : List A) (n : ℕ) (l r : List A) → placed slots n (l ++ r) ≡ placed (placed slots n l) (n + length l) r
  unfolding placed
  placed_app slots n [] r = let e : n ≡ n + 0 = omega arith in ap (λ (k : ℕ). placed slots k r) e
  placed_app slots n (x ∷ l) r =
      let e : n + 1 + length l ≡ n + suc (length l) = omega arith in
      placed_app (set slots n x) (n + 1) l r ∙ ap (λ (k : ℕ). placed (placed (set slots n x) (n + 1) l) k r) e

  pub length_placed : (slots : List A) (n : ℕ) (l : List A) → length (placed slots n l) ≡ length slots
  unfolding placed
  length_placed slots n [] = refl
  length_placed slots n (x ∷ l) = length_placed (set slots n x) (n + 1) l ∙ length-set slots n x

  -- what stands before the first place stays
  pub placed_before : (d : A) (slots : List A) (n : ℕ) (l : List A) (k : ℕ) → k < n → get_or (placed slots n l) k d ≡ get_or slots k d
  unfolding placed
  placed_before d slots n [] k p = refl
  placed_before d slots n (x ∷ l) k p =
      placed_before d (set slots n x) (n + 1) l k (omega arith) ∙ get_or-set_other slots n k x d (λ e. omega (arith, e, p))

  -- place n + k holds element k, or what stood there if the list is shorter
  from_place : (d z : A) (slots : List A) (n : ℕ) (l : List A) (k : ℕ) → n + k < length slots
      → ((i : ℕ) → n ≤ i → i < length slots → get_or slots i d ≡ z) → get_or (placed slots n l) (n + k) d ≡ get_or l k z
  unfolding placed
  from_place d z slots n [] k p h = h (n + k) (omega arith) p
  from_place d z slots n (x ∷ l) zero p h =
      let e : n + 0 ≡ n = omega arith in
      ap (λ (i : ℕ). get_or (placed (set slots n x) (n + 1) l) i d) e ∙ placed_before d (set slots n x) (n + 1) l n (omega arith) ∙
      get_or-set_same slots n x d (omega (arith, p))
  from_place d z slots n (x ∷ l) (suc k) p h =
      let e : n + suc k ≡ n + 1 + k = omega arith in
      ap (λ (i : ℕ). get_or (placed (set slots n x) (n + 1) l) i d) e ∙ from_place d z (set slots n x) (n + 1) l k (omega (arith, p, length-set slots n x))
      (λ i q t. get_or-set_other slots n i x d (λ w. omega (arith, w, q)) ∙ h i (omega (arith, q)) (omega (arith, t, length-set slots n x)))

  -- in blank slots place k holds element k, and blank if there is none
  pub placed_blank : (d z : A) (n : ℕ) (l : List A) (k : ℕ) → k < n → get_or (placed (replicate n z) 0 l) k d ≡ get_or l k z
  placed_blank d z n l k p =
      let e : k ≡ 0 + k = omega arith in
      ap (λ (i : ℕ). get_or (placed (replicate n z) 0 l) i d) e ∙ from_place d z (replicate n z) 0 l k (omega (arith, p, length-replicate n z))
      (λ i _ t. get_or-replicate n i z d (omega (arith, t, length-replicate n z)))

  -- so the blank slots with a list are the list of its elements, and blanks
  pub placed_list : (z : A) (n : ℕ) (l : List A) → placed (replicate n z) 0 l ≡ list_below (λ k. get_or l k z) n
  placed_list z n l =
      let long = length_placed (replicate n z) 0 l ∙ length-replicate n z in
      ext_get_or z (placed (replicate n z) 0 l) (list_below (λ k. get_or l k z) n) (long ∙ sym (length_list (λ k. get_or l k z) n))
      (λ i p. let q : i < n = omega (arith, p, long) in placed_blank z z n l i q ∙ sym (get_d_list z (λ k. get_or l k z) n i q))

-- ---- adding moves
pub added_none : (h : Moves) → added h [] ≡ h
unfolding added placed
added_none h = let e : h.count + 0 ≡ h.count = omega arith in λ i. record { count = e i; slots = h.slots }

-- two lists in a row are added as one
pub added_then : (h : Moves) (l r : List Move) → added (added h l) r ≡ added h (l ++ r)
unfolding added
added_then h l r =
    let e : h.count + length l + length r ≡ h.count + length (l ++ r) = omega (arith, length-append l r) in
    λ i. record { count = e i; slots = sym (placed_app h.slots h.count l r) i }

pub added_count : (h : Moves) (l : List Move) → (added h l).count ≡ h.count + length l
unfolding added
added_count h l = refl

-- all moves are counted
pub count_is : (l : List Move) → (added no_moves l).count ≡ length l
count_is l = added_count no_moves l ∙ omega arith

-- slot k holds move k
pub slot_is : (d : Move) (l : List Move) (k : ℕ) → k < 32 → get_or (added no_moves l).slots k d ≡ get_or l k no_move
unfolding added
slot_is d l k p = placed_blank d no_move 32 l k p

-- one move more, stored or not
pub one_stored : (h : Moves) (x : Move) {s : List Move} → s ≡ set h.slots h.count x → record { count = h.count + 1; slots = s } ≡ added h (x ∷ [])
unfolding added placed
one_stored h x e = λ i. record { count = h.count + 1; slots = e i }

pub one_counted : (h : Moves) (x : Move) {s : List Move} → s ≡ h.slots → length h.slots ≤ h.count
    → record { count = h.count + 1; slots = s } ≡ added h (x ∷ [])
one_counted h x e l = one_stored h x (e ∙ sym (set_out h.slots h.count x l))
