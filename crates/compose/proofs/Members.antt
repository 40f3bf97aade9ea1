-- Every element of a list, and some element of it, by their places.
use mathlib.Core.Path.{◌≡◌, sym, subst, ◌∙◌}
use mathlib.Core.Logic.{⊎_elim}
use mathlib.Core.List.{List, ◌++◌}
use Prim.Native.Nat.{ℕ, zero, suc, ◌+◌, ◌-◌, ◌<◌}
use native.Mathlib.Nat.{not-suc-le-zero}
use native.Mathlib.Omega.{arith}
use lib.ListN.{length, get_or, length-append, get_or-append}
use lib.Seq.{get_or-append-add}
use Rattle.model.specs.Indexed.{each, list_below}
use Rattle.model.proofs.IndexedLaws.{lt_or_le, below_cases, length_list, get_d_list}

module _ {A : Type 0} (d : A) where
  -- what holds at every place of a list
  abbrev pub Every : (A → Type 0) → List A → Type 0
  Every P l = (n : ℕ) → n < length l → P (get_or l n d)

  -- x stands at some place of a list
  abbrev pub Among : List A → A → Type 0
  Among l x = (n : ℕ) × (n < length l) × (get_or l n d ≡ x)

  -- ---- two lists
  get_d_after : (l r : List A) (n : ℕ) → get_or (l ++ r) (length l + n) d ≡ get_or r n d
  get_d_after l r n = get_or-append-add l r n d

  pub every_app : (P : A → Type 0) (l r : List A) → Every P l → Every P r → Every P (l ++ r)
  every_app P l r f g n p = ⊎_elim
      (λ q. subst P (sym (get_or-append l r d n q)) (f n q))
      (λ q. let e : length l + (n - length l) ≡ n = omega arith in
      subst (λ (k : ℕ). P (get_or (l ++ r) k d)) e
      (subst P (sym (get_d_after l r (n - length l))) (g (n - length l) (omega (arith, length-append l r)))))
      (lt_or_le n (length l))

  pub among_left : (l r : List A) (x : A) → Among l x → Among (l ++ r) x
  among_left l r x h = (h.0, omega (arith, length-append l r, h.1), get_or-append l r d h.0 h.1 ∙ h.2)

  pub among_right : (l r : List A) (x : A) → Among r x → Among (l ++ r) x
  among_right l r x h = (length l + h.0, omega (arith, length-append l r, h.1), get_d_after l r h.0 ∙ h.2)

  -- ---- lists by an index
  pub every_each : (P : A → Type 0) (n : ℕ) (f : ℕ → List A) → ((i : ℕ) → i < n → Every P (f i)) → Every P (each n f)
  unfolding each
  every_each P zero f h k p = absurd (not-suc-le-zero p)
  every_each P (suc n) f h k p = every_app P (each n f) (f n) (every_each P n f (λ i l. h i (omega arith))) (h n (omega arith)) k p

  pub among_each : (n : ℕ) (f : ℕ → List A) (i : ℕ) (x : A) → i < n → Among (f i) x → Among (each n f) x
  unfolding each
  among_each zero f i x p h = absurd (not-suc-le-zero p)
  among_each (suc n) f i x p h = below_cases i n p
      (λ e. among_right (each n f) (f n) x (subst (λ (k : ℕ). Among (f k) x) e h))
      (λ l. among_left (each n f) (f n) x (among_each n f i x l h))

  pub every_list : (P : A → Type 0) (n : ℕ) (f : ℕ → A) → ((i : ℕ) → i < n → P (f i)) → Every P (list_below f n)
  every_list P n f h k p =
      let l : k < n = omega (arith, length_list f n) in
      subst P (sym (get_d_list d f n k l)) (h k l)

  pub among_list : (n : ℕ) (f : ℕ → A) (i : ℕ) → i < n → Among (list_below f n) (f i)
  among_list n f i p = (i, omega (arith, length_list f n), get_d_list d f n i p)
