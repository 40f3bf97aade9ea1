-- Laws of lists: what holds of every element or of some element, pieces put together, and a piece for each index.
use mathlib.Core.Path.{◌≡◌, refl, sym, ap, subst, ◌∙◌}
use mathlib.Core.Logic.{◌↔◌, ◌⊎◌, inl, inr, ⊎_elim}
use mathlib.Core.Bool.{Bool, true, false, ◌||◌}
use mathlib.Core.List.{List, [], ◌∷◌, ◌++◌, flat_map, drop_last, append-nil, append_assoc}
use Prim.Native.Nat.{ℕ, zero, suc, ◌+◌, ◌<◌}
use native.Mathlib.Nat.{not-suc-le-zero, add-zero, add-suc}
use native.Mathlib.Numerals.{add-one, suc-eq-add-one}
use native.Mathlib.Omega.{arith}
use lib.Dec.{T}
use Rattle.model.specs.Indexed.{each, list_below}
use Rattle.model.proofs.IndexedLaws.{and_T, below_cases, each_zero, each_suc, list_none, list_more}
use Rattle.list.specs.Lists.{All, all_of, any_of}

list_suc : {A : Type 0} (f : ℕ → A) (n : ℕ) → list_below f (suc n) ≡ list_below f n ++ (f n ∷ [])
list_suc f n = ap (list_below f) (suc-eq-add-one n) ∙ list_more f n

-- ---- every element
module _ {A : Type 0} (P : A → Type 0) where
  pub all_app : (l r : List A) → All P (l ++ r) ↔ (All P l × All P r)
  all_app [] r = (λ h. (tt, h), λ h. h.1)
  all_app (x ∷ l) r = (λ h. ((h.0, ((all_app l r).0 h.1).0), ((all_app l r).0 h.1).1), λ h. (h.0.0, (all_app l r).1 (h.0.1, h.1)))

  pub all_app₃ : (a b c : List A) → All P (a ++ b ++ c) ↔ (All P a × All P b × All P c)
  all_app₃ a b c = (
    (λ h. let g = (all_app (a ++ b) c).0 h in let f = (all_app a b).0 g.0 in (f.0, f.1, g.1)),
    λ h. (all_app (a ++ b) c).1 ((all_app a b).1 (h.0, h.1), h.2),
  )

  pub all_app₄ : (a b c d : List A) → All P (a ++ b ++ c ++ d) ↔ (All P a × All P b × All P c × All P d)
  all_app₄ a b c d = (
    (λ h. let g = (all_app (a ++ b ++ c) d).0 h in let f = (all_app₃ a b c).0 g.0 in (f.0, f.1, f.2, g.1)),
    λ h. (all_app (a ++ b ++ c) d).1 ((all_app₃ a b c).1 (h.0, h.1, h.2), h.3),
  )

  pub all_app₅ : (a b c d e : List A) → All P (a ++ b ++ c ++ d ++ e) ↔ (All P a × All P b × All P c × All P d × All P e)
  all_app₅ a b c d e = (
    (λ h. let g = (all_app (a ++ b ++ c ++ d) e).0 h in let f = (all_app₄ a b c d).0 g.0 in (f.0, f.1, f.2, f.3, g.1)),
    λ h. (all_app (a ++ b ++ c ++ d) e).1 ((all_app₄ a b c d).1 (h.0, h.1, h.2, h.3), h.4),
  )

  each_to : (n : ℕ) (f : ℕ → List A) → All P (each n f) → (v : ℕ) → v < n → All P (f v)
  each_to zero f h v q = absurd (not-suc-le-zero q)
  each_to (suc n) f h v q =
      let g = (all_app (each n f) (f n)).0 (subst (All P) (each_suc n f) h) in
      below_cases v n q (λ e. rw e g.1) (λ l. each_to n f g.0 v l)

  each_of : (n : ℕ) (f : ℕ → List A) → ((v : ℕ) → v < n → All P (f v)) → All P (each n f)
  each_of zero f h = subst (All P) (sym (each_zero f)) tt
  each_of (suc n) f h = subst (All P) (sym (each_suc n f)) ((all_app (each n f) (f n)).1 (each_of n f (λ v p. h v (omega arith)), h n (omega arith)))

  -- what holds of a piece for each index holds of each piece
  pub all_each : (n : ℕ) (f : ℕ → List A) → All P (each n f) ↔ ((v : ℕ) → v < n → All P (f v))
  all_each n f = (λ h v p. each_to n f h v p, λ h. each_of n f h)

  pub all_list : (f : ℕ → A) (n : ℕ) → ((i : ℕ) → i < n → P (f i)) → All P (list_below f n)
  all_list f zero h = subst (All P) (sym (list_none f)) tt
  all_list f (suc n) h =
      subst (All P) (sym (list_suc f n)) ((all_app (list_below f n) (f n ∷ [])).1 (all_list f n (λ i p. h i (omega arith)), (h n (omega arith), tt)))

module _ {A B : Type 0} (P : B → Type 0) (f : A → List B) where
  pub all_flat : (l : List A) → All P (flat_map f l) ↔ All (λ x. All P (f x)) l
  unfolding flat_map
  all_flat [] = (λ h. tt, λ h. tt)
  all_flat (x ∷ l) = (
    (λ h. let g = (all_app P (f x) (flat_map f l)).0 h in (g.0, (all_flat l).0 g.1)),
    λ h. (all_app P (f x) (flat_map f l)).1 (h.0, (all_flat l).1 h.1),
  )

module _ {A : Type 0} {P Q : A → Type 0} where
  pub all_imp : (l : List A) → ((x : A) → P x → Q x) → All P l → All Q l
  all_imp [] f h = tt
  all_imp (x ∷ l) f h = (f x h.0, all_imp l f h.1)

pub all_T : {A : Type 0} (p : A → Bool) (l : List A) → T (all_of p l) ↔ All (λ x. T (p x)) l
all_T p [] = (λ h. tt, λ h. tt)
all_T p (x ∷ l) = (
  (λ h. let g = (and_T (p x) (all_of p l)).0 h in (g.0, (all_T p l).0 g.1)),
  λ h. (and_T (p x) (all_of p l)).1 (h.0, (all_T p l).1 h.1),
)

-- ---- some element
pub or_T : (a b : Bool) → T (a || b) ↔ (T a ⊎ T b)
or_T true b = (λ h. inl tt, λ h. tt)
or_T false b = (λ h. inr h, λ h. ⊎_elim (λ t. absurd t) (λ t. t) h)

module _ {A : Type 0} (p : A → Bool) where
  pub any_app : (l r : List A) → T (any_of p (l ++ r)) ↔ (T (any_of p l) ⊎ T (any_of p r))
  any_app [] r = (λ h. inr h, λ h. ⊎_elim (λ t. absurd t) (λ t. t) h)
  any_app (x ∷ l) r = (
    (λ h. ⊎_elim (λ t. inl ((or_T (p x) (any_of p l)).1 (inl t))) (λ t. ⊎_elim (λ u. inl ((or_T (p x) (any_of p l)).1 (inr u))) (λ u. inr u)
        ((any_app l r).0 t)) ((or_T (p x) (any_of p (l ++ r))).0 h)),
    λ h. (or_T (p x) (any_of p (l ++ r))).1 (⊎_elim (λ t. ⊎_elim (λ u. inl u) (λ u. inr ((any_app l r).1 (inl u))) ((or_T (p x) (any_of p l)).0 t))
        (λ t. inr ((any_app l r).1 (inr t))) h),
  )

  any_each_to : (n : ℕ) (f : ℕ → List A) → T (any_of p (each n f)) → (v : ℕ) × (v < n) × T (any_of p (f v))
  any_each_to zero f h = absurd (subst (λ (l : List A). T (any_of p l)) (each_zero f) h)
  any_each_to (suc n) f h =
      ⊎_elim (λ t. let x = any_each_to n f t in (x.0, omega (arith, x.1), x.2)) (λ t. (n, omega arith, t))
      ((any_app (each n f) (f n)).0 (subst (λ (l : List A). T (any_of p l)) (each_suc n f) h))

  any_each_of : (n : ℕ) (f : ℕ → List A) (v : ℕ) → v < n → T (any_of p (f v)) → T (any_of p (each n f))
  any_each_of zero f v l h = absurd (not-suc-le-zero l)
  any_each_of (suc n) f v l h =
      subst (λ (l : List A). T (any_of p l)) (sym (each_suc n f))
      ((any_app (each n f) (f n)).1 (below_cases v n l (λ e. inr (rw e at h)) (λ k. inl (any_each_of n f v k h))))

  pub any_each : (n : ℕ) (f : ℕ → List A) → T (any_of p (each n f)) ↔ ((v : ℕ) × (v < n) × T (any_of p (f v)))
  any_each n f = (any_each_to n f, λ x. any_each_of n f x.0 x.1 x.2)

-- ---- pieces put together
module _ {A B : Type 0} (f : A → List B) where
  pub flat_app : (x y : List A) → flat_map f (x ++ y) ≡ flat_map f x ++ flat_map f y
  unfolding flat_map
  flat_app [] y = refl
  flat_app (a ∷ x) y = rw (flat_app x y, append_assoc)

  pub flat_none : flat_map f [] ≡ []
  unfolding flat_map
  flat_none = refl

  pub flat_one : (a : A) → flat_map f (a ∷ []) ≡ f a
  unfolding flat_map
  flat_one a = append-nil (f a)

  pub flat_each : (n : ℕ) (g : ℕ → List A) → flat_map f (each n g) ≡ each n (λ i. flat_map f (g i))
  flat_each zero g = ap (flat_map f) (each_zero g) ∙ flat_none ∙ sym (each_zero (λ i. flat_map f (g i)))
  flat_each (suc n) g =
      ap (flat_map f) (each_suc n g) ∙ flat_app (each n g) (g n) ∙ ap (λ (l : List B). l ++ flat_map f (g n)) (flat_each n g) ∙
      sym (each_suc n (λ i. flat_map f (g i)))

module _ {A : Type 0} where
  -- the turn of a loop, at n + 1
  pub each_more : (n : ℕ) (f : ℕ → List A) → each (n + 1) f ≡ each n f ++ f n
  each_more n f = ap (λ (i : ℕ). each i f) (add-one n) ∙ each_suc n f

  -- pieces that are equal one by one
  pub each_cong : (n : ℕ) (f g : ℕ → List A) → ((i : ℕ) → i < n → f i ≡ g i) → each n f ≡ each n g
  each_cong zero f g h = each_zero f ∙ sym (each_zero g)
  each_cong (suc n) f g h = each_suc n f ∙ rw (each_cong n f g (λ i p. h i (omega arith)), h n (omega arith)) (sym (each_suc n g))

  -- the first j + p pieces are the first j, then p more
  pub each_add : (j p : ℕ) (f : ℕ → List A) → each (j + p) f ≡ each j f ++ each p (λ i. f (j + i))
  each_add j zero f = rw (add-zero, each_zero) (sym (append-nil (each j f)))
  each_add j (suc p) f =
      ap (λ (n : ℕ). each n f) (add-suc j p) ∙ each_suc (j + p) f ∙ ap (λ (l : List A). l ++ f (j + p)) (each_add j p f) ∙
      append_assoc (each j f) (each p (λ i. f (j + i))) (f (j + p)) ∙ ap (λ (l : List A). each j f ++ l) (sym (each_suc p (λ i. f (j + i))))

  pub each_cons : (n : ℕ) (f : ℕ → List A) → each (suc n) f ≡ f 0 ++ each n (λ i. f (suc i))
  each_cons zero f = each_suc 0 f ∙ rw (each_zero f, each_zero (λ i. f (suc i))) (sym (append-nil (f 0)))
  each_cons (suc n) f =
      each_suc (suc n) f ∙ ap (λ (l : List A). l ++ f (suc n)) (each_cons n f) ∙ append_assoc (f 0) (each n (λ i. f (suc i))) (f (suc n)) ∙
      ap (λ (l : List A). f 0 ++ l) (sym (each_suc n (λ i. f (suc i))))

  pub list_cong : (f g : ℕ → A) (n : ℕ) → ((i : ℕ) → i < n → f i ≡ g i) → list_below f n ≡ list_below g n
  list_cong f g zero h = list_none f ∙ sym (list_none g)
  list_cong f g (suc n) h = list_suc f n ∙ rw (list_cong f g n (λ i p. h i (omega arith)), h n (omega arith)) (sym (list_suc g n))

  pub list_cons : (f : ℕ → A) (n : ℕ) → list_below f (suc n) ≡ f 0 ∷ list_below (λ i. f (suc i)) n
  list_cons f zero = list_suc f 0 ∙ rw (list_none f, list_none (λ i. f (suc i))) refl
  list_cons f (suc n) =
      list_suc f (suc n) ∙ ap (λ (l : List A). l ++ (f (suc n) ∷ [])) (list_cons f n) ∙ ap (λ (l : List A). f 0 ∷ l) (sym (list_suc (λ i. f (suc i)) n))

  -- a list less its last element
  pub drop_last_lem : (l : List A) (x : A) → drop_last (l ++ (x ∷ [])) ≡ l
  drop_last_lem [] x = refl
  drop_last_lem (a ∷ []) x = refl
  drop_last_lem (a ∷ b ∷ l) x = ap (λ (r : List A). a ∷ r) (drop_last_lem (b ∷ l) x)
