-- What the library says of a list, element after element, and what the definitions say by the index: all, the greatest, the sum, the first, the list.
use Rattle.std.specs.Prelude.{ℕ, zero, suc, ◌+◌, ◌<◌, ◌≤◌, max, Bool, true, false, cond, ◌&&◌, List, [], ◌∷◌, length, get_or, ◌≡◌}
use Rattle.std.specs.Array.{IsFromFnResult, IsFromFnResultFrom, IsMapOf, MapsFrom}
use Rattle.std.specs.List.{list_all, fold, sum_by, position_or_len, range_with_len, enumerate_from}
use Rattle.std.specs.Fn.{Called}
use Rattle.std.proofs.Common.{arith, refl, sym, ap, subst, ◌∙◌}
use Rattle.std.proofs.lemmas.List.FromFn.{length-range_with_len, get_or-range_with_len}
use Rattle.std.proofs.lemmas.Grind.{common_steps}
use Rattle.std.proofs.lemmas.List.{ext_get_or}
use denote.Param.Members.{Mut}
use mathlib.Core.Logic.{⊎_elim}
use mathlib.Core.Path.{ap₂}
use Rattle.model.specs.Indexed.{list_below, all_below, max_below, sum_below, first_below}
use Rattle.model.proofs.IndexedLaws.{first_law, first_is, first_none, T_true, lt_or_le, sum_same, length_list, get_d_list}

-- ---- the first index, and those after it
all_front : (p : ℕ → Bool) (n : ℕ) → all_below p (suc n) ≡ p 0 && all_below (λ k. p (suc k)) n
unfolding all_below
all_front p zero = grind (arith, common_steps)
all_front p (suc n) = rw (all_front p n) (grind (arith, common_steps))

all_same : (p q : ℕ → Bool) (n : ℕ) → ((k : ℕ) → p k ≡ q k) → all_below p n ≡ all_below q n
unfolding all_below
all_same p q zero h = refl
all_same p q (suc n) h = rw (all_same p q n h, h n)

sum_front : (f : ℕ → ℕ) (n : ℕ) → sum_below f (suc n) ≡ f 0 + sum_below (λ k. f (suc k)) n
unfolding sum_below
sum_front f zero = omega arith
sum_front f (suc n) = rw (sum_front f n) (omega arith)

max_front : (f : ℕ → ℕ) (n : ℕ) → max_below f (suc n) ≡ max (f 0) (max_below (λ k. f (suc k)) n)
unfolding max_below
max_front f zero = omega arith
max_front f (suc n) = rw (max_front f n) (omega arith)

first_front : (p : ℕ → Bool) (n : ℕ) → first_below p (suc n) ≡ cond (p 0) 0 (suc (first_below (λ k. p (suc k)) n))
first_front p n = by (p 0) refl
  where
    after : ℕ → Bool
    after k = p (suc k)

    before : (k : ℕ) → p 0 ≡ false → ((j : ℕ) → j < k → after j ≡ false) → (j : ℕ) → j < suc k → p j ≡ false
    before k e h zero l = e
    before k e h (suc j) l = h j (omega arith)

    by : (b : Bool) → p 0 ≡ b → first_below p (suc n) ≡ cond b 0 (suc (first_below after n))
    by true e = first_is p 0 (suc n) (omega arith) ((T_true (p 0)).1 e) (λ j l. absurd (omega (arith, l)))
    by false e =
        let q = first_law after n in
        ⊎_elim
        (λ l. first_is p (suc (first_below after n)) (suc n) (omega (arith, l)) (q.holds l) (before (first_below after n) e q.least))
        (λ l. let s : first_below after n ≡ n = omega (arith, l, q.within) in
        rw s (first_none p (suc n) (before n e (rw s at q.least))))
        (lt_or_le (first_below after n) n)

-- ---- element after element, and by the index
module _ {A : Type 0} (d : A) where
  pub all_by_index : (p : A → Bool) (xs : List A) → list_all p xs ≡ all_below (λ k. p (get_or xs k d)) (length xs)
  unfolding all_below
  all_by_index p [] = refl
  all_by_index p (x ∷ xs) = ap (λ (b : Bool). p x && b) (all_by_index p xs) ∙ sym (all_front (λ k. p (get_or (x ∷ xs) k d)) (length xs))

  -- each element with its index
  enumerated : (p : ℕ → A → Bool) (n : ℕ) (l : List A) → list_all (λ q. p q.0 q.1) (enumerate_from n l) ≡ all_below (λ i. p (n + i) (get_or l i d)) (length l)
  unfolding all_below
  enumerated p n [] = refl
  enumerated p n (x ∷ l) =
      let here : n ≡ n + 0 = omega arith in
      ap₂ (λ (a b : Bool). a && b) (ap (λ (k : ℕ). p k x) here) (enumerated p (n + 1) l
      ∙ all_same (λ i. p (n + 1 + i) (get_or l i d)) (λ i. p (n + suc i) (get_or l i d)) (length l) (λ i. ap (λ (k : ℕ). p k (get_or l i d)) (omega arith)))
      ∙ sym (all_front (λ i. p (n + i) (get_or (x ∷ l) i d)) (length l))

  pub all_enumerated : (p : ℕ → A → Bool) (xs : List A) → list_all (λ q. p q.0 q.1) (enumerate_from 0 xs) ≡ all_below (λ i. p i (get_or xs i d)) (length xs)
  all_enumerated p xs = enumerated p 0 xs
      ∙ all_same (λ i. p (0 + i) (get_or xs i d)) (λ i. p i (get_or xs i d)) (length xs) (λ i. ap (λ (k : ℕ). p k (get_or xs i d)) (omega arith))

  sum_from : (f : A → ℕ) (b : ℕ) (xs : List A) → fold (λ a x. a + f x) b xs ≡ b + sum_below (λ k. f (get_or xs k d)) (length xs)
  unfolding sum_below
  sum_from f b [] = omega arith
  sum_from f b (x ∷ xs) = sum_from f (b + f x) xs ∙ rw (sum_front (λ k. f (get_or (x ∷ xs) k d)) (length xs)) (omega arith)

  pub sum_by_index : (f : A → ℕ) (xs : List A) → sum_by f xs ≡ sum_below (λ k. f (get_or xs k d)) (length xs)
  sum_by_index f xs = sum_from f 0 xs ∙ omega arith

  max_from : (f : A → ℕ) (b : ℕ) (xs : List A) → fold (λ a x. max a (f x)) b xs ≡ max b (max_below (λ k. f (get_or xs k d)) (length xs))
  unfolding max_below
  max_from f b [] = omega arith
  max_from f b (x ∷ xs) = max_from f (max b (f x)) xs ∙ rw (max_front (λ k. f (get_or (x ∷ xs) k d)) (length xs)) (omega arith)

  pub max_by_index : (f : A → ℕ) (xs : List A) → fold (λ a x. max a (f x)) 0 xs ≡ max_below (λ k. f (get_or xs k d)) (length xs)
  max_by_index f xs = max_from f 0 xs ∙ omega arith

  pub first_by_index : (p : A → Bool) (xs : List A) → position_or_len p xs ≡ first_below (λ k. p (get_or xs k d)) (length xs)
  unfolding first_below
  first_by_index p [] = refl
  first_by_index p (x ∷ xs) =
      let later : ℕ = first_below (λ k. p (get_or xs k d)) (length xs) in
      by (p x) refl ∙ ap (λ (n : ℕ). cond (p x) 0 (suc n)) (first_by_index p xs) ∙ sym (first_front (λ k. p (get_or (x ∷ xs) k d)) (length xs))
    where
      by : (b : Bool) → p x ≡ b → position_or_len p (x ∷ xs) ≡ cond (p x) 0 (suc (position_or_len p xs))
      by true e = rw e refl
      by false e = rw e (omega arith)

-- the numbers from a on, one after the other
all_from : (p : ℕ → Bool) (a n : ℕ) → list_all p (range_with_len a n) ≡ all_below (λ k. p (a + k)) n
unfolding all_below
all_from p a zero = refl
all_from p a (suc n) =
    let here : a ≡ a + 0 = omega arith in
    ap₂ (λ (b c : Bool). b && c) (ap p here) (all_from p (a + 1) n ∙ all_same (λ k. p (a + 1 + k)) (λ k. p (a + suc k)) n (λ k. ap p (omega arith)))
    ∙ sym (all_front (λ k. p (a + k)) n)

pub all_range : (p : ℕ → Bool) (n : ℕ) → list_all p (range_with_len 0 n) ≡ all_below p n
all_range p n = all_from p 0 n ∙ all_same (λ k. p (0 + k)) p n (λ k. ap p (omega arith))

pub sum_by_range : (f : ℕ → ℕ) (a n : ℕ) → sum_by f (range_with_len a n) ≡ sum_below (λ k. f (a + k)) n
sum_by_range f a n =
    rw (sum_by_index 0 f (range_with_len a n), length-range_with_len a n)
    (sum_same (λ k. f (get_or (range_with_len a n) k 0)) (λ k. f (a + k)) n (λ i l. ap f (get_or-range_with_len a n i 0 l)))

-- ---- a list made index after index, by a closure that stays as it is
module _ {A F : Type 0} (g : Mut F (ℕ × Unit {0}) A) (f : F) (h : ℕ → A) (d : A)
    (act : (k : ℕ) (y : A) (q : F) → Called g f (k, tt) y q → (q ≡ f) × (y ≡ h k)) where
  made_from : (xs : List A) (i n : ℕ) → IsFromFnResultFrom g f xs i n → (k : ℕ) → i ≤ k → k < i + n → get_or xs k d ≡ h k
  made_from xs i zero r k p l = absurd (omega arith)
  made_from xs i (suc n) r k p l =
      let made = act i r.1 r.0 r.3 in
      let rest : IsFromFnResultFrom g f xs (i + 1) n = subst (λ (q : F). IsFromFnResultFrom g q xs (i + 1) n) made.0 r.4 in
      ⊎_elim (λ q. made_from xs (i + 1) n rest k (omega (arith, q)) (omega arith))
      (λ q. let e : k ≡ i = omega (arith, q) in rw e (r.2.1 d ∙ made.1)) (lt_or_le i k)

  pub made_by_index : (xs : List A) (n : ℕ) → IsFromFnResult g f xs n → xs ≡ list_below h n
  made_by_index xs n r =
      ext_get_or d xs (list_below h n) (r.long ∙ sym (length_list h n))
      (λ i l. let q : i < n = omega (arith, l, r.long) in made_from xs 0 n r.each i (omega arith) (omega arith) ∙ sym (get_d_list d h n i q))

module _ {A B F : Type 0} (g : Mut F (A × Unit {0}) B) (f : F) (h : A → B) (d : A) (e : B)
    (act : (x : A) (y : B) (q : F) → Called g f (x, tt) y q → (q ≡ f) × (y ≡ h x)) where
  mapped_from : (xs : List A) (ys : List B) (i n : ℕ) → MapsFrom g f xs ys i n → (k : ℕ) → i ≤ k → k < i + n → get_or ys k e ≡ h (get_or xs k d)
  mapped_from xs ys i zero r k p l = absurd (omega arith)
  mapped_from xs ys i (suc n) r k p l =
      let made = act r.1 r.2 r.0 r.5 in
      let rest : MapsFrom g f xs ys (i + 1) n = subst (λ (q : F). MapsFrom g q xs ys (i + 1) n) made.0 r.6 in
      ⊎_elim (λ q. mapped_from xs ys (i + 1) n rest k (omega (arith, q)) (omega arith))
      (λ q. let s : k ≡ i = omega (arith, q) in rw s (r.4.1 e ∙ made.1 ∙ ap h (sym (r.3.1 d)))) (lt_or_le i k)

  pub mapped_by_index : (xs : List A) (ys : List B) (n : ℕ) → IsMapOf g f xs ys n → ys ≡ list_below (λ i. h (get_or xs i d)) n
  mapped_by_index xs ys n r =
      ext_get_or e ys (list_below (λ i. h (get_or xs i d)) n) (r.long ∙ sym (length_list _ n))
      (λ i l. let q : i < n = omega (arith, l, r.long) in
      mapped_from xs ys 0 n r.each i (omega arith) (omega arith) ∙ sym (get_d_list e (λ i. h (get_or xs i d)) n i q))
