-- Laws of tests, of what may be missing, and of "each", "all", "the greatest", "the sum" and "the first" over an index.
use mathlib.Core.Path.{◌≡◌, refl, sym, ap, subst, ◌∙◌}
use mathlib.Core.Logic.{◌↔◌, ◌⊎◌, inl, inr, ⊎_elim}
use mathlib.Core.Bool.{Bool, true, false, ◌&&◌, not, cond, and-false}
use mathlib.Core.List.{List, [], ◌∷◌, ◌++◌}
use Rattle.std.specs.Prelude.{Option, None, Some}
use Prim.Native.Nat.{ℕ, zero, suc, ◌+◌, ◌*◌, ◌≤◌, ◌<◌, max}
use native.Mathlib.Nat.{eq-or-lt_of_le, le_of_suc-le-suc, not-suc-le-zero}
use native.Mathlib.Omega.{arith}
use native.Mathlib.Numerals.{add-one}
use borrow.Author.Tests.{not-true, not-false}
use lib.Dec.{T, leb, ltb, eqb, leb→le, nleb→lt, ltb→lt, lt→ltb, eqb→eq, eqb_refl, not_T, T_not}
use lib.ListN.{length, get_or, length-append, get_or-append}
use lib.Seq.{get_or-append_seam}
use Rattle.model.specs.Indexed.{each, list_below, all_below, max_below, sum_below, first_below, only_if, and_then}

-- ---- tests
pub and_T : (a b : Bool) → T (a && b) ↔ (T a × T b)
and_T true b = (λ h. (tt, h), λ h. h.1)
and_T false b = (λ h. absurd h, λ h. absurd h.0)

pub eq_T : (a b : ℕ) → T (eqb a b) ↔ (a ≡ b)
eq_T a b = (eqb→eq a b, λ e. subst (λ (x : ℕ). T (eqb a x)) e (eqb_refl a))

-- a callee's answer r, after a test `!r`
pub told_false : {r b : Bool} → r ≡ b → not r ≡ true → b ≡ false
told_false e t = sym e ∙ not-true _ t

pub told_true : {r b : Bool} → r ≡ b → not r ≡ false → b ≡ true
told_true e t = sym e ∙ not-false _ t

pub T_true : (b : Bool) → T b ↔ (b ≡ true)
T_true true = (λ h. refl, λ h. tt)
T_true false = (λ h. absurd h, λ h. subst T (sym h) tt)

-- a test passes or fails
pub split : (b : Bool) → T b ⊎ T (not b)
split true = inl tt
split false = inr tt

pub lt_or_le : (a b : ℕ) → (a < b) ⊎ (b ≤ a)
lt_or_le a b = ⊎_elim (λ t. inr (leb→le b a t)) (λ t. inl (nleb→lt b a t)) (split (leb b a))

pub cond_T : {A : Type 0} (b : Bool) (x y : A) → T b → cond b x y ≡ x
cond_T true x y h = refl
cond_T false x y h = absurd h

pub cond_F : {A : Type 0} (b : Bool) (x y : A) → T (not b) → cond b x y ≡ y
cond_F true x y h = absurd h
cond_F false x y h = refl

pub not_lt : (a b : ℕ) → b ≤ a → T (not (ltb a b))
not_lt a b h = not_T (ltb a b) (λ t. omega (arith, ltb→lt a b t))

-- ---- what may be missing
pub some_inj : {A : Type 0} {x y : A} → Some x ≡ Some y → x ≡ y
some_inj {x} {y} e = cc

pub some_none : {A : Type 0} {x : A} → ◌≡◌ {A = Option A} None (Some x) → ⊥
some_none e = let z : ◌≡◌ {A = ℕ} 0 1 = cc in omega arith

pub only_if_lem : {A : Type 0} (b : Bool) (x y : A) → (only_if b x ≡ Some y) ↔ (T b × (x ≡ y))
only_if_lem true x y = (λ e. (tt, some_inj e), λ h. ap Some h.1)
only_if_lem false x y = (λ e. absurd (some_none e), λ h. absurd h.0)

pub cond_some : {A : Type 0} (b : Bool) (x : Option A) (y : A) → (cond b x None ≡ Some y) ↔ (T b × (x ≡ Some y))
cond_some true x y = (λ e. (tt, e), λ h. h.1)
cond_some false x y = (λ e. absurd (some_none e), λ h. absurd h.0)

pub then_iff : {A B : Type 0} (x : Option A) (f : A → Option B) (y : B) → (and_then x f ≡ Some y) ↔ ((a : A) × (x ≡ Some a) × (f a ≡ Some y))
then_iff None f y = (λ e. absurd (some_none e), λ h. absurd (some_none h.1))
then_iff (Some a) f y = (λ e. (a, refl, e), λ h. rw (some_inj h.1) h.2)

-- ---- over an index
-- the last index of a range, or one before it
pub below_cases : {C : Type 0} (v n : ℕ) → v < suc n → (v ≡ n → C) → (v < n → C) → C
below_cases v n q f g = ⊎_elim f g (eq-or-lt_of_le (le_of_suc-le-suc q))

-- what holds of every index below n, and of n
pub below_more : {P : ℕ → Type 0} {n : ℕ} → ((i : ℕ) → i < n → P i) → P n → (i : ℕ) → i < n + 1 → P i
below_more {P} {n} h here i l = ⊎_elim (λ q. h i q) (λ q. let e : i ≡ n = omega arith in subst P (sym e) here) (lt_or_le i n)

pub all_below_lem : (p : ℕ → Bool) (n : ℕ) → T (all_below p n) ↔ ((i : ℕ) → i < n → T (p i))
unfolding all_below
all_below_lem p zero = (λ h i q. absurd (not-suc-le-zero q), λ h. tt)
all_below_lem p (suc n) = (
  λ h i q. let g = (and_T (all_below p n) (p n)).0 h in below_cases i n q (λ e. rw e g.1) (λ l. (all_below_lem p n).0 g.0 i l),
  λ h. (and_T (all_below p n) (p n)).1 ((all_below_lem p n).1 (λ i q. h i (omega arith)), h n (omega arith)),
)

pub max_below_lem : (f : ℕ → ℕ) (n b : ℕ) → ((i : ℕ) → i < n → f i ≤ b) → max_below f n ≤ b
unfolding max_below
max_below_lem f zero b h = omega arith
max_below_lem f (suc n) b h = omega (arith, max_below_lem f n b (λ i l. h i (omega arith)), h n (omega arith))

pub max_at : (f : ℕ → ℕ) (n i : ℕ) → i < n → f i ≤ max_below f n
unfolding max_below
max_at f zero i p = absurd (not-suc-le-zero p)
max_at f (suc n) i p = below_cases i n p (λ q. rw q (omega arith)) (λ l. omega (arith, max_at f n i l))

pub max_same : (f g : ℕ → ℕ) (n : ℕ) → ((i : ℕ) → i < n → f i ≡ g i) → max_below f n ≡ max_below g n
unfolding max_below
max_same f g zero h = refl
max_same f g (suc n) h = omega (arith, max_same f g n (λ i l. h i (omega arith)), h n (omega arith))

pub sum_below_lem : (f : ℕ → ℕ) (n b : ℕ) → ((i : ℕ) → i < n → f i ≤ b) → sum_below f n ≤ n * b
unfolding sum_below
sum_below_lem f zero b h = omega arith
sum_below_lem f (suc n) b h = omega (arith, sum_below_lem f n b (λ i l. h i (omega arith)), h n (omega arith))

pub sum_suc : (f : ℕ → ℕ) (n : ℕ) → sum_below f (suc n) ≡ sum_below f n + f n
unfolding sum_below
sum_suc f n = refl

pub sum_same : (f g : ℕ → ℕ) (n : ℕ) → ((i : ℕ) → i < n → f i ≡ g i) → sum_below f n ≡ sum_below g n
unfolding sum_below
sum_same f g zero h = refl
sum_same f g (suc n) h = omega (arith, sum_same f g n (λ i l. h i (omega arith)), h n (omega arith))

pub sum_closed : (f g : ℕ → ℕ) → g 0 ≡ 0 → ((n : ℕ) → g (suc n) ≡ g n + f n) → (n : ℕ) → sum_below f n ≡ g n
unfolding sum_below
sum_closed f g a h zero = sym a
sum_closed f g a h (suc n) = omega (arith, sum_closed f g a h n, h n)

pub sum_const : (n c : ℕ) → sum_below (λ _. c) n ≡ n * c
unfolding sum_below
sum_const zero c = omega arith
sum_const (suc n) c = omega (arith, sum_const n c)

pub sum_le : (f g : ℕ → ℕ) (n : ℕ) → ((i : ℕ) → i < n → f i ≤ g i) → sum_below f n ≤ sum_below g n
unfolding sum_below
sum_le f g zero h = omega arith
sum_le f g (suc n) h = omega (arith, sum_le f g n (λ i l. h i (omega arith)), h n (omega arith))

pub sum_mono : (f : ℕ → ℕ) (i n : ℕ) → i < n → sum_below f i + f i ≤ sum_below f n
unfolding sum_below
sum_mono f i zero p = absurd (not-suc-le-zero p)
sum_mono f i (suc n) p = below_cases i n p (λ q. rw q (omega arith)) (λ l. omega (arith, sum_mono f i n l))

pub sum_add : (f g : ℕ → ℕ) (n : ℕ) → sum_below (λ i. f i + g i) n ≡ sum_below f n + sum_below g n
unfolding sum_below
sum_add f g zero = omega arith
sum_add f g (suc n) = omega (arith, sum_add f g n)

-- 1 where a test holds
abbrev pub one_if : Bool → ℕ
one_if b = cond b 1 0

pub one_if_lem : (b : Bool) → T b → one_if b ≡ 1
one_if_lem b t = cond_T b 1 0 t

pub zero_if : (b : Bool) → T (not b) → one_if b ≡ 0
zero_if b t = cond_F b 1 0 t

-- one index of n counts
pub sum_one : (j n : ℕ) → sum_below (λ i. one_if (eqb i j)) n ≡ one_if (ltb j n)
unfolding sum_below
sum_one j zero = sym (zero_if (ltb j 0) (not_lt j 0 (omega arith)))
sum_one j (suc n) = ⊎_elim
    (λ l. let e = sum_one j n in
    let f = one_if_lem (ltb j n) (lt→ltb j n l) in
    omega (arith, e, f, apart (λ z. omega (arith, z)), one_if_lem (ltb j (suc n)) (lt→ltb j (suc n) (omega arith))))
    (λ l. let e = sum_one j n in let f = zero_if (ltb j n) (not_lt j n l) in ⊎_elim
    (λ q. omega (arith, e, f, one_if_lem (eqb n j) ((eq_T n j).1 (omega arith)), one_if_lem (ltb j (suc n)) (lt→ltb j (suc n) q)))
    (λ q. omega (arith, e, f, apart (λ z. omega (arith, z)), zero_if (ltb j (suc n)) (not_lt j (suc n) q)))
    (lt_or_le j (suc n)))
    (lt_or_le j n)
  where
    apart : (n ≡ j → ⊥) → one_if (eqb n j) ≡ 0
    apart h = zero_if (eqb n j) (not_T (eqb n j) (λ t. h ((eq_T n j).0 t)))

-- terms that are no greater and have the same sum are the same
pub sum_equal : (f g : ℕ → ℕ) (n : ℕ) → ((i : ℕ) → i < n → f i ≤ g i) → sum_below g n ≤ sum_below f n → (i : ℕ) → i < n → f i ≡ g i
unfolding sum_below
sum_equal f g zero h e i p = absurd (not-suc-le-zero p)
sum_equal f g (suc n) h e i p =
    let le = sum_le f g n (λ i l. h i (omega arith)) in
    below_cases i n p (λ q. rw q (omega (arith, h n (omega arith))))
    (λ l. sum_equal f g n (λ i l. h i (omega arith)) (omega (arith, h n (omega arith))) i l)

-- ---- the first index
-- k is the first index below n of which p holds, or n
pub record First (p : ℕ → Bool) (n k : ℕ) : Type 0 where
  pub within : k ≤ n
  pub holds : k < n → T (p k)
  pub least : (j : ℕ) → j < k → p j ≡ false

first_more : (p : ℕ → Bool) (n k : ℕ) → First p n k → First p (suc n) (cond (ltb k n) k (cond (p n) n (suc n)))
first_more p n k before = ⊎_elim found (λ f. ⊎_elim (here f) (nowhere f) (split (p n))) (split (ltb k n))
  where
    answer : ℕ
    answer = cond (ltb k n) k (cond (p n) n (suc n))

    found : T (ltb k n) → First p (suc n) answer
    found t = let l : k < n = ltb→lt k n t in
        subst (First p (suc n)) (sym (cond_T (ltb k n) k (cond (p n) n (suc n)) t))
        (record { within = omega arith; holds = λ _. before.holds l; least = before.least })

    last : T (not (ltb k n)) → k ≡ n
    last f = let q = before.within in ⊎_elim (λ l. absurd (T_not (ltb k n) f (lt→ltb k n l))) (λ l. omega arith) (lt_or_le k n)

    here : T (not (ltb k n)) → T (p n) → First p (suc n) answer
    here f t = let e = last f in
        subst (First p (suc n)) (sym (cond_F (ltb k n) k (cond (p n) n (suc n)) f ∙ cond_T (p n) n (suc n) t))
        (record { within = omega arith; holds = λ _. t; least = λ j l. before.least j (omega arith) })

    nowhere : T (not (ltb k n)) → T (not (p n)) → First p (suc n) answer
    nowhere f t = let e = last f in
        subst (First p (suc n)) (sym (cond_F (ltb k n) k (cond (p n) n (suc n)) f ∙ cond_F (p n) n (suc n) t))
        (record {
          within = omega arith;
          holds = λ l. absurd (omega (arith, l));
          least = λ j l. below_cases j n l (λ q. rw q (not-true (p n) ((T_true (not (p n))).0 t))) (λ q. before.least j (omega arith));
        })

pub first_law : (p : ℕ → Bool) (n : ℕ) → First p n (first_below p n)
unfolding first_below
first_law p zero = record { within = omega arith; holds = λ l. absurd (not-suc-le-zero l); least = λ j l. absurd (not-suc-le-zero l) }
first_law p (suc n) = first_more p n (first_below p n) (first_law p n)

pub first_unique : {p : ℕ → Bool} {n j k : ℕ} → First p n j → First p n k → j ≡ k
first_unique {p} {n} {j} {k} a b =
    let a-le = a.within in
    let b-le = b.within in
    ⊎_elim (λ l. absurd (clash j (a.holds (omega arith)) (b.least j l)))
    (λ l. ⊎_elim (λ q. absurd (clash k (b.holds (omega arith)) (a.least k q))) (λ q. omega arith) (lt_or_le k j)) (lt_or_le j k)
  where
    clash : (i : ℕ) → T (p i) → p i ≡ false → ⊥
    clash i t f = subst T f t

pub first_is : (p : ℕ → Bool) (k n : ℕ) → k < n → T (p k) → ((j : ℕ) → j < k → p j ≡ false) → first_below p n ≡ k
first_is p k n l t h = first_unique (first_law p n) (record { within = omega arith; holds = λ _. t; least = h })

pub first_none : (p : ℕ → Bool) (n : ℕ) → ((j : ℕ) → j < n → p j ≡ false) → first_below p n ≡ n
first_none p n h = first_unique (first_law p n) (record { within = omega arith; holds = λ l. absurd (omega (arith, l)); least = h })

module _ {A : Type 0} where
  pub each_suc : (n : ℕ) (f : ℕ → List A) → each (suc n) f ≡ each n f ++ f n
  unfolding each
  each_suc n f = refl

  pub each_zero : (f : ℕ → List A) → each 0 f ≡ []
  unfolding each
  each_zero f = refl

  pub length_each : (len : ℕ → ℕ) (n : ℕ) (f : ℕ → List A) → ((i : ℕ) → length (f i) ≡ len i) → length (each n f) ≡ sum_below len n
  unfolding each sum_below
  length_each len zero f h = refl
  length_each len (suc n) f h = length-append (each n f) (f n) ∙ rw (length_each len n f h, h n)

  pub length_list : (f : ℕ → A) (n : ℕ) → length (list_below f n) ≡ n
  unfolding list_below
  length_list f zero = refl
  length_list f (suc n) = length-append (list_below f n) (f n ∷ []) ∙ omega (arith, length_list f n)

  pub get_d_list : (d : A) (f : ℕ → A) (n v : ℕ) → v < n → get_or (list_below f n) v d ≡ f v
  unfolding list_below
  get_d_list d f zero v p = absurd (not-suc-le-zero p)
  get_d_list d f (suc n) v p = below_cases v n p
      (λ e. ap (λ (i : ℕ). get_or (list_below f n ++ (f n ∷ [])) i d) (e ∙ sym (length_list f n))
      ∙ get_or-append_seam (list_below f n) (f n) [] d ∙ ap f (sym e))
      (λ l. get_or-append (list_below f n) (f n ∷ []) d v (rw (length_list f n) l) ∙ get_d_list d f n v l)

-- ---- the turns of a loop, at n + 1
pub all_none : (p : ℕ → Bool) → all_below p 0 ≡ true
unfolding all_below
all_none p = refl

pub all_next : (p : ℕ → Bool) (n : ℕ) → all_below p n ≡ true → p n ≡ true → all_below p (n + 1) ≡ true
unfolding all_below
all_next p n a b = ap (all_below p) (add-one n) ∙ rw (a, b) refl

pub all_fails : (p : ℕ → Bool) (i n : ℕ) → i < n → p i ≡ false → all_below p n ≡ false
unfolding all_below
all_fails p i zero l e = absurd (not-suc-le-zero l)
all_fails p i (suc n) l e = below_cases i n l (λ q. rw (← q, e) (and-false (all_below p i))) (λ q. rw (all_fails p i n q e) refl)

-- a turn of a loop that ends at the first answer r that is false
pub all_stops : (p : ℕ → Bool) (i n : ℕ) {r : Bool} → i < n → r ≡ p i → not r ≡ true → false ≡ all_below p n
all_stops p i n l e t = sym (all_fails p i n l (told_false e t))

pub all_goes : (p : ℕ → Bool) (n : ℕ) {r : Bool} → all_below p n ≡ true → r ≡ p n → not r ≡ false → all_below p (n + 1) ≡ true
all_goes p n a e t = all_next p n a (told_true e t)

pub max_none : (f : ℕ → ℕ) → max_below f 0 ≡ 0
unfolding max_below
max_none f = refl

pub max_more : (f : ℕ → ℕ) (n : ℕ) → max_below f (n + 1) ≡ max (max_below f n) (f n)
unfolding max_below
max_more f n = ap (max_below f) (add-one n)

pub sum_none : (f : ℕ → ℕ) → sum_below f 0 ≡ 0
unfolding sum_below
sum_none f = refl

pub sum_more : (f : ℕ → ℕ) (n : ℕ) → sum_below f (n + 1) ≡ sum_below f n + f n
unfolding sum_below
sum_more f n = ap (sum_below f) (add-one n)

pub list_none : {A : Type 0} (f : ℕ → A) → list_below f 0 ≡ []
unfolding list_below
list_none f = refl

pub list_more : {A : Type 0} (f : ℕ → A) (n : ℕ) → list_below f (n + 1) ≡ list_below f n ++ (f n ∷ [])
unfolding list_below
list_more f n = ap (list_below f) (add-one n)
