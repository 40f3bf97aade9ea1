-- Digits of a number: one step and two steps at a time, induction by steps, and how many there are.
use mathlib.Core.Path.{◌≡◌, refl, sym, ap, ◌∙◌}
use mathlib.Core.Logic.{◌⊎◌, inl, inr, ⊎_elim}
use mathlib.Core.Bool.{Bool, true, false}
use mathlib.Core.List.{List, [], ◌∷◌, ◌++◌, append_assoc}
use Prim.Native.Nat.{ℕ, zero, suc, ◌+◌, ◌/◌, ◌%◌, ◌^◌, ◌≤◌, ◌<◌}
use native.Mathlib.Nat.{pow-succ', one-le-pow}
use native.Mathlib.Omega.{arith}
use lib.ListN.{length, length-append}
use lib.Dec.{ltb}
use borrow.Author.Tests.{lt-ltb, le-ltb, ltb-true, ltb-false}
use Rattle.decimal.specs.Decimal.{digit, digits_within, digits}

lt_or_le : (a b : ℕ) → (a < b) ⊎ (b ≤ a)
lt_or_le a b = go (ltb a b) refl
  where
    go : (t : Bool) → ltb a b ≡ t → (a < b) ⊎ (b ≤ a)
    go true e = inl (ltb-true a b e)
    go false e = inr (ltb-false a b e)

-- ---- one step
within_small : (most n : ℕ) → n < 10 → digits_within most n ≡ digit n ∷ []
unfolding digits_within
within_small zero n h = refl
within_small (suc most) n h = rw (lt-ltb n 10 h)

within_step : (most n : ℕ) → 10 ≤ n → digits_within (suc most) n ≡ digits_within most (n / 10) ++ (digit (n % 10) ∷ [])
unfolding digits_within
within_step most n h = rw (le-ltb n 10 h)

-- once there are as many steps as the number counts, more steps change nothing
within_enough : (f g n : ℕ) → n ≤ f → n ≤ g → digits_within f n ≡ digits_within g n
within_enough zero g n p q = within_small zero n (omega arith) ∙ sym (within_small g n (omega arith))
within_enough (suc f) zero n p q = within_small (suc f) n (omega arith) ∙ sym (within_small zero n (omega arith))
within_enough (suc f) (suc g) n p q =
    ⊎_elim
    (λ (h : n < 10). within_small (suc f) n h ∙ sym (within_small (suc g) n h))
    (λ (h : 10 ≤ n).
    within_step f n h
    ∙ ap (λ (l : List ℕ). l ++ (digit (n % 10) ∷ [])) (within_enough f g (n / 10) (omega arith) (omega arith))
    ∙ sym (within_step g n h))
    (lt_or_le n 10)

pub digits_small : (n : ℕ) → n < 10 → digits n ≡ digit n ∷ []
unfolding digits
digits_small n h = within_small n n h

pub digits_step : (n : ℕ) → 10 ≤ n → digits n ≡ digits (n / 10) ++ (digit (n % 10) ∷ [])
unfolding digits
digits_step zero h = absurd (omega arith)
digits_step (suc k) h =
    within_step k (suc k) h
    ∙ ap (λ (l : List ℕ). l ++ (digit (suc k % 10) ∷ [])) (within_enough k (suc k / 10) (suc k / 10) (omega arith) (omega arith))

-- what holds of numbers below 10, and of n where it holds of n / 10, holds of every number
pub digits_ind : (P : ℕ → Type 0) → ((n : ℕ) → n < 10 → P n) → ((n : ℕ) → 10 ≤ n → P (n / 10) → P n) → (n : ℕ) → P n
digits_ind P small step n = go n n (omega arith)
  where
    go : (f n : ℕ) → n ≤ f → P n
    go zero n h = small n (omega arith)
    go (suc f) n h = ⊎_elim (λ (l : n < 10). small n l) (λ (l : 10 ≤ n). step n l (go f (n / 10) (omega arith))) (lt_or_le n 10)

-- ---- two steps
-- a number from 10 to 99 has two digits
pub digits_two : (n : ℕ) → 10 ≤ n → n < 100 → digits n ≡ digit (n / 10) ∷ digit (n % 10) ∷ []
digits_two n h l = digits_step n h ∙ ap (λ (s : List ℕ). s ++ (digit (n % 10) ∷ [])) (digits_small (n / 10) (omega arith))

pub digits_hundreds : (n : ℕ) → 100 ≤ n → digits n ≡ digits (n / 100) ++ (digit (n % 100 / 10) ∷ digit (n % 100 % 10) ∷ [])
digits_hundreds n h =
    let tens : n / 10 / 10 ≡ n / 100 = omega arith in
    let ten : n / 10 % 10 ≡ n % 100 / 10 = omega arith in
    let unit : n % 10 ≡ n % 100 % 10 = omega arith in
    digits_step n (omega arith)
    ∙ rw (digits_step (n / 10) (omega arith), tens, ten, unit, append_assoc (digits (n / 100)) (digit (n % 100 / 10) ∷ []) (digit (n % 100 % 10) ∷ []))

-- ---- how many
pub length_small : (n : ℕ) → n < 10 → length (digits n) ≡ 1
length_small n h = ap length (digits_small n h)

pub length_step : (n : ℕ) → 10 ≤ n → length (digits n) ≡ length (digits (n / 10)) + 1
length_step n h = ap length (digits_step n h) ∙ length-append (digits (n / 10)) (digit (n % 10) ∷ [])

-- at least one
pub digits_some : (n : ℕ) → 1 ≤ length (digits n)
digits_some =
    digits_ind (λ n. 1 ≤ length (digits n)) (λ n h. omega (arith, length_small n h)) (λ n h ih. omega (arith, length_step n h))

-- at most so many
pub digits_most : (most n : ℕ) → n < 10 ^ suc most → length (digits n) ≤ suc most
digits_most zero n h = omega (arith, length_small n (omega arith))
digits_most (suc most) n h =
    ⊎_elim
    (λ (l : n < 10). omega (arith, length_small n l))
    (λ (l : 10 ≤ n). omega (arith, length_step n l, digits_most most (n / 10) (omega (arith, pow-succ' 10 (suc most)))))
    (lt_or_le n 10)

pub digits_most_five : (n : ℕ) → n < 100000 → length (digits n) ≤ 5
digits_most_five n h = digits_most 4 n h

pub digits_most_twenty : (n : ℕ) → n < 2 ^ 64 → length (digits n) ≤ 20
digits_most_twenty n h = digits_most 19 n (omega arith)

-- at least so many
pub digits_least : (least n : ℕ) → 10 ^ least ≤ n → suc least ≤ length (digits n)
digits_least zero n h = digits_some n
digits_least (suc least) n h =
    let p = pow-succ' 10 least in
    let ten : 10 ≤ n = omega (arith, p, one-le-pow least 10 (omega arith)) in
    omega (arith, length_step n ten, digits_least least (n / 10) (omega (arith, p)))

-- a larger number has no fewer
pub digits_rise : (k n : ℕ) → n ≤ k → length (digits n) ≤ length (digits k)
digits_rise =
    digits_ind (λ k. (n : ℕ) → n ≤ k → length (digits n) ≤ length (digits k))
    (λ k l n h. omega (arith, length_small k l, length_small n (omega arith)))
    (λ k l ih n h.
    ⊎_elim
    (λ (s : n < 10). omega (arith, length_small n s, digits_some k))
    (λ (s : 10 ≤ n). omega (arith, length_step n s, length_step k l, ih (n / 10) (omega arith)))
    (lt_or_le n 10))

-- five steps
pub length_five : (n : ℕ) → 100000 ≤ n → length (digits n) ≡ length (digits (n / 100000)) + 5
length_five n h =
    let e : n / 10 / 10 / 10 / 10 / 10 ≡ n / 100000 = omega arith in
    let s1 = length_step n (omega arith) in
    let s2 = length_step (n / 10) (omega arith) in
    let s3 = length_step (n / 10 / 10) (omega arith) in
    let s4 = length_step (n / 10 / 10 / 10) (omega arith) in
    let s5 = length_step (n / 10 / 10 / 10 / 10) (omega arith) in
    omega (arith, s1, s2, s3, s4, s5, ap (λ (k : ℕ). length (digits k)) e)
