-- The variables named by some literals, and how many of 1 to n they are.
use Prim.Native.Nat.{ℕ, ◌+◌, ◌-◌, ◌≤◌, ◌<◌}
use mathlib.Core.Path.{◌≡◌, refl, sym, ap, ◌∙◌}
use mathlib.Core.List.{List, [], ◌∷◌, ◌++◌}
use mathlib.Core.Bool.{Bool, true, false, ◌&&◌, ◌||◌, or-false, or_assoc, false≢true}
use native.Mathlib.Omega.{arith}
use lib.Dec.{T, eqb}
use borrow.Author.Tests.{eq-eqb, ne_eqb, eqb-true, eqb-false, lt-ltb}
use Rattle.model.specs.Indexed.{sum_below}
use Rattle.model.proofs.IndexedLaws.{one_if, sum_same, sum_add, sum_one, sum_const, sum_le, sum_equal, T_true, all_below_lem}
use Rattle.output.specs.declared.literals.Literal.{Literal}
use Rattle.output.specs.OutputCall.{is_named, all_named, is_bare}

-- ---- one literal more
pub named_more : (v : ℕ) (named : List Literal) (l : Literal) → is_named v (named ++ (l ∷ [])) ≡ (is_named v named || eqb l.variable v)
unfolding is_named
named_more v [] l = or-false (eqb l.variable v)
named_more v (x ∷ named) l =
    ap (λ (b : Bool). eqb x.variable v || b) (named_more v named l)
    ∙ sym (or_assoc (eqb x.variable v) (is_named v named) (eqb l.variable v))

pub bare_more : (v : ℕ) (named : List Literal) (l : Literal) → is_bare v (named ++ (l ∷ [])) ≡ (is_bare v named || (eqb l.variable v && l.bare))
unfolding is_bare
bare_more v [] l = or-false (eqb l.variable v && l.bare)
bare_more v (x ∷ named) l =
    ap (λ (b : Bool). (eqb x.variable v && x.bare) || b) (bare_more v named l)
    ∙ sym (or_assoc (eqb x.variable v && x.bare) (is_bare v named) (eqb l.variable v && l.bare))

-- a variable that is not named has no bare literal
pub bare_named : (v : ℕ) (named : List Literal) → is_named v named ≡ false → is_bare v named ≡ false
unfolding is_named is_bare
bare_named v [] h = refl
bare_named v (x ∷ named) h = go (eqb x.variable v) (bare_named v named) h
  where
    go : (t : Bool) → (is_named v named ≡ false → is_bare v named ≡ false) → (t || is_named v named) ≡ false → ((t && x.bare) || is_bare v named) ≡ false
    go true rest h = absurd (false≢true (sym h))
    go false rest h = rest h

-- ---- how many of 1 to n are named
abbrev pub named_below : ℕ → List Literal → ℕ
named_below n named = sum_below (λ i. one_if (is_named (i + 1) named)) n

pub none_named : (n : ℕ) → named_below n [] ≡ 0
unfolding is_named
none_named n = sum_const n 0 ∙ omega arith

-- one more, if the literal's variable is one of them and was not named
pub below_more : (n : ℕ) (named : List Literal) (l : Literal) → (l.variable ≡ 0 → ⊥) → l.variable ≤ n → is_named l.variable named ≡ false
    → named_below n (named ++ (l ∷ [])) ≡ named_below n named + 1
below_more n named l nonzero small new =
    sum_same _ _ n (λ i h. each i)
    ∙ sum_add (λ i. one_if (is_named (i + 1) named)) (λ i. one_if (eqb i (l.variable - 1))) n
    ∙ ap (λ (k : ℕ). named_below n named + k) (sum_one (l.variable - 1) n ∙ ap one_if (lt-ltb (l.variable - 1) n (omega (arith, nonzero))))
  where
    each : (i : ℕ) → one_if (is_named (i + 1) (named ++ (l ∷ []))) ≡ one_if (is_named (i + 1) named) + one_if (eqb i (l.variable - 1))
    each i = ap one_if (named_more (i + 1) named l) ∙ go (eqb l.variable (i + 1)) refl
      where
        go : (t : Bool) → eqb l.variable (i + 1) ≡ t → one_if (is_named (i + 1) named || t) ≡ one_if (is_named (i + 1) named) + one_if (eqb i (l.variable - 1))
        go true e =
            let here : l.variable ≡ i + 1 = eqb-true l.variable (i + 1) e in
            rw (sym (ap (λ (v : ℕ). is_named v named) here) ∙ new, eq-eqb i (l.variable - 1) (omega arith))
        go false e =
            let other : i ≡ l.variable - 1 → ⊥ = λ h. eqb-false l.variable (i + 1) e (omega (arith, nonzero, h)) in
            rw (or-false (is_named (i + 1) named), ne_eqb i (l.variable - 1) other) (omega arith)

at_most_one : (b : Bool) → one_if b ≤ 1
at_most_one true = omega arith
at_most_one false = omega arith

-- no more than n
pub below_few : (n : ℕ) (named : List Literal) → named_below n named ≤ n
below_few n named =
    let h = sum_le (λ i. one_if (is_named (i + 1) named)) (λ i. 1) n (λ i q. at_most_one (is_named (i + 1) named)) in
    omega (arith, sum_const n 1)

-- all of them, if they are n
pub full_all : (n : ℕ) (named : List Literal) → named_below n named ≡ n → all_named n named ≡ true
unfolding all_named
full_all n named full = (T_true _).0 ((all_below_lem (λ i. is_named (i + 1) named) n).1 (λ i q. one (is_named (i + 1) named) (each i q)))
  where
    each : (i : ℕ) → i < n → one_if (is_named (i + 1) named) ≡ 1
    each = sum_equal (λ i. one_if (is_named (i + 1) named)) (λ i. 1) n (λ i q. at_most_one (is_named (i + 1) named)) (omega (arith, full, sum_const n 1))

    one : (b : Bool) → one_if b ≡ 1 → T b
    one true h = tt
    one false h = absurd (omega arith)

-- each of them is named, if all are
pub all_each : (n : ℕ) (named : List Literal) (v : ℕ) → all_named n named ≡ true → (v ≡ 0 → ⊥) → v ≤ n → is_named v named ≡ true
unfolding all_named
all_each n named v all nonzero small =
    let h = (all_below_lem (λ i. is_named (i + 1) named) n).0 ((T_true _).1 all) (v - 1) (omega (arith, nonzero)) in
    let e : v - 1 + 1 ≡ v = omega (arith, nonzero) in
    ap (λ (w : ℕ). is_named w named) (sym e) ∙ (T_true _).0 h

pub all_full : (n : ℕ) (named : List Literal) → all_named n named ≡ true → named_below n named ≡ n
all_full n named all =
    sum_same (λ i. one_if (is_named (i + 1) named)) (λ i. 1) n (λ i q. ap one_if (all_each n named (i + 1) all (λ e. omega arith) (omega arith)))
    ∙ sum_const n 1
    ∙ omega arith
