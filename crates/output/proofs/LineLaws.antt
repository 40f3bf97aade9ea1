-- Laws of the forms of a line.
use Rattle.std.specs.Prelude.{Option, Some, None}
use Prim.Native.Nat.{ℕ, ◌≤◌, ◌<◌}
use mathlib.Core.Path.{◌≡◌, refl, sym, ◌∙◌, ap}
use mathlib.Core.List.{List, [], ◌∷◌}
use mathlib.Core.Logic.{⊎_elim}
use mathlib.Core.Bool.{Bool, true, false, ◌&&◌}
use native.Mathlib.Omega.{arith}
use lib.ListN.{length, take}
use lib.Dec.{eqb, eqb-suc-suc, eqb-suc-zero, eqb-zero-suc}
use lib.Pointwise.{pointwise}
use borrow.Author.Tests.{eq-eqb, ne_eqb, eqb-true, eqb-false}
use Rattle.model.proofs.IndexedLaws.{lt_or_le}
use Rattle.text.specs.bytes.Bytes.{starts_with}
use Rattle.output.specs.Lines.{is_text, is_values, form_of}
use Rattle.output.specs.declared.lines.LineForm.{LineForm}
use Rattle.output.specs.declared.lines.LineForm.TheVariants.{Comment, Satisfiable, Unsatisfiable, Values}

-- ---- what the library says of a key
pub flip : (x y : ℕ) → eqb x y ≡ eqb y x
flip x y = by (eqb x y) refl
  where
    by : (t : Bool) → eqb x y ≡ t → eqb x y ≡ eqb y x
    by true e = e ∙ sym (eq-eqb y x (sym (eqb-true x y e)))
    by false e = e ∙ sym (ne_eqb y x (λ h. eqb-false x y e (sym h)))

pub begins_is : (k l : List ℕ) → pointwise eqb k (take (length k) l) ≡ starts_with k l
unfolding starts_with
begins_is [] l = refl
begins_is (x ∷ k) [] = refl
begins_is (x ∷ k) (y ∷ l) = ap (λ (b : Bool). eqb x y && b) (begins_is k l)

stripped_is : (k l : List ℕ) → pointwise eqb (take (length k) l) k ≡ starts_with k l
unfolding starts_with
stripped_is [] l = refl
stripped_is (x ∷ k) [] = refl
stripped_is (x ∷ k) (y ∷ l) = rw (flip y x, stripped_is k l)

whole_is : (k l : List ℕ) → pointwise eqb l k ≡ is_text k l
unfolding is_text starts_with
whole_is [] [] = refl
whole_is [] (y ∷ l) = rw (eqb-suc-zero (length l))
whole_is (x ∷ k) [] = rw (eqb-zero-suc (length k))
whole_is (x ∷ k) (y ∷ l) = rw (flip y x, whole_is k l, eqb-suc-suc (length l) (length k)) (swap (eqb x y) (eqb (length l) (length k)) (starts_with k l))
  where
    swap : (a b c : Bool) → a && (b && c) ≡ b && (a && c)
    swap true b c = refl
    swap false true c = refl
    swap false false c = refl

-- a test of the code, with its answer b
pub begins : (k l : List ℕ) {r b : Bool} → r ≡ pointwise eqb k (take (length k) l) → r ≡ b → starts_with k l ≡ b
begins k l e h = sym (begins_is k l) ∙ sym e ∙ h

pub whole : (k l : List ℕ) {s : List ℕ} {r b : Bool} → s ≡ k → r ≡ pointwise eqb l s → r ≡ b → is_text k l ≡ b
whole k l s e h = sym (whole_is k l) ∙ ap (pointwise eqb l) (sym s) ∙ sym e ∙ h

pub stripped : (k l : List ℕ) {b : Bool} → pointwise eqb (take (length k) l) k ≡ b → starts_with k l ≡ b
stripped k l e = sym (stripped_is k l) ∙ e

-- a list of one byte does not begin with two
one_short : (a b x : ℕ) → starts_with (a ∷ b ∷ []) (x ∷ []) ≡ false
unfolding starts_with
one_short a b x = go (eqb a x)
  where
    go : (t : Bool) → t && false ≡ false
    go true = refl
    go false = refl

pub key_short : (a b : ℕ) (l : List ℕ) → length l < 2 → starts_with (a ∷ b ∷ []) l ≡ false
unfolding starts_with
key_short a b [] h = refl
key_short a b (x ∷ []) h = one_short a b x
key_short a b (x ∷ y ∷ l) h = absurd (omega arith)

-- ---- v and a space take two bytes
pub values_short : (l : List ℕ) → length l < 2 → is_values l ≡ false
unfolding is_values
values_short l h = rw (key_short 118 32 l h)

form_short : (l : List ℕ) → length l < 2 → form_of l ≡ None
unfolding form_of is_text starts_with
form_short [] h = rw (values_short [] h)
form_short (x ∷ []) h = rw (one_short 99 32 x, values_short (x ∷ []) h)
form_short (x ∷ y ∷ l) h = absurd (omega arith)

abbrev one_of_values : Option LineForm → ℕ
one_of_values None = 0
one_of_values (Some Comment) = 0
one_of_values (Some Satisfiable) = 0
one_of_values (Some Unsatisfiable) = 0
one_of_values (Some Values) = 1

pub values_long : (l : List ℕ) → form_of l ≡ Some Values → 2 ≤ length l
values_long l e = ⊎_elim
    (λ h. let no : 0 ≡ 1 = ap one_of_values (sym (form_short l h) ∙ e) in absurd (omega (arith, no)))
    (λ h. h)
    (lt_or_le (length l) 2)
