-- An array that a loop fills from its start with the values of a function of the index.
use Prim.Native.Nat.{ℕ, ◌+◌, ◌<◌}
use mathlib.Core.Path.{◌≡◌, sym, ◌∙◌, ap, ap₂}
use mathlib.Core.List.{List, [], ◌∷◌, ◌++◌}
use native.Mathlib.Numerals.{add-one}
use lib.ListN.{length, take, set}
use lib.Seq.{take-suc-set, take-length}
use Rattle.model.specs.Indexed.{list_below}
use Rattle.model.proofs.IndexedLaws.{list_more}

-- one more element is stored
pub filled : {A : Type 0} (f : ℕ → A) (l : List A) (i : ℕ) (v : A) → i < length l → take i l ≡ list_below f i → v ≡ f i → take (i + 1) (set l i v) ≡
    list_below f (i + 1)
filled {A} f l i v p e q =
    ap (λ (n : ℕ). take n (set l i v)) (add-one i) ∙ take-suc-set l i v p ∙ ap₂ (λ (a : List A) (b : A). a ++ (b ∷ [])) e q ∙ sym (list_more f i)

-- the array is full
pub whole : {A : Type 0} (f : ℕ → A) (l : List A) {n : ℕ} → length l ≡ n → take n l ≡ list_below f n → l ≡ list_below f n
whole f l p e = sym (ap (λ (k : ℕ). take k l) (sym p) ∙ take-length l) ∙ e
