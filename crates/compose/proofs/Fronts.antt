-- What a chain over the first elements of a list answers, by the index, and what a well-formed model tells of its numbers.
use Rattle.std.specs.Prelude.{ℕ, zero, suc, ◌≤◌, ◌<◌, Bool, true, false, not, ◌&&◌, T, List, [], ◌∷◌, take, length, get_or, ◌≡◌}
use Rattle.std.specs.List.{list_all, list_any}
use Rattle.std.proofs.Common.{arith, refl, ap, ◌∙◌}
use Rattle.std.proofs.lemmas.List.{get_or-take, length-take-le}
use Rattle.model.specs.Indexed.{all_below}
use Rattle.model.specs.Form.{well_formed}
use Rattle.model.proofs.ByIndex.{all_by_index}
use Rattle.model.proofs.IndexedLaws.{T_true}
use Rattle.compose.specs.declared.formed.Formed.{Formed}

pub all_same : (p q : ℕ → Bool) (n : ℕ) → ((i : ℕ) → i < n → p i ≡ q i) → all_below p n ≡ all_below q n
unfolding all_below
all_same p q zero h = refl
all_same p q (suc n) h = λ i. all_same p q n (λ k l. h k (omega arith)) i && h n (omega arith) i

module _ {A : Type 0} (d : A) (p : A → Bool) where
  pub front_all : (n : ℕ) (xs : List A) → n ≤ length xs → list_all p (take n xs) ≡ all_below (λ k. p (get_or xs k d)) n
  front_all n xs l =
      rw (length-take-le n xs l) at (all_by_index d p (take n xs))
      ∙ all_same (λ k. p (get_or (take n xs) k d)) (λ k. p (get_or xs k d)) n (λ k q. ap p (get_or-take n xs k d q))

  any_not : (xs : List A) → list_any p xs ≡ not (list_all (λ x. not (p x)) xs)
  any_not [] = refl
  any_not (x ∷ xs) = by (p x) (any_not xs) refl
    where
      by : (b : Bool) → list_any p xs ≡ not (list_all (λ y. not (p y)) xs) → p x ≡ b → list_any p (x ∷ xs) ≡ not (list_all (λ y. not (p y)) (x ∷ xs))
      by true h e = rw e refl
      by false h e = rw e h

-- some of the first elements is one
pub front_any : {A : Type 0} (d : A) (p : A → Bool) (n : ℕ) (xs : List A) → n ≤ length xs
    → list_any p (take n xs) ≡ not (all_below (λ k. not (p (get_or xs k d))) n)
front_any d p n xs l = any_not d p (take n xs) ∙ ap not (front_all d (λ x. not (p x)) n xs l)

-- a well-formed model
pub form_of : (f : Formed) → T (well_formed f.model)
form_of f = (T_true _).1 f.formed
