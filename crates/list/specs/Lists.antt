-- What holds of every element of a list or of some element, and what may be missing as a list.
use Rattle.std.specs.Prelude.{Bool, true, false, ◌&&◌, ◌||◌, List, [], ◌∷◌}
use Rattle.std.specs.Prelude.{Option, None, Some}

module _ {ℓ} {A : Type ℓ} where
  -- the test passes on every element
  abbrev pub all_of : (A → Bool) → List A → Bool
  all_of p [] = true
  all_of p (x ∷ xs) = p x && all_of p xs

  -- the test passes on some element
  abbrev pub any_of : (A → Bool) → List A → Bool
  any_of p [] = false
  any_of p (x ∷ xs) = p x || any_of p xs

module _ {A : Type 0} where
  -- the list of a value that may be missing
  abbrev pub to_list : Option A → List A
  to_list None = []
  to_list (Some x) = x ∷ []

  -- every element has the property
  abbrev pub All : (A → Type 0) → List A → Type 0
  All P [] = Unit {0}
  All P (x ∷ xs) = P x × All P xs
