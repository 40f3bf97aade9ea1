-- "For each", "all", "the greatest", "the sum" and "the first" over an index from 0, and what may be missing.
use Rattle.std.specs.Prelude.{Bool, true, ◌&&◌, cond, List, [], ◌∷◌, ◌++◌, ℕ, zero, suc, ◌+◌, max, ltb}
use Rattle.std.specs.Prelude.{Option, None, Some}
pub use Rattle.new_values.specs.NewValues.{only_if, is_some}

module _ {ℓ} {A : Type ℓ} where
  -- for each index below n, in order: f 0 ++ f 1 ++ ..
  unfoldable pub each : ℕ → (ℕ → List A) → List A
  each zero f = []
  each (suc n) f = each n f ++ f n

  -- the list of f 0, f 1, .., n elements
  unfoldable pub list_below : (ℕ → A) → ℕ → List A
  list_below f zero = []
  list_below f (suc n) = list_below f n ++ (f n ∷ [])

-- p holds of every index below n
unfoldable pub all_below : (ℕ → Bool) → ℕ → Bool
all_below p zero = true
all_below p (suc n) = all_below p n && p n

-- the greatest of f 0, f 1, .., n terms, and 0 where there is none
unfoldable pub max_below : (ℕ → ℕ) → ℕ → ℕ
max_below f zero = 0
max_below f (suc n) = max (max_below f n) (f n)

-- f 0 + f 1 + .., n terms
unfoldable pub sum_below : (ℕ → ℕ) → ℕ → ℕ
sum_below f zero = 0
sum_below f (suc n) = sum_below f n + f n

-- the first index below n of which p holds, and n where there is none
unfoldable pub first_below : (ℕ → Bool) → ℕ → ℕ
first_below p zero = 0
first_below p (suc n) = cond (ltb (first_below p n) n) (first_below p n) (cond (p n) n (suc n))

module _ {A B : Type 0} where
  -- go on with a value if it is there
  abbrev pub and_then : Option A → (A → Option B) → Option B
  and_then None f = None
  and_then (Some x) f = f x

  -- y if there is no value, else f of it
  abbrev pub maybe : Option A → B → (A → B) → B
  maybe None y f = y
  maybe (Some x) y f = f x
