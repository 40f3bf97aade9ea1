-- A number in decimal digits.
use Rattle.std.specs.Prelude.{ℕ, zero, suc, ◌+◌, ◌/◌, ◌%◌, cond, List, [], ◌∷◌, ◌++◌, ltb}

-- The byte of a digit, '0' (48) to '9' (57).
abbrev pub digit : ℕ → ℕ
digit d = 48 + d

-- The digits of n; `most` bounds how many follow the first.
unfoldable pub digits_within : ℕ → ℕ → List ℕ
digits_within zero n = digit n ∷ []
digits_within (suc most) n = cond (ltb n 10) (digit n ∷ []) (digits_within most (n / 10) ++ (digit (n % 10) ∷ []))

-- The digits of n, the first of them not 0 but for 0 itself. A number has fewer digits than it counts, but for 0, which has one.
unfoldable pub digits : ℕ → List ℕ
digits n = digits_within n n
