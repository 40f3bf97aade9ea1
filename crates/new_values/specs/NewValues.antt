-- The new value of a counter: v plus an offset, if it lies in the counter's range.
use Rattle.std.specs.Prelude.{ℕ, ◌+◌, ◌-◌, Bool, true, false, cond, leb, ℤ, pos, negsuc, nat_abs}
pub use Rattle.std.specs.Prelude.{is_some}
use Rattle.std.specs.Prelude.{Option, None, Some}

-- ---- what may be missing
-- a value that is there only if a test holds
abbrev pub only_if : {A : Type 0} → Bool → A → Option A
only_if true x = Some x
only_if false x = None

-- ---- a counter's range
-- a value that must lie in 0 to `greatest`
abbrev pub in_range : ℕ → ℕ → Option ℕ
in_range greatest v = only_if (leb v greatest) v

-- v plus an amount, or less it, in 0 to `greatest`
abbrev pub moved : ℕ → Bool → ℕ → ℕ → Option ℕ
moved v false amount greatest = in_range greatest (v + amount)
moved v true amount greatest = cond (leb amount v) (in_range greatest (v - amount)) None

-- the sign of an offset
abbrev pub is_negative : ℤ → Bool
is_negative (pos n) = false
is_negative (negsuc n) = true

-- v plus an offset, in 0 to `greatest`
abbrev pub shifted : ℤ → ℕ → ℕ → Option ℕ
shifted offset greatest v = moved v (is_negative offset) (nat_abs offset) greatest
