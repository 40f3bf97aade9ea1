-- What every call tells of a refusal.
use Rattle.std.specs.Prelude.{ℕ, Bool, eqb}

-- A number of the table of refusals, and the place that the table names. Both are 0 in an accepted call, and a place that the table does not name is 0.
pub record Refusal : Type 0 where
  pub number : ℕ
  pub place : ℕ

abbrev pub refusal : ℕ → ℕ → Refusal
refusal n p = record { number = n; place = p }

abbrev pub accepted : Refusal
accepted = refusal 0 0

-- The refusal number of an accepted call is 0.
abbrev pub is_accepted : Refusal → Bool
is_accepted x = eqb x.number 0
