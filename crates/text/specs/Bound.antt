-- The first line of a program's input: bound= and a number.
use Rattle.std.specs.Prelude.{ℕ, ◌+◌, List, cond, eqb, Option, Some, None}
use Rattle.text.specs.bytes.Ascii.{ascii}
use Rattle.text.specs.bytes.Bytes.{first_at, is_due, value_of, number_of}
use Rattle.text.specs.declared.BoundLine.{BoundLine}

-- the number of the refusal, or 0; the bound; the place after the line, where the model text begins
pub record BoundReport : Type 0 where
  pub number : ℕ
  pub bound : ℕ
  pub next : ℕ

abbrev pub bound_refused : BoundReport
bound_refused = record { number = 9; bound = 0; next = 0 }

abbrev pub bound_accepted : ℕ → ℕ → BoundReport
bound_accepted n next = record { number = 0; bound = n; next = next }

abbrev pub bound_in : Option ℕ → ℕ → BoundReport
bound_in None next = bound_refused
bound_in (Some n) next = bound_accepted n next

-- 9 not bound= and a number (also for no LF)
unfoldable pub bound_report : List ℕ → BoundReport
bound_report t = cond (is_due (ascii "bound=") t) (bound_in (number_of (value_of (ascii "bound=") t)) (first_at 10 t + 1)) bound_refused

-- A call on what follows the line. A bound line: what the call says of the bound and the place. No bound line: what is said of the number.
abbrev pub if_bound : {A : Type 0} → BoundReport → (ℕ → ℕ → A) → (ℕ → A) → A
if_bound b call refused = cond (eqb b.number 0) (call b.bound b.next) (refused b.number)

-- what the answer to a text says
abbrev pub bound_told : Option BoundLine → BoundReport
bound_told None = bound_refused
bound_told (Some b) = bound_accepted b.bound b.next
