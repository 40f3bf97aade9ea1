-- The due line at a place of the text.
use Rattle.std.specs.Prelude.{ℕ, ◌+◌, ◌<◌, ◌≡◌, List, true, false, length, drop, Option, Some, None}
use Rattle.text.specs.bytes.Bytes.{first_at, is_due, value_of}
use Rattle.text.specs.declared.line.Due.{Due}

-- d is the line at the place `at` of the text, if it begins with the key: its value, and where it ends
pub record Found (key t : List ℕ) (at : ℕ) (d : Due) : Type 0 where
  pub due : is_due key (drop at t) ≡ true
  pub value_is : d.value.now ≡ value_of key (drop at t)
  pub end_is : d.end ≡ at + first_at 10 (drop at t)
  pub ended : d.end < length t

abbrev pub DueLine : List ℕ → List ℕ → ℕ → Option Due → Type 0
DueLine key t at None = is_due key (drop at t) ≡ false
DueLine key t at (Some d) = Found key t at d
