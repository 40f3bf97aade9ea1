-- The values that are one number or two: their tests.
use Rattle.std.specs.Prelude.{ℕ, List, Bool, false, ◌||◌, ltb, leb, Option, Some, None}
use Rattle.text.specs.bytes.Bytes.{before, after, number_of, is_malformed, number_in}
use Rattle.text.specs.declared.bytes.Faults.{Faults}
use Rattle.model.specs.declared.Counter.{Counter}

-- a number from `least` to `greatest`, or else 4
abbrev pub lies_outside : ℕ → ℕ → Option ℕ → Bool
lies_outside least greatest None = false
lies_outside least greatest (Some n) = ltb n least || ltb greatest n

-- 3 and 4 of such a number
unfoldable pub number_faults : ℕ → ℕ → Option ℕ → Faults
number_faults least greatest n = record {
  malformed = is_malformed n;
  crowded = false;
  outside = lies_outside least greatest n;
  undeclared = false;
  unordered = false;
}

-- a reference to one of `declared` locations, or else 5, never 4
abbrev pub is_undeclared : ℕ → Option ℕ → Bool
is_undeclared declared None = false
is_undeclared declared (Some n) = leb declared n

-- 3 and 5 of such a reference
unfoldable pub reference_faults : ℕ → Option ℕ → Faults
reference_faults declared n = record {
  malformed = is_malformed n;
  crowded = false;
  outside = false;
  undeclared = is_undeclared declared n;
  unordered = false;
}

-- a counter: greatest,initial, parted by a comma (44): the greatest value 0 to 31, and an initial value up to it, or else 4
abbrev pub greatest_of : List ℕ → Option ℕ
greatest_of v = number_of (before 44 v)

-- what stands after the comma
abbrev pub initial_of : List ℕ → Option ℕ
initial_of v = number_of (after 44 v)

-- 3 and 4 of a counter
unfoldable pub counter_faults : Option ℕ → Option ℕ → Faults
counter_faults greatest initial = record {
  malformed = is_malformed greatest || is_malformed initial;
  crowded = false;
  outside = ltb 31 (number_in greatest) || ltb (number_in greatest) (number_in initial);
  undeclared = false;
  unordered = false;
}

-- the counter that the two numbers declare
abbrev pub counter_in : Option ℕ → Option ℕ → Counter
counter_in greatest initial = record { greatest = number_in greatest; initial = number_in initial }
