-- The value of a reset line: items x0 or x0:=x1, the tests of the line, and the slots that an accepted one fills.
use Rattle.std.specs.Prelude.{ℕ, Bool, false, cond, not, ◌||◌, get_or, drop, set, replicate, leb, eqb}
use mathlib.Core.List.{List, map, foldl}
use Rattle.text.specs.bytes.Bytes.{number_of, leading, following, assigns, items_of}
use Rattle.text.specs.bytes.Faulty.{any_of, rises_from, Checked}
use Rattle.text.specs.declared.bytes.LineFault.{LineFault}
use Rattle.std.specs.Prelude.{Option, Some, None, is_some, Result}
use Rattle.text.specs.declared.bytes.Faults.{Faults}
use Rattle.model.specs.declared.ClockUpdate.{ClockUpdate}
use Rattle.model.specs.declared.ClockUpdate.TheVariants.{Unchanged, Reset, Copy}
use Rattle.model.specs.Record.{blank_reset}
use Rattle.text.specs.declared.resets.ResetRead.{ResetRead}
use Rattle.text.specs.declared.resets.ResetRead.TheVariants.{ToZero, ToCopy}

-- ---- one item: x0, a clock that is reset; or x0:=x1, a clock and the one that it becomes a copy of
-- the clock that is reset, if its number is of its form
abbrev pub reset_named : Option ℕ → Option ResetRead
reset_named None = None
reset_named (Some x) = Some (ToZero x)

-- clock x becomes a copy, if the number of the clock copied is of its form
abbrev pub copy_from : ℕ → Option ℕ → Option ResetRead
copy_from x None = None
copy_from x (Some w) = Some (ToCopy x w)

-- the same, if the number of the clock set is of its form too
abbrev pub copy_named : Option ℕ → Option ℕ → Option ResetRead
copy_named None source = None
copy_named (Some x) source = copy_from x source

-- the clock copied: x (120) and its number
unfoldable pub source_of : List ℕ → Option ℕ
source_of l = cond (eqb (get_or l 0 0) 120) (number_of (drop 1 l)) None

-- the number of the clock set and, after :=, the clock copied
unfoldable pub clock_set : List ℕ → Option ResetRead
clock_set l = cond (assigns (following l)) (copy_named (leading l) (source_of (drop 2 (following l)))) (reset_named (number_of l))

-- x (120), and the clock set
unfoldable pub reset_of : List ℕ → Option ResetRead
reset_of l = cond (eqb (get_or l 0 0) 120) (clock_set (drop 1 l)) None

-- ---- the tests of the line, each over all items
-- 3: an item is not of its form
abbrev pub is_malformed : Option ResetRead → Bool
is_malformed a = not (is_some a)

-- 5: a clock that is set or copied is not declared
abbrev pub is_undeclared : ℕ → Option ResetRead → Bool
is_undeclared clocks None = false
is_undeclared clocks (Some (ToZero x)) = leb clocks x
is_undeclared clocks (Some (ToCopy x w)) = leb clocks x || leb clocks w

-- the clock set
abbrev pub clock_of : Option ResetRead → ℕ
clock_of None = 0
clock_of (Some (ToZero x)) = x
clock_of (Some (ToCopy x w)) = x

-- 3, 5, and 6: the clocks set do not rise strictly
unfoldable pub reset_faults : ℕ → List (Option ResetRead) → Faults
reset_faults clocks items = record {
  malformed = any_of is_malformed items;
  crowded = false;
  outside = false;
  undeclared = any_of (is_undeclared clocks) items;
  unordered = not (rises_from 0 (map clock_of items));
}

-- ---- the slots: each item sets its clock's, the others stay unchanged
-- what an item makes of its clock; x0:=x0 stays a copy
abbrev pub update_in : Option ResetRead → ClockUpdate
update_in None = Unchanged
update_in (Some (ToZero x)) = Reset
update_in (Some (ToCopy x w)) = Copy w

-- one more item
abbrev pub placed : List ClockUpdate → Option ResetRead → List ClockUpdate
placed slots a = set slots (clock_of a) (update_in a)

-- all items
unfoldable pub reset_slots : List (Option ResetRead) → List ClockUpdate
reset_slots items = foldl placed (replicate 4 blank_reset) items

-- the answer to a value: its slots where it has no faults
abbrev pub ResetsOf : ℕ → List (Option ResetRead) → Result (List ClockUpdate) LineFault → Type 0
ResetsOf clocks items = Checked (reset_faults clocks items) (reset_slots items)

-- ---- the items of a reset value
-- their form, item by item
unfoldable pub reset_items : List ℕ → List (Option ResetRead)
reset_items v = map reset_of (items_of v)
