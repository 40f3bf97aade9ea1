-- What one pass over the items of a reset value collects. Reading does not rest on it: it is proved equal to the tests of specs/Resets.
use Rattle.std.specs.Prelude.{ℕ, ◌+◌, List, cond, ◌||◌, set, replicate, ltb, Option, Some, None}
use Rattle.text.specs.bytes.Bytes.{narrowed}
use Rattle.text.specs.bytes.Faulty.{no_faults}
use Rattle.model.specs.declared.ClockUpdate.{ClockUpdate}
use Rattle.model.specs.declared.ClockUpdate.TheVariants.{Unchanged, Reset, Copy}
use Rattle.model.specs.Record.{blank_reset}
use Rattle.text.specs.declared.resets.ResetRead.{ResetRead}
use Rattle.text.specs.declared.resets.ResetRead.TheVariants.{ToZero, ToCopy}
use Rattle.text.specs.declared.resets.ResetsRead.{ResetsRead}
use Rattle.text.specs.resets.Resets.{is_malformed, is_undeclared, clock_of}

-- the update of an item, its number narrowed to a byte
abbrev pub stored_update : Option ResetRead → ClockUpdate
stored_update None = Unchanged
stored_update (Some (ToZero x)) = Reset
stored_update (Some (ToCopy x w)) = Copy (narrowed w)

-- one more update, in slot k, if there is such a slot
unfoldable pub put : List ClockUpdate → ℕ → ClockUpdate → List ClockUpdate
put slots k u = cond (ltb k 4) (set slots k u) slots

-- before the first item
unfoldable pub no_resets : ResetsRead
no_resets = record { faults = no_faults; least = 0; resets = replicate 4 blank_reset }

-- one more item
unfoldable pub absorbed : ℕ → ResetsRead → Option ResetRead → ResetsRead
absorbed clocks s a = record {
  faults = record {
    malformed = s.faults.malformed || is_malformed a;
    crowded = s.faults.crowded;
    outside = s.faults.outside;
    undeclared = s.faults.undeclared || is_undeclared clocks a;
    unordered = s.faults.unordered || ltb (clock_of a) s.least;
  };
  least = clock_of a + 1;
  resets = put s.resets (clock_of a) (stored_update a);
}
