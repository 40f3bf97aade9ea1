-- What one pass over the items of a set value collects. Reading does not rest on it: it is proved equal to the tests of specs/Sets.
use Rattle.std.specs.Prelude.{ℕ, List, Bool, cond, not, ◌&&◌, ◌||◌, get_or, set, replicate, ltb, ℤ, pos, Option, Some, None}
use Rattle.text.specs.bytes.Bytes.{narrowed, counted}
use Rattle.text.specs.bytes.Faulty.{no_faults}
use Rattle.model.specs.declared.Update.{Update}
use Rattle.model.specs.declared.Update.TheVariants.{Keep, Constant, Sum}
use Rattle.model.specs.Record.{blank_update}
use Rattle.model.specs.Automaton.{is_keep}
use Rattle.text.specs.declared.updates.SetRead.{SetRead}
use Rattle.text.specs.declared.updates.SetRead.TheVariants.{ToConstant, ToSum}
use Rattle.text.specs.declared.updates.SetsRead.{SetsRead}
use Rattle.text.specs.updates.Sets.{is_malformed, is_outside, is_undeclared, counter_of, offset_of}

-- an offset, or 0 where it is out of range
abbrev pub stored_offset : Bool → ℕ → ℤ
stored_offset negative n = cond (ltb 31 n) (pos 0) (offset_of negative n)

-- the update of an item, its numbers narrowed to bytes
abbrev pub stored_update : Option SetRead → Update
stored_update None = Keep
stored_update (Some (ToConstant v c)) = Constant (narrowed c)
stored_update (Some (ToSum v w negative n)) = Sum (narrowed w) (stored_offset negative n)

-- one more update, in slot k, if there is such a slot
unfoldable pub put : List Update → ℕ → Update → List Update
put slots k u = cond (ltb k 4) (set slots k u) slots

-- counter k is set
abbrev pub is_set : List Update → ℕ → Bool
is_set slots k = ltb k 4 && not (is_keep (get_or slots k blank_update))

-- one more counter, in slot n of the order, if it has such a slot
unfoldable pub listed_at : List ℕ → ℕ → ℕ → List ℕ
listed_at order n k = cond (ltb n 4) (set order n k) order

-- before the first item
unfoldable pub no_sets : SetsRead
no_sets = record { faults = no_faults; updates = replicate 4 blank_update; count = 0; order = replicate 4 0 }

-- one more item
unfoldable pub absorbed : ℕ → SetsRead → Option SetRead → SetsRead
absorbed vars s a = record {
  faults = record {
    malformed = s.faults.malformed || is_malformed a;
    crowded = s.faults.crowded;
    outside = s.faults.outside || is_outside a;
    undeclared = s.faults.undeclared || is_undeclared vars a;
    unordered = s.faults.unordered || is_set s.updates (counter_of a);
  };
  updates = put s.updates (counter_of a) (stored_update a);
  count = counted 4 s.count;
  order = listed_at s.order s.count (narrowed (counter_of a));
}
