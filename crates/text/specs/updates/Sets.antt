-- The value of a set line: items v0:=5, v0:=v1+3 or v0:=v1-3, the tests of the line, and the slots that an accepted one fills.
use Rattle.std.specs.Prelude.{ℕ, ◌+◌, Bool, true, false, cond, not, ◌&&◌, ◌||◌, get_or, drop, set, replicate, ltb, leb, eqb, ℤ, pos, neg_ℤ}
use mathlib.Core.List.{List, [], ◌∷◌, map, foldl}
use Rattle.text.specs.bytes.Bytes.{number_of, leading, following, assigns, items_of}
use Rattle.text.specs.bytes.Faulty.{any_of, Checked}
use Rattle.text.specs.declared.bytes.LineFault.{LineFault}
use Rattle.std.specs.Prelude.{Option, Some, None, is_some, Result}
use Rattle.text.specs.declared.bytes.Faults.{Faults}
use Rattle.model.specs.declared.Update.{Update}
use Rattle.model.specs.declared.Update.TheVariants.{Keep, Constant, Sum}
use Rattle.model.specs.Indexed.{list_below, all_below}
use Rattle.model.specs.Record.{blank_update}
use Rattle.text.specs.declared.updates.SetSlots.{SetSlots}
use Rattle.text.specs.declared.updates.SetRead.{SetRead}
use Rattle.text.specs.declared.updates.SetRead.TheVariants.{ToConstant, ToSum}

-- ---- one item
-- + (43) and a number, or - (45) and a number other than 0
abbrev pub signed_sum : ℕ → ℕ → ℕ → ℕ → Option SetRead
signed_sum v w sign n = cond (eqb sign 43) (Some (ToSum v w false n)) (cond (eqb sign 45 && ltb 0 n) (Some (ToSum v w true n)) None)

-- the same, if the offset is a number
abbrev pub valued_sum : ℕ → ℕ → ℕ → Option ℕ → Option SetRead
valued_sum v w sign None = None
valued_sum v w sign (Some n) = signed_sum v w sign n

-- the same, if the source has a number
abbrev pub made_sum : ℕ → Option ℕ → ℕ → Option ℕ → Option SetRead
made_sum v None sign n = None
made_sum v (Some w) sign n = valued_sum v w sign n

-- a constant, if it is a number
abbrev pub made_constant : ℕ → Option ℕ → Option SetRead
made_constant v None = None
made_constant v (Some c) = Some (ToConstant v c)

-- a sum: v (118), a number, a sign and a number
unfoldable pub sum_of : ℕ → List ℕ → Option SetRead
sum_of v l = made_sum v (leading (drop 1 l)) (get_or (following (drop 1 l)) 0 0) (number_of (drop 1 (following (drop 1 l))))

-- what counter v is set to: a sum, if v stands first, else a constant
unfoldable pub set_to : ℕ → List ℕ → Option SetRead
set_to v l = cond (eqb (get_or l 0 0) 118) (sum_of v l) (made_constant v (number_of l))

-- the same, if the counter set has a number
abbrev pub set_named : Option ℕ → List ℕ → Option SetRead
set_named None l = None
set_named (Some v) l = set_to v l

-- v (118), the number of the counter set, :=, and what it is set to
unfoldable pub set_of : List ℕ → Option SetRead
set_of l =
    cond (eqb (get_or l 0 0) 118 && assigns (following (drop 1 l)))
    (set_named (leading (drop 1 l)) (drop 2 (following (drop 1 l))))
    None

-- ---- the tests of the line, each over all items
-- 3: an item is not of its form
abbrev pub is_malformed : Option SetRead → Bool
is_malformed a = not (is_some a)

-- constant 0 to 31, offset -31 to 31
abbrev pub is_outside : Option SetRead → Bool
is_outside None = false
is_outside (Some (ToConstant v c)) = ltb 31 c
is_outside (Some (ToSum v w negative n)) = ltb 31 n

-- 5: a counter that is set or read is not declared
abbrev pub is_undeclared : ℕ → Option SetRead → Bool
is_undeclared vars None = false
is_undeclared vars (Some (ToConstant v c)) = leb vars v
is_undeclared vars (Some (ToSum v w negative n)) = leb vars v || leb vars w

-- the counter set; 4, which none is, for an item not of its form
abbrev pub counter_of : Option SetRead → ℕ
counter_of None = 4
counter_of (Some (ToConstant v c)) = v
counter_of (Some (ToSum v w negative n)) = v

-- how many items set counter i
unfoldable pub times_set : ℕ → List (Option SetRead) → ℕ
times_set i [] = 0
times_set i (a ∷ l) = cond (eqb i (counter_of a)) 1 0 + times_set i l

-- a counter is set twice in one edge: not every counter is set at most once. Only v0 to v3 are looked at: another is not declared (5)
unfoldable pub set_twice : List (Option SetRead) → Bool
set_twice items = not (all_below (λ i. leb (times_set i items) 1) 4)

-- 3, 4, 5, and 6: a counter is set twice
unfoldable pub set_faults : ℕ → List (Option SetRead) → Faults
set_faults vars items = record {
  malformed = any_of is_malformed items;
  crowded = false;
  outside = any_of is_outside items;
  undeclared = any_of (is_undeclared vars) items;
  unordered = set_twice items;
}

-- ---- the slots: each item sets its counter's, the others keep
-- the offset, with its sign
abbrev pub offset_of : Bool → ℕ → ℤ
offset_of negative n = cond negative (neg_ℤ (pos n)) (pos n)

-- what an item makes of its counter
abbrev pub update_in : Option SetRead → Update
update_in None = Keep
update_in (Some (ToConstant v c)) = Constant c
update_in (Some (ToSum v w negative n)) = Sum w (offset_of negative n)

-- one more item
abbrev pub placed : List Update → Option SetRead → List Update
placed slots a = set slots (counter_of a) (update_in a)

-- all items
unfoldable pub update_slots : List (Option SetRead) → List Update
update_slots items = foldl placed (replicate 4 blank_update) items

-- the order in which the updates are listed: slot k has the counter that item k sets, and 0 where there is no such item
unfoldable pub order_slots : List (Option SetRead) → List ℕ
order_slots items = list_below (λ k. get_or (map counter_of items) k 0) 4

-- the answer to a value: its slots and their order where it has no faults
abbrev pub SetsOf : ℕ → List (Option SetRead) → Result SetSlots LineFault → Type 0
SetsOf vars items = Checked (set_faults vars items) (record { updates = update_slots items; order = order_slots items })

-- ---- the items of a set value
-- their form, item by item
unfoldable pub set_items : List ℕ → List (Option SetRead)
set_items v = map set_of (items_of v)
