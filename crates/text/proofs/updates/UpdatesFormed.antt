-- The slots of a set value without faults are well formed: each item fills the slot of a declared counter.
use Prim.Native.Nat.{ℕ, zero, suc, ◌<◌}
use mathlib.Core.Path.{◌≡◌, refl, sym}
use mathlib.Core.List.{List}
use mathlib.Core.Bool.{Bool, true, false, ◌||◌, false≢true}
use lib.Dec.{T, ltb, leb}
use lib.IntN.{nat_abs}
use lib.ListN.{replicate}
use borrow.Author.Tests.{lt-ltb, le-leb, leb-false, ltb-false}
use Rattle.std.specs.Prelude.{Option, Some, None}
use Rattle.text.specs.bytes.Faulty.{fault_number, any_of}
use Rattle.text.proofs.bytes.Flags.{or_left, or_right, any_neither, passed}
use Rattle.model.specs.declared.Update.{Update}
use Rattle.model.specs.Record.{blank_update}
use Rattle.model.specs.Automaton.{is_keep}
use Rattle.model.specs.Form.{update_formed, updates_formed}
use Rattle.model.proofs.IndexedLaws.{all_below_lem}
use Rattle.text.specs.declared.updates.SetRead.{SetRead}
use Rattle.text.specs.declared.updates.SetRead.TheVariants.{ToConstant, ToSum}
use Rattle.text.specs.updates.Sets.{is_malformed, is_outside, is_undeclared, counter_of, set_faults, offset_of, update_in, update_slots}
use Rattle.text.proofs.Laws.Slots.{Filled, fill_both, fill_all}

abbrev Formed : ℕ → List Update → Type 0
Formed vars = Filled (update_formed vars) is_keep blank_update 4 vars

size_of : (negative : Bool) (n : ℕ) → nat_abs (offset_of negative n) ≡ n
size_of false n = refl
size_of true zero = refl
size_of true (suc n) = refl

-- an item that fails a test of items by themselves
abbrev pub unfit : ℕ → Option SetRead → Bool
unfit vars a = is_malformed a || (is_outside a || is_undeclared vars a)

pub none_unfit : (vars : ℕ) (items : List (Option SetRead)) → fault_number (set_faults vars items) ≡ 0 → any_of (unfit vars) items ≡ false
unfolding set_faults
none_unfit vars items h =
    let g = passed (set_faults vars items) h in
    any_neither is_malformed _ items g.well_formed_lem (any_neither is_outside (is_undeclared vars) items g.inside g.declared)

-- what an item without faults gives
pub item_formed : (vars : ℕ) (a : Option SetRead) → unfit vars a ≡ false → (counter_of a < vars) × T (update_formed vars (update_in a))
item_formed vars None u = absurd (false≢true (sym u))
item_formed vars (Some (ToConstant v c)) u =
    (leb-false vars v (or_right (ltb 31 c) (leb vars v) u), rw (le-leb c 31 (ltb-false 31 c (or_left (ltb 31 c) (leb vars v) u))) tt)
item_formed vars (Some (ToSum v w negative n)) u =
    let named = or_right (ltb 31 n) (leb vars v || leb vars w) u in
    let source = leb-false vars w (or_right (leb vars v) (leb vars w) named) in
    let offset = ltb-false 31 n (or_left (ltb 31 n) (leb vars v || leb vars w) u) in
    (leb-false vars v (or_left (leb vars v) (leb vars w) named), rw (lt-ltb w vars source, size_of negative n, le-leb n 31 offset) tt)

pub set_formed : (vars : ℕ) (items : List (Option SetRead)) → fault_number (set_faults vars items) ≡ 0 → T (updates_formed vars (update_slots items))
unfolding update_slots updates_formed
set_formed vars items h =
    let blank : Formed vars (replicate 4 blank_update) = fill_both _ _ blank_update 4 vars blank_update tt tt in
    (all_below_lem _ 4).1 (fill_all (unfit vars) counter_of _ (item_formed vars) items (none_unfit vars items h) blank).slot
