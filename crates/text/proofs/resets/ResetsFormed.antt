-- The slots of a reset value without faults are well formed: each item fills the slot of a declared clock, a copy with the number of a declared clock.
use Prim.Native.Nat.{ℕ, ◌<◌}
use mathlib.Core.Path.{◌≡◌, sym}
use mathlib.Core.List.{List}
use mathlib.Core.Bool.{Bool, false, ◌||◌, false≢true}
use lib.Dec.{T, leb, lt→ltb}
use lib.ListN.{replicate}
use borrow.Author.Tests.{leb-false}
use Rattle.std.specs.Prelude.{Option, Some, None}
use Rattle.text.specs.bytes.Faulty.{fault_number, any_of}
use Rattle.text.proofs.bytes.Flags.{or_left, or_right, any_neither, passed}
use Rattle.model.specs.declared.ClockUpdate.{ClockUpdate}
use Rattle.model.specs.Record.{blank_reset}
use Rattle.model.specs.Form.{clock_update_formed, is_unchanged, resets_formed}
use Rattle.model.proofs.IndexedLaws.{all_below_lem}
use Rattle.text.specs.declared.resets.ResetRead.{ResetRead}
use Rattle.text.specs.declared.resets.ResetRead.TheVariants.{ToZero, ToCopy}
use Rattle.text.specs.resets.Resets.{is_malformed, is_undeclared, clock_of, reset_faults, update_in, reset_slots}
use Rattle.text.proofs.Laws.Slots.{Filled, fill_both, fill_all}

abbrev Formed : ℕ → List ClockUpdate → Type 0
Formed clocks = Filled (clock_update_formed clocks) is_unchanged blank_reset 4 clocks

-- an item that fails a test of items by themselves
abbrev pub unfit : ℕ → Option ResetRead → Bool
unfit clocks a = is_malformed a || is_undeclared clocks a

pub none_unfit : (clocks : ℕ) (items : List (Option ResetRead)) → fault_number (reset_faults clocks items) ≡ 0 → any_of (unfit clocks) items ≡ false
unfolding reset_faults
none_unfit clocks items h =
    let g = passed (reset_faults clocks items) h in
    any_neither is_malformed (is_undeclared clocks) items g.well_formed_lem g.declared

-- what an item without faults gives
item_formed : (clocks : ℕ) (a : Option ResetRead) → unfit clocks a ≡ false → (clock_of a < clocks) × T (clock_update_formed clocks (update_in a))
item_formed clocks None u = absurd (false≢true (sym u))
item_formed clocks (Some (ToZero x)) u = (leb-false clocks x u, tt)
item_formed clocks (Some (ToCopy x w)) u =
    let source = leb-false clocks w (or_right (leb clocks x) (leb clocks w) u) in
    (leb-false clocks x (or_left (leb clocks x) (leb clocks w) u), lt→ltb w clocks source)

pub reset_formed : (clocks : ℕ) (items : List (Option ResetRead)) → fault_number (reset_faults clocks items) ≡ 0 → T (resets_formed clocks (reset_slots items))
unfolding reset_slots resets_formed
reset_formed clocks items h =
    let blank : Formed clocks (replicate 4 blank_reset) = fill_both _ _ blank_reset 4 clocks blank_reset tt tt in
    (all_below_lem _ 4).1 (fill_all (unfit clocks) clock_of _ (item_formed clocks) items (none_unfit clocks items h) blank).slot
