-- One pass over the items comes to the tests over all items, and to the slots where none fails.
use Prim.Native.Nat.{ℕ, ◌<◌}
use mathlib.Core.Path.{◌≡◌, refl, sym, ap, ◌∙◌}
use mathlib.Core.List.{List, foldl}
use mathlib.Core.Bool.{false}
use native.Mathlib.Omega.{arith}
use lib.Dec.{leb}
use borrow.Author.Tests.{lt-ltb, leb-false}
use Rattle.std.specs.Prelude.{Option, Some, None}
use Rattle.text.specs.bytes.Faulty.{fault_number, Checked}
use Rattle.std.specs.Prelude.{Ok, Err}
use Rattle.text.specs.declared.bytes.LineFault.{LineFault}
use Rattle.text.proofs.bytes.Flags.{flag, unflagged, unrising, or_right, same_faults}
use Rattle.text.proofs.Laws.Slots.{put_all}
use Rattle.model.specs.declared.ClockUpdate.{ClockUpdate}
use Rattle.text.specs.declared.resets.ResetRead.{ResetRead}
use Rattle.text.specs.declared.resets.ResetsRead.{ResetsRead}
use Rattle.text.specs.declared.resets.ResetRead.TheVariants.{ToZero, ToCopy}
use Rattle.text.specs.resets.Resets.{is_malformed, is_undeclared, clock_of, reset_faults, update_in, reset_slots, ResetsOf}
use Rattle.text.specs.resets.OnePass.{stored_update, put, absorbed, no_resets}
use Rattle.text.proofs.resets.ResetsFormed.{unfit, none_unfit}

-- ---- the flags
faults_are : (clocks : ℕ) (items : List (Option ResetRead)) → (foldl (absorbed clocks) no_resets items).faults ≡ reset_faults clocks items
unfolding reset_faults no_resets absorbed
faults_are clocks items =
    let step = absorbed clocks in
    same_faults (foldl step no_resets items).faults
    (flag step (λ s. s.faults.malformed) is_malformed (λ s a. refl) items no_resets)
    (unflagged step (λ s. s.faults.crowded) (λ s a. refl) items no_resets)
    (unflagged step (λ s. s.faults.outside) (λ s a. refl) items no_resets)
    (flag step (λ s. s.faults.undeclared) (is_undeclared clocks) (λ s a. refl) items no_resets)
    (unrising step (λ s. s.faults.unordered) (λ s. s.least) clock_of (λ s a. refl) (λ s a. refl) items no_resets)

-- ---- the slots
module _ (clocks : ℕ) (p : clocks < 256) where
  stored_is : (a : Option ResetRead) → unfit clocks a ≡ false → stored_update a ≡ update_in a
  stored_is None u = refl
  stored_is (Some (ToZero x)) u = refl
  stored_is (Some (ToCopy x w)) u = rw (lt-ltb w 256 (omega (arith, leb-false clocks w (or_right (leb clocks x) (leb clocks w) u))))

  filled : (items : List (Option ResetRead)) → fault_number (reset_faults clocks items) ≡ 0 → (foldl (absorbed clocks) no_resets items).resets ≡
      reset_slots items
  unfolding reset_slots no_resets absorbed put
  filled items h =
      let slot : ClockUpdate → ClockUpdate = λ u. u in
      put_all (unfit clocks) clock_of (λ a. slot (update_in a)) (absorbed clocks) (λ s. s.resets) (λ a. slot (stored_update a)) 4
      (λ s a. refl) (λ a u. ap slot (stored_is a u)) items (none_unfit clocks items h) no_resets refl

  -- s is what one pass collects
  module _ (items : List (Option ResetRead)) (s : ResetsRead) (e : s ≡ foldl (absorbed clocks) no_resets items) where
    same_faults_as : s.faults ≡ reset_faults clocks items
    same_faults_as = ap (λ (x : ResetsRead). x.faults) e ∙ faults_are clocks items

    pub by_stages : Checked {A = Unit {0}} s.faults tt (Ok tt) → ResetsOf clocks items (Ok s.resets)
    by_stages h =
        let clean : fault_number (reset_faults clocks items) ≡ 0 = ap fault_number (sym same_faults_as) ∙ h.0 in
        (clean, ap (λ (x : ResetsRead). x.resets) e ∙ filled items clean)

    pub by_fault : (fault : LineFault) → Checked {A = Unit {0}} s.faults tt (Err fault) → ResetsOf clocks items (Err fault)
    by_fault fault h = ap fault_number (sym same_faults_as) ∙ h
