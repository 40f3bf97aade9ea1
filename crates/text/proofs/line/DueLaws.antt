-- The due line at a place of the text: when it is found, and which numbers it lets pass.
use Prim.Native.Nat.{ℕ, ◌+◌, ◌-◌, ◌≤◌, ◌<◌}
use mathlib.Core.Path.{◌≡◌, sym, ◌∙◌}
use mathlib.Core.List.{List, []}
use mathlib.Core.Bool.{true, false, false≢true, or-true}
use native.Mathlib.Nat.{zero-add}
use native.Mathlib.Omega.{arith}
use lib.ListN.{length, take, drop, length-drop, drop_of_length-le}
use lib.Dec.{ltb}
use borrow.Author.Tests.{lt-ltb, le-ltb, leb-false, ltb-false}
use Rattle.std.specs.Prelude.{Option, Some, None}
use Rattle.text.specs.bytes.Bytes.{first_at, FirstFrom, starts_with, is_due, value_of, number_of, is_malformed, number_in}
use Rattle.text.specs.bytes.Faulty.{fault_number}
use Rattle.text.proofs.bytes.Flags.{or_left, or_right, passed}
use Rattle.text.specs.declared.line.Due.{Due}
use Rattle.text.specs.line.Values.{lies_outside, is_undeclared, number_faults, reference_faults, counter_faults, greatest_of, initial_of}
use Rattle.text.specs.line.DueLines.{Found}

-- ---- finding it; e is where the line at the place `at` ends
module _ (key : List ℕ) {t : List ℕ} {at e : ℕ} (p : FirstFrom 10 at t e) where
  first_is : first_at 10 (drop at t) ≡ e - at
  first_is = omega (arith, p.place)

  pub due_unended : e ≡ length t → is_due key (drop at t) ≡ false
  unfolding is_due
  due_unended h = rw (le-ltb (first_at 10 (drop at t)) (length (drop at t)) (omega (arith, first_is, length-drop at t)))

  module _ (h : e < length t) where
    ends : ltb (first_at 10 (drop at t)) (length (drop at t)) ≡ true
    ends = lt-ltb (first_at 10 (drop at t)) (length (drop at t)) (omega (arith, p.place, p.high, length-drop at t, h))

    pub due_other : starts_with key (take (e - at) (drop at t)) ≡ false → is_due key (drop at t) ≡ false
    unfolding is_due
    due_other s = rw (ends, first_is, s)

    pub due_found : starts_with key (take (e - at) (drop at t)) ≡ true → (d : Due) → d.value.now ≡ drop (length key) (take (e - at) (drop at t)) → d.end ≡ e
        → Found key t at d
    unfolding is_due value_of
    due_found s d v q = record {
      due = rw (ends, first_is, s);
      value_is = v ∙ rw first_is;
      end_is = omega (arith, p.place, q);
      ended = omega (arith, q, h);
    }

-- ---- numbers that pass their tests
pub number_inside : (least greatest : ℕ) (n : Option ℕ) → fault_number (number_faults least greatest n) ≡ 0 → (least ≤ number_in n) × (number_in n ≤ greatest)
unfolding number_faults
number_inside least greatest n h = go n (passed (number_faults least greatest n) h).well_formed_lem (passed (number_faults least greatest n) h).inside
  where
    go : (n : Option ℕ) → is_malformed n ≡ false → lies_outside least greatest n ≡ false → (least ≤ number_in n) × (number_in n ≤ greatest)
    go None f o = absurd (false≢true (sym f))
    go (Some n) f o = (ltb-false n least (or_left (ltb n least) (ltb greatest n) o), ltb-false greatest n (or_right (ltb n least) (ltb greatest n) o))

pub reference_declared : (declared : ℕ) (n : Option ℕ) → fault_number (reference_faults declared n) ≡ 0 → number_in n < declared
unfolding reference_faults
reference_declared declared n h = go n (passed (reference_faults declared n) h).well_formed_lem (passed (reference_faults declared n) h).declared
  where
    go : (n : Option ℕ) → is_malformed n ≡ false → is_undeclared declared n ≡ false → number_in n < declared
    go None f o = absurd (false≢true (sym f))
    go (Some n) f o = leb-false declared n o

pub counter_inside : (g i : Option ℕ) → fault_number (counter_faults g i) ≡ 0 → (number_in g ≤ 31) × (number_in i ≤ number_in g)
unfolding counter_faults
counter_inside g i h =
    let o = (passed (counter_faults g i) h).inside in (
      ltb-false 31 (number_in g) (or_left (ltb 31 (number_in g)) (ltb (number_in g) (number_in i)) o),
      ltb-false (number_in g) (number_in i) (or_right (ltb 31 (number_in g)) (ltb (number_in g) (number_in i)) o),
    )

-- ---- a value parted at its first comma
module _ (v : List ℕ) where
  pub no_comma : FirstFrom 44 0 v (length v) → initial_of v ≡ None
  unfolding number_of
  no_comma p =
      let e : drop (first_at 44 v + 1) v ≡ [] = drop_of_length-le v (omega (arith, p.place)) in
      rw e

  pub before_comma : {e : ℕ} → FirstFrom 44 0 v e → greatest_of v ≡ number_of (take e v)
  before_comma {e} p = let s : e ≡ first_at 44 v = p.place ∙ zero-add (first_at 44 v) in rw s

  pub after_comma : {e : ℕ} → FirstFrom 44 0 v e → initial_of v ≡ number_of (drop (e + 1) v)
  after_comma {e} p = let s : e ≡ first_at 44 v = p.place ∙ zero-add (first_at 44 v) in rw s

module _ (g i : Option ℕ) where
  pub no_greatest : g ≡ None → fault_number (counter_faults g i) ≡ 3
  unfolding counter_faults fault_number
  no_greatest h = rw h

  pub no_initial : i ≡ None → fault_number (counter_faults g i) ≡ 3
  unfolding counter_faults fault_number
  no_initial h = rw (h, or-true (is_malformed g))
