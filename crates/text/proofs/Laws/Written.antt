-- The updates of an edge that a set line gives, in their listed order, do what the items do as they are written.
use Prim.Native.Nat.{ℕ, zero, suc, ◌+◌, ◌≤◌, ◌<◌}
use mathlib.Core.Path.{◌≡◌, refl, sym, ap, ◌∙◌}
use mathlib.Core.List.{List, [], ◌∷◌, map, foldl}
use mathlib.Core.Bool.{true}
use Rattle.std.specs.Prelude.{None}
use Rattle.std.specs.Prelude.{option_map, Option, Some}
use native.Mathlib.Omega.{arith}
use lib.Dec.{eqb}
use lib.ListN.{length, get_or, set, replicate, length-set, length-map}
use lib.Seq.{ext_get_or, get_or-set_same, get_or-set_other}
use borrow.Author.Tests.{eq-eqb}
use Rattle.model.specs.declared.Update.{Update}
use Rattle.model.specs.declared.Counter.{Counter}
use Rattle.model.specs.declared.Edge.{Edge}
use Rattle.model.specs.Indexed.{and_then}
use Rattle.model.specs.Record.{blank_counter, blank_update, update_at, counter_in}
use Rattle.model.specs.Automaton.{new_counter, listed, applied, updated}
use Rattle.model.proofs.IndexedLaws.{length_list, get_d_list}
use Rattle.model.proofs.OrderLaws.{listed_le, written, then_update, updated_fold}
use Rattle.text.specs.bytes.Faulty.{fault_number}
use Rattle.text.specs.declared.updates.SetRead.{SetRead}
use Rattle.text.specs.updates.Sets.{counter_of, times_set, set_faults, update_in, placed, update_slots, order_slots}
use Rattle.text.specs.updates.Written.{after_item, next_item, after_items}
use Rattle.text.proofs.updates.OrderFormed.{counter_at, SetLine, set_line, slot_is, listed_items}

-- ---- the update that an item gives its counter
-- items that do not set a counter leave its slot
slot_left : (l : List (Option SetRead)) (slots : List Update) (i : ℕ) → times_set i l ≡ 0
    → get_or (foldl placed slots l) i blank_update ≡ get_or slots i blank_update
unfolding times_set
slot_left [] slots i h = refl
slot_left (a ∷ l) slots i h =
    slot_left l (placed slots a) i (omega (arith, h)) ∙ get_or-set_other slots (counter_of a) i _ blank_update (λ e. clash (eq-eqb i (counter_of a) e))
  where
    clash : eqb i (counter_of a) ≡ true → ⊥
    clash e = let one : times_set i (a ∷ l) ≡ 1 + times_set i l = rw e in omega (arith, h, one)

-- a counter that is set once has the update of its item
slot_of : (l : List (Option SetRead)) (slots : List Update) (k : ℕ) → length slots ≡ 4 → k < length l → counter_at l k < 4 → times_set (counter_at l k) l ≤ 1
    → (get_or (foldl placed slots l) (counter_at l k) blank_update) ≡ update_in (get_or l k None)
unfolding times_set
slot_of [] slots k four p below once = absurd (omega (arith, p))
slot_of (a ∷ l) slots zero four p below once =
    let own : eqb (counter_of a) (counter_of a) ≡ true = eq-eqb (counter_of a) (counter_of a) refl in
    let rest : times_set (counter_of a) l ≡ 0 = omega (arith, rw own at once) in
    ap (λ Z. Z)
    (slot_left l (placed slots a) (counter_of a) rest
    ∙ get_or-set_same slots (counter_of a) (update_in a) blank_update (omega (arith, below, four)))
slot_of (a ∷ l) slots (suc k) four p below once =
    slot_of l (placed slots a) k (length-set slots (counter_of a) _ ∙ four) (omega (arith, p)) below (omega (arith, once))

counter_of_lem : (l : List (Option SetRead)) (k : ℕ) → k < length l → counter_at l k ≡ counter_of (get_or l k None)
counter_of_lem [] k p = absurd (omega (arith, p))
counter_of_lem (a ∷ l) zero p = refl
counter_of_lem (a ∷ l) (suc k) p = counter_of_lem l k (omega (arith, p))

-- ---- the fold
fold_same : {B : Type 0} (F : B → ℕ → B) (G : B → Option SetRead → B) (l : List (Option SetRead)) (y : B)
    → ((k : ℕ) → k < length l → (z : B) → F z (counter_at l k) ≡ G z (get_or l k None)) → foldl F y (map counter_of l) ≡ foldl G y l
fold_same F G [] y h = refl
fold_same F G (a ∷ l) y h =
    ap (λ (z : _). foldl F z (map counter_of l)) (h 0 (omega arith) y) ∙ fold_same F G l (G y a) (λ k p z. h (suc k) (omega (arith, p)) z)

module _ (vars : ℕ) (items : List (Option SetRead)) (few : vars ≤ 4) (clean : fault_number (set_faults vars items) ≡ 0) (x : Edge)
    (updates : x.updates ≡ update_slots items) (order : x.order ≡ order_slots items) where
  line : SetLine items
  line = set_line vars items few clean

  -- the record's order is the text's: the listed counters are those of the items, as they are written
  pub written_is : written x ≡ map counter_of items
  written_is =
      let n = listed_items items line x updates order in
      ext_get_or 0 (written x) (map counter_of items) (length_list (counter_in x.order) (listed x) ∙ n ∙ sym (length-map items counter_of))
      (λ k p. let l : k < listed x = rw (length_list (counter_in x.order) (listed x)) at p in
      get_d_list 0 (counter_in x.order) (listed x) k l ∙ slot_is items line x updates order k (omega (arith, l, listed_le x)))

  -- each counter has the update of its item
  pub update_is : (k : ℕ) → k < length items → update_at x (counter_at items k) ≡ update_in (get_or items k None)
  unfolding update_slots
  update_is k p =
      ap (λ (slots : List Update). (get_or slots (counter_at items k) blank_update)) updates
      ∙ slot_of items (replicate 4 blank_update) k refl p (line.below k p) (line.once (counter_at items k) (line.below k p))

  -- the counters after the listed updates are the fold over the items
  pub updated_items : (counters : List Counter) (vs : List ℕ) → updated counters x vs (listed x) ≡ after_items counters vs items
  updated_items counters vs =
      updated_fold counters x vs ∙ ap (foldl (then_update counters x) (Some vs)) written_is
      ∙ fold_same (then_update counters x) (next_item counters) items (Some vs) one
    where
      one : (k : ℕ) → k < length items → (now : Option (List ℕ))
          → then_update counters x now (counter_at items k) ≡ next_item counters now (get_or items k None)
      one k p now = λ i. and_then now (λ vs. same vs i)
        where
          a : Option SetRead
          a = get_or items k None

          after : List ℕ → ℕ → Update → Option (List ℕ)
          after vs i u = option_map (set vs i) (new_counter (λ w. get_or vs w 0) (get_or counters i blank_counter).greatest (get_or vs i 0) u)

          same : (vs : List ℕ) → applied counters x vs (counter_at items k) ≡ after_item counters vs a
          same vs = unfold applied in ap (after vs (counter_at items k)) (update_is k p) ∙ ap (λ (i : ℕ). after vs i (update_in a)) (counter_of_lem items k p)
