-- The order of a set value without faults is well formed: the items set as many counters as there are items, each for the first time.
use Prim.Native.Nat.{ℕ, zero, suc, ◌+◌, ◌≤◌, ◌<◌}
use mathlib.Core.Path.{◌≡◌, refl, sym, ap, ◌∙◌}
use mathlib.Core.Logic.{⊎_elim}
use mathlib.Core.List.{List, [], ◌∷◌, map, foldl}
use mathlib.Core.Bool.{Bool, true, false, cond, not, ◌&&◌, ◌||◌, or-true, or-false}
use native.Mathlib.Omega.{arith}
use lib.Dec.{T, ltb, leb, eqb, leb→le}
use lib.ListN.{length, get_or, replicate, length-set, length-map, get_or-eq_default}
use borrow.Author.Tests.{lt-ltb, le-ltb, ltb-true, ltb-false, eq-eqb, ne_eqb, not-false}
use Rattle.std.specs.Prelude.{Option, Some, None}
use Rattle.model.specs.declared.Edge.{Edge}
use Rattle.model.specs.declared.Update.{Update}
use Rattle.model.specs.Indexed.{all_below, sum_below}
use Rattle.model.specs.Record.{blank_update, update_at, counter_in}
use Rattle.model.specs.Automaton.{is_keep, listed, place_in}
use Rattle.model.specs.Form.{order_slot_formed, order_formed}
use Rattle.model.proofs.IndexedLaws.{eq_T, T_true, lt_or_le, all_below_lem, sum_same, sum_add, sum_one, sum_const, get_d_list, first_is}
use Rattle.text.specs.bytes.Faulty.{fault_number, any_of}
use Rattle.text.specs.declared.updates.SetRead.{SetRead}
use Rattle.text.specs.declared.updates.SetRead.TheVariants.{ToConstant, ToSum}
use Rattle.text.specs.updates.Sets.{is_malformed, counter_of, times_set, set_twice, set_faults, update_in, placed}
use Rattle.text.specs.updates.Sets.{update_slots, order_slots}
use Rattle.text.specs.updates.OnePass.{is_set}
use Rattle.text.proofs.bytes.Flags.{any_head, any_tail, passed}
use Rattle.text.proofs.updates.TimesSet.{set_more, blank_set}
use Rattle.text.proofs.updates.UpdatesFormed.{unfit, none_unfit, item_formed}

-- the counter that item k sets
abbrev pub counter_at : List (Option SetRead) → ℕ → ℕ
counter_at l k = get_or (map counter_of l) k 0

-- ---- how often each counter is set
-- an item sets its counter once
set_at : (l : List (Option SetRead)) (k : ℕ) → k < length l → 1 ≤ times_set (counter_at l k) l
unfolding times_set
set_at [] k p = absurd (omega (arith, p))
set_at (a ∷ l) zero p = rw (eq-eqb (counter_of a) (counter_of a) refl) (omega arith)
set_at (a ∷ l) (suc k) p = omega (arith, set_at l k (omega (arith, p)))

-- two items that set the same counter set it twice
set_twice_at : (l : List (Option SetRead)) (j k : ℕ) → j < k → k < length l → counter_at l j ≡ counter_at l k → 2 ≤ times_set (counter_at l k) l
unfolding times_set
set_twice_at [] j k q p e = absurd (omega (arith, p))
set_twice_at (a ∷ l) j zero q p e = absurd (omega (arith, q))
set_twice_at (a ∷ l) zero (suc k) q p e = rw (eq-eqb (counter_at l k) (counter_of a) (sym e)) (omega (arith, set_at l k (omega (arith, p))))
set_twice_at (a ∷ l) (suc j) (suc k) q p e = omega (arith, set_twice_at l j k (omega (arith, q)) (omega (arith, p)) e)

-- all counters together are set as often as there are items
set_in_all : (l : List (Option SetRead)) → ((k : ℕ) → k < length l → counter_at l k < 4) → sum_below (λ i. times_set i l) 4 ≡ length l
unfolding times_set
set_in_all [] h = sum_const 4 0
set_in_all (a ∷ l) h =
    let first : counter_of a < 4 = h 0 (omega arith) in
    let others = set_in_all l (λ k p. h (suc k) (omega (arith, p))) in
    let one : sum_below (λ i. cond (eqb i (counter_of a)) 1 0) 4 ≡ 1 = sum_one (counter_of a) 4 ∙ rw (lt-ltb (counter_of a) 4 first) in
    omega (arith, sum_add (λ i. cond (eqb i (counter_of a)) 1 0) (λ i. times_set i l) 4, one, others)

-- ---- what the slots show of it
put_keeps : (a : Option SetRead) → is_keep (update_in a) ≡ is_malformed a
put_keeps None = refl
put_keeps (Some (ToConstant v c)) = refl
put_keeps (Some (ToSum v w negative n)) = refl

set_or_more : (b c : Bool) (n : ℕ) → ((b || c) || ltb 0 n) ≡ (c || ltb 0 (cond b 1 0 + n))
set_or_more true c n = rw (lt-ltb 0 (1 + n) (omega arith)) (sym (or-true c))
set_or_more false c n = let e : 0 + n ≡ n = omega arith in ap (λ (m : ℕ). c || ltb 0 m) (sym e)

slots_set : (l : List (Option SetRead)) (slots : List Update) → length slots ≡ 4 → (i : ℕ) → i < 4
    → is_set (foldl placed slots l) i ≡ (is_set slots i || ltb 0 (times_set i l))
unfolding times_set
slots_set [] slots long i p = sym (or-false (is_set slots i))
slots_set (a ∷ l) slots long i p =
    slots_set l (placed slots a) (length-set slots (counter_of a) _ ∙ long) i p
    ∙ rw (set_more slots a (update_in a) long (put_keeps a) i p) (set_or_more (eqb i (counter_of a)) (is_set slots i) (times_set i l))

-- an update is not keep exactly where its counter is set
kept_or_set : (items : List (Option SetRead)) (i : ℕ) → i < 4 → not (is_keep (get_or (update_slots items) i blank_update)) ≡ ltb 0 (times_set i items)
unfolding update_slots
kept_or_set items i p =
    let blank = replicate 4 blank_update in
    let e : is_set (foldl placed blank items) i ≡ ltb 0 (times_set i items) = slots_set items blank refl i p ∙ rw (blank_set i p) in
    rw (lt-ltb i 4 p) at e

counters_below : (vars : ℕ) (l : List (Option SetRead)) → any_of (unfit vars) l ≡ false → (k : ℕ) → k < length l → counter_at l k < vars
counters_below vars [] u k p = absurd (omega (arith, p))
counters_below vars (a ∷ l) u zero p = (item_formed vars a (any_head (unfit vars) a l u)).0
counters_below vars (a ∷ l) u (suc k) p = counters_below vars l (any_tail (unfit vars) a l u) k (omega (arith, p))

-- ---- the order
-- every item sets one of v0 to v3, and none is set twice
pub record SetLine (items : List (Option SetRead)) : Type 0 where
  pub below : (k : ℕ) → k < length items → counter_at items k < 4
  pub once : (i : ℕ) → i < 4 → times_set i items ≤ 1

pub set_line : (vars : ℕ) (items : List (Option SetRead)) → vars ≤ 4 → fault_number (set_faults vars items) ≡ 0 → SetLine items
unfolding set_faults set_twice
set_line vars items few h =
    let g = passed (set_faults vars items) h in
    let rare : ℕ → Bool = λ i. leb (times_set i items) 1 in
    let each = (all_below_lem rare 4).0 ((T_true (all_below rare 4)).1 (not-false (all_below rare 4) g.ordered)) in
    record {
      below = λ k p. omega (arith, few, counters_below vars items (none_unfit vars items h) k p);
      once = λ i p. leb→le (times_set i items) 1 (each i p);
    }

module _ (items : List (Option SetRead)) (line : SetLine items) (x : Edge) (updates : x.updates ≡ update_slots items)
    (order : x.order ≡ order_slots items) where
  pub slot_is : (k : ℕ) → k < 4 → counter_in x.order k ≡ counter_at items k
  unfolding order_slots
  slot_is k p = ap (λ (l : List ℕ). get_or l k 0) order ∙ get_d_list 0 (counter_at items) 4 k p

  set_is : (i : ℕ) → i < 4 → not (is_keep (update_at x i)) ≡ ltb 0 (times_set i items)
  set_is i p = rw updates (kept_or_set items i p)

  pub listed_items : listed x ≡ length items
  unfolding listed
  listed_items =
      sum_same _ (λ i. times_set i items) 4 (λ i p. one (is_keep (update_at x i)) (times_set i items) (line.once i p) (set_is i p))
      ∙ set_in_all items line.below
    where
      one : (b : Bool) (n : ℕ) → n ≤ 1 → not b ≡ ltb 0 n → cond b 0 1 ≡ n
      one true n l e = omega (arith, ltb-false 0 n (sym e))
      one false n l e = omega (arith, l, ltb-true 0 n (sym e))

  place_is : (k : ℕ) → k < 4 → k < length items → place_in x.order (counter_at items k) ≡ k
  unfolding place_in
  place_is k p h =
      first_is (λ j. eqb (counter_in x.order j) c) k 4 p ((eq_T (counter_in x.order k) c).1 (slot_is k p))
      (λ j q. ne_eqb (counter_in x.order j) c (λ e. omega (arith, line.once c (line.below k h), twice j q e)))
    where
      c : ℕ
      c = counter_at items k

      twice : (j : ℕ) → j < k → counter_in x.order j ≡ c → 2 ≤ times_set c items
      twice j q e = set_twice_at items j k q h (sym (slot_is j (omega (arith, p, q))) ∙ e)

  slot_formed : (k : ℕ) → k < 4 → T (order_slot_formed x k)
  slot_formed k p = rw (slot_is k p, listed_items) (⊎_elim used blank (lt_or_le k (length items)))
    where
      c : ℕ
      c = counter_at items k

      used : k < length items → T (cond (ltb k (length items)) (ltb c 4 && not (is_keep (update_at x c)) && eqb (place_in x.order c) k) (eqb c 0))
      used h =
          let once = lt-ltb 0 (times_set c items) (set_at items k h) in
          rw (lt-ltb k (length items) h, lt-ltb c 4 (line.below k h), set_is c (line.below k h), once, place_is k p h, eq-eqb k k refl) tt

      blank : length items ≤ k → T (cond (ltb k (length items)) (ltb c 4 && not (is_keep (update_at x c)) && eqb (place_in x.order c) k) (eqb c 0))
      blank h =
          let zero : c ≡ 0 = get_or-eq_default (map counter_of items) 0 (omega (arith, h, length-map items counter_of)) in
          rw (le-ltb k (length items) h) ((eq_T c 0).1 zero)

pub order_formed_lem : (vars : ℕ) (items : List (Option SetRead)) → vars ≤ 4 → fault_number (set_faults vars items) ≡ 0
    → (x : Edge) → x.updates ≡ update_slots items → x.order ≡ order_slots items → T (order_formed x)
unfolding order_formed
order_formed_lem vars items few h x updates order =
    (all_below_lem (order_slot_formed x) 4).1 (slot_formed items (set_line vars items few h) x updates order)
