-- One pass over the items comes to the tests over all items, and to the slots where none fails.
use Prim.Native.Nat.{ℕ, ◌<◌}
use mathlib.Core.Path.{◌≡◌, refl, sym, ap, ◌∙◌}
use mathlib.Core.List.{List, [], ◌∷◌, ◌++◌, map, foldl, append_assoc, append-nil}
use mathlib.Core.Bool.{Bool, false, not, ◌||◌, or_assoc, or-false}
use native.Mathlib.Omega.{arith}
use lib.ListN.{length, set, length-set}
use lib.Dec.{ltb, leb}
use borrow.Author.Tests.{lt-ltb, leb-false, ltb-false}
use Rattle.std.specs.Prelude.{Option, Some, None}
use Rattle.text.specs.bytes.Bytes.{narrowed}
use Rattle.text.specs.bytes.Faulty.{fault_number, any_of, Checked}
use Rattle.std.specs.Prelude.{Ok, Err}
use Rattle.text.specs.declared.bytes.LineFault.{LineFault}
use Rattle.text.proofs.bytes.Flags.{flag, unflagged, or_left, or_right, any_head, any_tail, same_faults}
use Rattle.text.proofs.Laws.Slots.{put_is, put_all}
use Rattle.model.specs.declared.Update.{Update}
use Rattle.model.specs.Indexed.{all_below}
use Rattle.model.specs.Automaton.{is_keep}
use Rattle.text.specs.declared.updates.SetRead.{SetRead}
use Rattle.text.specs.declared.updates.SetRead.TheVariants.{ToConstant, ToSum}
use Rattle.text.specs.declared.updates.SetsRead.{SetsRead}
use Rattle.text.specs.updates.Sets.{is_malformed, is_outside, is_undeclared, counter_of, set_faults, update_in, update_slots, order_slots}
use Rattle.text.specs.updates.Sets.{SetsOf}
use Rattle.text.specs.updates.OnePass.{stored_update, put, is_set, absorbed, no_sets}
use Rattle.text.proofs.updates.TimesSet.{once, once_none, once_more, once_blank}
use Rattle.text.proofs.updates.UpdatesFormed.{unfit, none_unfit, item_formed}
use Rattle.text.proofs.updates.Listing.{Lists, lists_none, lists_more, lists_all}

-- ---- the flags
stored_keeps : (a : Option SetRead) → is_keep (stored_update a) ≡ is_malformed a
stored_keeps None = refl
stored_keeps (Some (ToConstant v c)) = refl
stored_keeps (Some (ToSum v w negative n)) = refl

module _ (vars : ℕ) where
  abbrev step : SetsRead → Option SetRead → SetsRead
  step = absorbed vars

  -- the flag for a counter set twice
  twice : (l : List (Option SetRead)) (s : SetsRead) → length s.updates ≡ 4
      → (foldl step s l).faults.unordered ≡ (s.faults.unordered || not (all_below (once s.updates l) 4))
  unfolding absorbed put
  twice [] s n = rw (once_none s.updates) (sym (or-false s.faults.unordered))
  twice (a ∷ l) s n =
      let slots = s.updates in
      let k = counter_of a in
      let x : Update = stored_update a in
      let next : (step s a).updates ≡ set slots k x = put_is slots k 4 x n in
      twice l (step s a) (ap length next ∙ length-set slots k x ∙ n)
      ∙ rw next
      (or_assoc s.faults.unordered (is_set slots k) (not (all_below (once (set slots k x) l) 4))
      ∙ ap (λ (b : Bool). s.faults.unordered || b) (once_more slots a (stored_update a) n (stored_keeps a) l))

  faults_are : (items : List (Option SetRead)) → (foldl (absorbed vars) no_sets items).faults ≡ set_faults vars items
  unfolding set_faults no_sets absorbed
  faults_are items =
      same_faults (foldl step no_sets items).faults
      (flag step (λ s. s.faults.malformed) is_malformed (λ s a. refl) items no_sets)
      (unflagged step (λ s. s.faults.crowded) (λ s a. refl) items no_sets)
      (flag step (λ s. s.faults.outside) is_outside (λ s a. refl) items no_sets)
      (flag step (λ s. s.faults.undeclared) (is_undeclared vars) (λ s a. refl) items no_sets)
      (twice items no_sets refl ∙ once_blank items)

-- ---- the slots
module _ (vars : ℕ) (p : vars < 256) where
  stored_is : (a : Option SetRead) → unfit vars a ≡ false → stored_update a ≡ update_in a
  stored_is None u = refl
  stored_is (Some (ToConstant v c)) u = rw (lt-ltb c 256 (omega (arith, ltb-false 31 c (or_left (ltb 31 c) (leb vars v) u))))
  stored_is (Some (ToSum v w negative n)) u =
      let named = or_right (ltb 31 n) (leb vars v || leb vars w) u in
      let source = leb-false vars w (or_right (leb vars v) (leb vars w) named) in
      rw (lt-ltb w 256 (omega (arith, source)), or_left (ltb 31 n) (leb vars v || leb vars w) u)

  filled : (items : List (Option SetRead)) → fault_number (set_faults vars items) ≡ 0 → (foldl (absorbed vars) no_sets items).updates ≡ update_slots items
  unfolding update_slots no_sets absorbed put
  filled items h =
      let slot : Update → Update = λ u. u in
      put_all (unfit vars) counter_of (λ a. slot (update_in a)) (absorbed vars) (λ s. s.updates) (λ a. slot (stored_update a)) 4
      (λ s a. refl) (λ a u. ap slot (stored_is a u)) items (none_unfit vars items h) no_sets refl

  -- ---- the order
  narrow_is : (a : Option SetRead) → unfit vars a ≡ false → narrowed (counter_of a) ≡ counter_of a
  narrow_is a u = rw (lt-ltb (counter_of a) 256 (omega (arith, (item_formed vars a u).0)))

  order_lists : (l : List (Option SetRead)) (s : SetsRead) (seen : List ℕ) → Lists seen s.count s.order → any_of (unfit vars) l ≡ false
      → Lists (seen ++ map counter_of l) (foldl (absorbed vars) s l).count (foldl (absorbed vars) s l).order
  unfolding absorbed
  order_lists [] s seen h u = rw (append-nil seen) h
  order_lists (a ∷ l) s seen h u =
      rw (← append_assoc seen (counter_of a ∷ []) (map counter_of l))
      (order_lists l (absorbed vars s a) (seen ++ (counter_of a ∷ []))
      (rw (narrow_is a (any_head (unfit vars) a l u)) (lists_more h (counter_of a)))
      (any_tail (unfit vars) a l u))

  listed : (items : List (Option SetRead)) → fault_number (set_faults vars items) ≡ 0 → (foldl (absorbed vars) no_sets items).order ≡ order_slots items
  unfolding order_slots no_sets
  listed items h = lists_all (order_lists items no_sets [] lists_none (none_unfit vars items h))

  -- s is what one pass collects
  module _ (items : List (Option SetRead)) (s : SetsRead) (e : s ≡ foldl (absorbed vars) no_sets items) where
    same_faults_as : s.faults ≡ set_faults vars items
    same_faults_as = ap (λ (x : SetsRead). x.faults) e ∙ faults_are vars items

    pub by_stages : Checked {A = Unit {0}} s.faults tt (Ok tt) → SetsOf vars items (Ok (record { updates = s.updates; order = s.order }))
    by_stages h =
        let clean : fault_number (set_faults vars items) ≡ 0 = ap fault_number (sym same_faults_as) ∙ h.0 in (
          clean,
          λ i. record {
            updates = (ap (λ (x : SetsRead). x.updates) e
                ∙ filled items clean) i;
            order = (ap (λ (x : SetsRead). x.order) e
                ∙ listed items clean) i;
          },
        )

    pub by_fault : (fault : LineFault) → Checked {A = Unit {0}} s.faults tt (Err fault) → SetsOf vars items (Err fault)
    by_fault fault h = ap fault_number (sym same_faults_as) ∙ h
