-- One step: given the states that two blocks show and the choice between them, the items of a delay or an edge hold exactly if that choice, where
-- it is made, leads from one state to the other.
use mathlib.Core.Path.{◌≡◌, sym, ap}
use mathlib.Core.Logic.{◌↔◌}
use mathlib.Core.Bool.{Bool, true, false, cond}
use mathlib.Core.List.{List, [], ◌∷◌}
use Rattle.std.specs.Prelude.{Some}
use Prim.Native.Nat.{ℕ, ◌+◌, ◌<◌}
use native.Mathlib.Omega.{arith}
use lib.Dec.{T}
use Rattle.model.specs.declared.Update.{Update}
use Rattle.model.specs.declared.Update.TheVariants.{Keep, Constant, Sum}
use Rattle.model.specs.declared.ClockUpdate.{ClockUpdate}
use Rattle.model.specs.declared.ClockUpdate.TheVariants.{Unchanged, Reset, Copy}
use Rattle.model.specs.declared.Edge.{Edge}
use Rattle.model.specs.declared.Model.{Model}
use Rattle.model.specs.declared.State.{State}
use Rattle.model.specs.Record.{update_at, reset_at, counter_at}
use Rattle.model.specs.Automaton.{ceiling, choices, Component, loc, counter, clock, value, Declared, invariant_holds, delayed_value, in_range, shifted}
use Rattle.model.specs.Automaton.{new_counter, group_size, new_clock, set_earlier, read_by}
use Rattle.model.proofs.IndexedLaws.{some_inj}
use Rattle.model.proofs.FormLaws.{DeclaredUpdate, DeclaredReset, WellFormedEdge, choices_is}
use Rattle.model.proofs.StepLaws.{EdgeTo, delayed_lt, in_range_lt, shifted_lt}
use Rattle.list.specs.Lists.{All}
use Rattle.list.specs.Items.{Member, Item, rule, state_member, choice_member, next_block, offset, state_width, exclude_all_failing, leads, delay_items}
use Rattle.list.specs.Items.{source_items, target_items, guard_items, update_items, updates_items, reset_items, resets_items, edge_items}
use Rattle.list.proofs.ListLaws.{all_app₅, all_each}
use Rattle.list.proofs.Meaning.{Shows, Holds, shows_true, leads_to, leads_of, sets_to_lem, sets_of}
use Rattle.list.proofs.Blocks.{ShowsState, over_components_lem, atoms_to, atoms_of_lem}

pub delay_lt : (m : Model) (d : ℕ) → d < ceiling m + 1 → d < choices m
delay_lt m d p = omega (arith, choices_is m)

pub edge_lt : (m : Model) (e : ℕ) → e < m.used → ceiling m + 1 + e < choices m
edge_lt m e p = omega (arith, choices_is m)

module _ (width : ℕ → ℕ) (m : Model) (truth : Member → Bool) {o : ℕ} {s t : State} {k : ℕ}
    (q : ShowsState width m truth o s) (pk : Shows truth (o + state_width width m) (choices m) k) (q' : ShowsState width m truth (next_block width m o) t) where
  -- a delay
  pub delay_to : (d : ℕ) → d < ceiling m + 1 → All (Holds truth) (delay_items width m o d) → d ≡ k → (x : Component) → Declared m x
      → value t x ≡ delayed_value m d x (value s x)
  unfolding delay_items
  delay_to d l h e x p =
      let D : Component → List Item = λ x. leads width m o o d x x (λ v. Some (delayed_value m d x v)) in
      sym (some_inj (leads_to truth d pk (q.shown x p) (q'.shown x p) (λ v. Some (delayed_value m d x v)) (delay_lt m d l)
      (λ v u a b. rw (← some_inj b) (delayed_lt m d x v a)) ((over_components_lem m (Holds truth) D).0 h x p) e))

  pub delay_of : (d : ℕ) → d < ceiling m + 1 → (d ≡ k → (x : Component) → Declared m x → value t x ≡ delayed_value m d x (value s x))
      → All (Holds truth) (delay_items width m o d)
  unfolding delay_items
  delay_of d l h =
      let D : Component → List Item = λ x. leads width m o o d x x (λ v. Some (delayed_value m d x v)) in
      (over_components_lem m (Holds truth) D).1 (λ x p. leads_of truth d pk (q.shown x p) (q'.shown x p) (λ v. Some (delayed_value m d x v))
      (delay_lt m d l) (λ e. ap Some (sym (h e x p))))

  -- an edge
  module _ (c : ℕ) (hc : c < choices m) where
    -- what an update reads of counter w is what the group of w shows in the state block where the update reads it
    read_shown : (after : Bool) (w : ℕ) → w < m.vars
        → Shows truth (cond after (next_block width m o) o + offset width m (counter w)) (group_size m (counter w))
        (cond after (value t (counter w)) (value s (counter w)))
    read_shown true w p = q'.shown (counter w) p
    read_shown false w p = q.shown (counter w) p

    update_to : (e : Edge) (i : ℕ) → i < m.vars → (u : Update) → DeclaredUpdate m u → All (Holds truth) (update_items width m o c e.order i u) → c ≡ k
        → new_counter (read_by e s t i) (counter_at m i).greatest (value s (counter i)) u ≡ Some (value t (counter i))
    update_to e i p Keep a h g = leads_to truth c pk (q.shown (counter i) p) (q'.shown (counter i) p) Some hc (λ v u a b. rw (← some_inj b) a) h g
    update_to e i p (Constant n) a h g = sets_to_lem truth c pk (q'.shown (counter i) p) (in_range (counter_at m i).greatest n) hc
        (in_range_lt (counter_at m i).greatest n) h.0 g
    update_to e i p (Sum w z) a h g =
        leads_to truth c pk (read_shown (set_earlier e.order w i) w a) (q'.shown (counter i) p) (shifted z (counter_at m i).greatest) hc
        (λ v u a b. shifted_lt z (counter_at m i).greatest v u b) h g

    update_of : (e : Edge) (i : ℕ) → i < m.vars → (u : Update) → DeclaredUpdate m u
        → (c ≡ k → new_counter (read_by e s t i) (counter_at m i).greatest (value s (counter i)) u ≡ Some (value t (counter i)))
        → All (Holds truth) (update_items width m o c e.order i u)
    update_of e i p Keep a h = leads_of truth c pk (q.shown (counter i) p) (q'.shown (counter i) p) Some hc h
    update_of e i p (Constant n) a h = (sets_of truth c pk (q'.shown (counter i) p) (in_range (counter_at m i).greatest n) hc h, tt)
    update_of e i p (Sum w z) a h =
        leads_of truth c pk (read_shown (set_earlier e.order w i) w a) (q'.shown (counter i) p) (shifted z (counter_at m i).greatest) hc h

    reset_to : (i : ℕ) → i < m.clocks → (u : ClockUpdate) → DeclaredReset m u → All (Holds truth) (reset_items width m o c i u) → c ≡ k
        → new_clock (λ x. value s (clock x)) (value s (clock i)) u ≡ value t (clock i)
    reset_to i p Unchanged d h e = some_inj (leads_to truth c pk (q.shown (clock i) p) (q'.shown (clock i) p) Some hc (λ v u a b. rw (← some_inj b) a) h e)
    reset_to i p Reset d h e = some_inj (sets_to_lem truth c pk (q'.shown (clock i) p) (Some 0) hc (λ u a. rw (← some_inj a) (omega arith)) h.0 e)
    reset_to i p (Copy w) d h e = some_inj (leads_to truth c pk (q.shown (clock w) d) (q'.shown (clock i) p) Some hc (λ v u a b. rw (← some_inj b) a) h e)

    reset_of_lem : (i : ℕ) → i < m.clocks → (u : ClockUpdate) → DeclaredReset m u
        → (c ≡ k → new_clock (λ x. value s (clock x)) (value s (clock i)) u ≡ value t (clock i))
        → All (Holds truth) (reset_items width m o c i u)
    reset_of_lem i p Unchanged d h = leads_of truth c pk (q.shown (clock i) p) (q'.shown (clock i) p) Some hc (λ e. ap Some (h e))
    reset_of_lem i p Reset d h = (sets_of truth c pk (q'.shown (clock i) p) (Some 0) hc (λ e. ap Some (h e)), tt)
    reset_of_lem i p (Copy w) d h = leads_of truth c pk (q.shown (clock w) d) (q'.shown (clock i) p) Some hc (λ e. ap Some (h e))

    -- what the items of an edge ask, part by part
    record EdgeAsks (e : Edge) : Type 0 where
      source : Holds truth (rule (choice_member width m o c ∷ []) (Some (state_member width m o loc e.source)))
      target : Holds truth (rule (choice_member width m o c ∷ []) (Some (state_member width m (next_block width m o) loc e.target)))
      guard : All (Holds truth) (exclude_all_failing width m o (choice_member width m o c ∷ []) e.guard)
      updates : (i : ℕ) → i < m.vars → All (Holds truth) (update_items width m o c e.order i (update_at e i))
      resets : (i : ℕ) → i < m.clocks → All (Holds truth) (reset_items width m o c i (reset_at e i))

    edge_parts : (e : Edge) → All (Holds truth) (edge_items width m o c e) ↔ EdgeAsks e
    unfolding edge_items source_items target_items guard_items updates_items resets_items
    edge_parts e =
        let a = all_app₅ (Holds truth) (source_items width m o c e) (target_items width m o c e) (guard_items width m o c e) (updates_items width m o c e)
        (resets_items width m o c e) in
        let u = all_each (Holds truth) m.vars (λ i. update_items width m o c e.order i (update_at e i)) in
        let r = all_each (Holds truth) m.clocks (λ i. reset_items width m o c i (reset_at e i)) in (
          (λ h. let g = a.0 h in record { source = g.0.0; target = g.1.0; guard = g.2; updates = u.0 g.3; resets = r.0 g.4 }),
          λ h. a.1 ((h.source, tt), (h.target, tt), h.guard, u.1 h.updates, r.1 h.resets),
        )

    pub edge_to : (e : Edge) → WellFormedEdge m e → T (invariant_holds m t) → All (Holds truth) (edge_items width m o c e) → c ≡ k → EdgeTo m e s t
    edge_to e ok i h p =
        let g = (edge_parts e).0 h in
        record {
          shape = q'.shape;
          leaves = sym ((q.shown loc tt).only e.source ok.source_ok (g.source (shows_true truth pk p, tt)));
          guard = atoms_to width m truth q (choice_member width m o c ∷ []) e.guard ok.guard_ok g.guard (shows_true truth pk p, tt);
          sets = λ i l. update_to e i l (update_at e i) (ok.sets_ok i l) (g.updates i l) p;
          resets = λ i l. reset_to i l (reset_at e i) (ok.resets_ok i l) (g.resets i l) p;
          lands = sym ((q'.shown loc tt).only e.target ok.target_ok (g.target (shows_true truth pk p, tt)));
          allowed = i;
        }

    pub edge_of_lem : (e : Edge) → WellFormedEdge m e → (c ≡ k → EdgeTo m e s t) → All (Holds truth) (edge_items width m o c e)
    edge_of_lem e ok h = (edge_parts e).1 (record {
      source = λ x. shows_true truth (q.shown loc tt) (sym (h (pk.only c hc x.0)).leaves);
      target = λ x. shows_true truth (q'.shown loc tt) (sym (h (pk.only c hc x.0)).lands);
      guard = atoms_of_lem width m truth q (choice_member width m o c ∷ []) e.guard ok.guard_ok (λ x. (h (pk.only c hc x.0)).guard);
      updates = λ i l. update_of e i l (update_at e i) (ok.sets_ok i l) (λ p. (h p).sets i l);
      resets = λ i l. reset_of_lem i l (reset_at e i) (ok.resets_ok i l) (λ p. (h p).resets i l);
    })
