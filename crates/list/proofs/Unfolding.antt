-- The whole list: its items hold exactly if the groups show a run.
use mathlib.Core.Path.{◌≡◌, refl, sym, ap, subst, ◌∙◌}
use mathlib.Core.Logic.{◌↔◌, ◌⊎◌, inl, inr}
use mathlib.Core.Bool.{Bool}
use mathlib.Core.List.{List, [], ◌∷◌}
use Rattle.std.specs.Prelude.{Some}
use Prim.Native.Nat.{ℕ, zero, suc, ◌+◌, ◌*◌, ◌<◌}
use native.Mathlib.Nat.{not-suc-le-zero, zero-add}
use native.Mathlib.Omega.{arith}
use lib.Dec.{T}
use lib.ListN.{length}
use Rattle.model.specs.declared.Model.{Model}
use Rattle.model.specs.declared.State.{State}
use Rattle.model.specs.Indexed.{each}
use Rattle.model.specs.Record.{edge_at}
use Rattle.model.specs.Automaton.{ceiling, choices, Component, loc, Declared, initial_value, invariant_holds, initial_state, step}
use Rattle.model.specs.Run.{walk}
use Rattle.model.proofs.FormLaws.{WellFormed}
use Rattle.model.proofs.StepLaws.{state_ext, shaped_initial, initial_is, initial_lt, step_delay, step_edge, step_invariant, delay_or_edge}
use Rattle.model.proofs.RunLaws.{walk_nil, walk_cons}
use Rattle.list.specs.Lists.{All}
use Rattle.list.specs.Items.{Member, Item, group, rule, over_components, state_member, next_block, state_width, choice_width, block_at, state_items}
use Rattle.list.specs.Items.{initial_items, start_items, choice_items, delay_items, delays_items, edge_of, edges_items, step_items, end_items}
use Rattle.list.specs.Items.{body_items, items}
use Rattle.list.proofs.ListLaws.{all_app, all_app₄, all_each}
use Rattle.list.proofs.Meaning.{Shows, Holds, shows_true}
use Rattle.list.proofs.Blocks.{ShowsState, over_components_lem, state_of, state_to}
use Rattle.list.proofs.Steps.{delay_to, delay_of, edge_to, edge_of_lem, edge_lt}

first_block : (o w : ℕ) → o + 0 * w ≡ o
first_block o w = omega arith

later_block : (o s h t : ℕ) → o + suc t * (s + h) ≡ o + s + h + t * (s + h)
later_block o s h t = omega arith

module _ (width : ℕ → ℕ) (m : Model) (truth : Member → Bool) (ok : WellFormed m) where
  -- ---- one step
  record StepAsks (o : ℕ) : Type 0 where
    choice : Holds truth (group (o + state_width width m) (choices m))
    delays : (d : ℕ) → d < ceiling m + 1 → All (Holds truth) (delay_items width m o d)
    edges : (e : ℕ) → e < m.used → All (Holds truth) (edge_of width m o e)
    after : All (Holds truth) (state_items width m (next_block width m o))

  step_parts : (o : ℕ) → All (Holds truth) (step_items width m o) ↔ StepAsks o
  unfolding step_items choice_items delays_items edges_items
  step_parts o =
      let a = all_app₄ (Holds truth) (choice_items width m o) (delays_items width m o) (edges_items width m o) (state_items width m (next_block width m o)) in
      let d = all_each (Holds truth) (ceiling m + 1) (delay_items width m o) in
      let e = all_each (Holds truth) m.used (edge_of width m o) in (
        (λ h. let g = a.0 h in record { choice = g.0.0; delays = d.0 g.1; edges = e.0 g.2; after = g.3 }),
        λ h. a.1 ((h.choice, tt), d.1 h.delays, e.1 h.edges, h.after),
      )

  -- the step's items hold: there is a choice and a next state, and the step leads there
  pub step_to : {o : ℕ} {s : State} → ShowsState width m truth o s → All (Holds truth) (step_items width m o)
      → (b : ℕ) × (t : State) × (step m s b ≡ Some t) × Shows truth (o + state_width width m) (choices m) b × ShowsState width m truth (next_block width m o) t
  step_to {o} {s} q h =
      let g = (step_parts o).0 h in
      let c = g.choice in
      let n = state_to width m truth ok (next_block width m o) g.after in
      (c.0, n.0, go c.0 n.0 c.1 n.1 n.2 g (delay_or_edge m c.0 c.1.below), c.1, n.1)
    where
      go : (b : ℕ) (t : State) → Shows truth (o + state_width width m) (choices m) b → ShowsState width m truth (next_block width m o) t
          → T (invariant_holds m t) → StepAsks o
          → (b < ceiling m + 1) ⊎ ((e : ℕ) × (e < m.used) × (b ≡ ceiling m + 1 + e)) → step m s b ≡ Some t
      go b t pk q' i g (inl l) = (step_delay m ok s t q.shape b l).1 (record {
        shape = q'.shape;
        values = delay_to width m truth q pk q' b l
            (g.delays b l) refl;
        allowed = i;
      })
      go b t pk q' i g (inr (e, l, p)) = rw p ((step_edge m ok s t q.shape e l).1
          (edge_to width m truth q pk q' (ceiling m + 1 + e) (edge_lt m e l) (edge_at m e) (ok.edge_ok e l) i (g.edges e l) (sym p)))

  pub step_of : {o : ℕ} {s t : State} {b : ℕ} → ShowsState width m truth o s → Shows truth (o + state_width width m) (choices m) b
      → ShowsState width m truth (next_block width m o) t
      → step m s b ≡ Some t → All (Holds truth) (step_items width m o)
  step_of {o} {s} {t} {b} q pk q' h = (step_parts o).1 (record {
    choice = (b, pk);
    delays = λ d l. delay_of width m truth q pk q' d l (λ e. ((step_delay m ok s t q.shape d l).0 (rw e h)).values);
    edges = λ e l. edge_of_lem width m truth q pk q' (ceiling m + 1 + e) (edge_lt m e l) (edge_at m e) (ok.edge_ok e l)
        (λ p. (step_edge m ok s t q.shape e l).0 (rw p h));
    after = state_of width m truth ok (next_block width m o) t q' (step_invariant m ok s t b q.shape h);
  })

  -- ---- the start
  start_parts : All (Holds truth) (start_items width m)
      ↔ (All (Holds truth) (state_items width m 0) × ((x : Component) → Declared m x → Holds truth
      (rule [] (Some (state_member width m 0 x (initial_value m x))))))
  unfolding start_items initial_items
  start_parts =
      let I : Component → List Item = λ x. rule [] (Some (state_member width m 0 x (initial_value m x))) ∷ [] in
      let a = all_app (Holds truth) (state_items width m 0) (over_components m I) in (
        λ h. ((a.0 h).0, λ x p. ((over_components_lem m (Holds truth) I).0 (a.0 h).1 x p).0),
        λ h. a.1
            (h.0, (over_components_lem m (Holds truth) I).1 (λ x p. (h.1 x p, tt))),
      )

  pub start_to : All (Holds truth) (start_items width m) → ShowsState width m truth 0 (initial_state m) × T (invariant_holds m (initial_state m))
  start_to h =
      let g = start_parts.0 h in
      let s = state_to width m truth ok 0 g.0 in
      let e : s.0 ≡ initial_state m = state_ext m s.1.shape (shaped_initial m ok)
      (λ x p. sym ((s.1.shown x p).only (initial_value m x) (initial_lt m ok x p) (g.1 x p tt)) ∙ sym (initial_is m ok x p)) in
      (rw e at s.1, rw e at s.2)

  pub start_of : ShowsState width m truth 0 (initial_state m) → T (invariant_holds m (initial_state m)) → All (Holds truth) (start_items width m)
  start_of q h = start_parts.1 (state_of width m truth ok 0 (initial_state m) q h, λ x p y. shows_true truth (q.shown x p) (sym (initial_is m ok x p)))

  -- ---- the steps from the block at o on
  -- the blocks show the states of a walk, and its bytes
  abbrev pub ShowsWalk : ℕ → State → List ℕ → State → Type 0
  ShowsWalk o s [] e = s ≡ e
  ShowsWalk o s (b ∷ r) e = (t : State) × (step m s b ≡ Some t) × Shows truth (o + state_width width m) (choices m) b × ShowsState width m truth
      (next_block width m o) t × ShowsWalk (next_block width m o) t r e

  abbrev StepsHold : ℕ → ℕ → Type 0
  StepsHold o n = (t : ℕ) → t < n → All (Holds truth) (step_items width m (o + t * (state_width width m + choice_width width m)))

  pub steps_to : (n o : ℕ) (s : State) → ShowsState width m truth o s → StepsHold o n
      → (r : List ℕ) × (e : State) × (length r ≡ n) × ShowsWalk o s r e × ShowsState width m truth (o + n * (state_width width m + choice_width width m)) e
  steps_to zero o s q h = (
    [],
    s,
    refl,
    refl,
    subst (λ (i : ℕ). ShowsState width m truth i s)
        (sym (first_block o (state_width width m + choice_width width m))) q,
  )
  steps_to (suc n) o s q h =
      let S : ℕ = state_width width m in
      let H : ℕ = choice_width width m in
      let x = step_to q (subst (λ (i : ℕ). All (Holds truth) (step_items width m i)) (first_block o (S + H)) (h 0 (omega arith))) in
      let y = steps_to n (next_block width m o) x.1 x.4 (λ t l. subst (λ (i : ℕ). All (Holds truth) (step_items width m i)) (later_block o S H t)
      (h (suc t) (omega arith))) in (
        x.0 ∷ y.0,
        y.1,
        ap suc y.2,
        (x.1, x.2, x.3, x.4, y.3),
        subst (λ (i : ℕ). ShowsState width m truth i y.1)
            (sym (later_block o S H n)) y.4,
      )

  pub steps_of : (r : List ℕ) (o : ℕ) (s e : State) → ShowsState width m truth o s → ShowsWalk o s r e
      → StepsHold o (length r) × ShowsState width m truth (o + length r * (state_width width m + choice_width width m)) e
  steps_of [] o s e q t = (
    (λ i l. absurd (not-suc-le-zero l)),
    subst (λ (i : ℕ). ShowsState width m truth i e)
        (sym (first_block o (state_width width m + choice_width width m))) (rw t at q),
  )
  steps_of (b ∷ r) o s e q t =
      let y = steps_of r (next_block width m o) t.0 e t.3 t.4 in
      (hold y.0, subst (λ (i : ℕ). ShowsState width m truth i e) (sym (later_block o (state_width width m) (choice_width width m) (length r))) y.1)
    where
      hold : StepsHold (next_block width m o) (length r) → StepsHold o (suc (length r))
      hold h zero l = subst (λ (i : ℕ). All (Holds truth) (step_items width m i)) (sym (first_block o (state_width width m + choice_width width m)))
          (step_of q t.2 t.3 t.1)
      hold h (suc i) l = subst (λ (i : ℕ). All (Holds truth) (step_items width m i)) (sym (later_block o (state_width width m) (choice_width width m) i))
          (h i (omega arith))

  pub shows_walk : (r : List ℕ) (o : ℕ) (s e : State) → ShowsWalk o s r e → walk m s r ≡ Some e
  shows_walk [] o s e t = (walk_nil m s e).1 t
  shows_walk (b ∷ r) o s e t = (walk_cons m s e b r).1 (t.0, t.1, shows_walk r (next_block width m o) t.0 e t.4)

  -- ---- the whole list
  pub record ShowsRun (k : ℕ) (r : List ℕ) (e : State) : Type 0 where
    pub long : length r ≡ k
    pub starts : ShowsState width m truth 0 (initial_state m)
    pub allowed : T (invariant_holds m (initial_state m))
    pub walks : ShowsWalk 0 (initial_state m) r e
    pub arrives : e.location ≡ m.target

  record ListAsks (k : ℕ) : Type 0 where
    start : All (Holds truth) (start_items width m)
    steps : StepsHold 0 k
    end : Holds truth (rule [] (Some (state_member width m (block_at width m k) loc m.target)))

  list_parts : (k : ℕ) → All (Holds truth) (items width m k) ↔ ListAsks k
  unfolding items body_items end_items
  list_parts k =
      let a = all_app (Holds truth) (body_items width m k) (end_items width m k) in
      let b = all_app (Holds truth) (start_items width m) (each k (λ t. step_items width m (block_at width m t))) in
      let s = all_each (Holds truth) k (λ t. step_items width m (block_at width m t)) in (
        (λ h. let g = a.0 h in let f = b.0 g.0 in record { start = f.0; steps = λ t l. rw zero-add (s.0 f.1 t l); end = g.1.0 }),
        λ h. a.1 (b.1 (h.start, s.1 (λ t l. rw zero-add at (h.steps t l))), (h.end, tt)),
      )

  pub items_to : (k : ℕ) → All (Holds truth) (items width m k) → (r : List ℕ) × (e : State) × ShowsRun k r e
  items_to k h =
      let g = (list_parts k).0 h in
      let s = start_to g.start in
      let x = steps_to k 0 (initial_state m) s.0 g.steps in
      let e = rw zero-add at x.4 in (
        x.0,
        x.1,
        record {
          long = x.2;
          starts = s.0;
          allowed = s.1;
          walks = x.3;
          arrives = sym
              ((e.shown loc tt).only m.target ok.target_ok (g.end tt));
        },
      )

  pub items_of : (k : ℕ) (r : List ℕ) (e : State) → ShowsRun k r e → All (Holds truth) (items width m k)
  items_of k r e h =
      let x = steps_of r 0 (initial_state m) e h.starts h.walks in
      let z = rw zero-add at x.1 in
      rw (← h.long) ((list_parts (length r)).1 (record {
        start = start_of h.starts h.allowed;
        steps = x.0;
        end = λ t. shows_true truth
            (z.shown loc tt) (sym h.arrives);
      }))
