-- A record in which each edge is replaced by one that differs in its label and its clocks' updates: what must stay of an edge, so that the record stays
-- well formed and has the same ceiling, steps and list.
use mathlib.Core.Path.{◌≡◌, refl, sym, ap, subst, ◌∙◌}
use mathlib.Core.Bool.{Bool, true, false, ◌&&◌, cond}
use mathlib.Core.List.{List, ◌++◌}
use Rattle.std.specs.Prelude.{Option}
use Prim.Native.Nat.{ℕ, zero, suc, ◌+◌, ◌<◌, max}
use native.Mathlib.Omega.{arith}
use lib.Dec.{T, ltb, leb, eqb}
use Rattle.model.specs.declared.ClockUpdate.{ClockUpdate}
use Rattle.model.specs.declared.Counter.{Counter}
use Rattle.model.specs.declared.Edge.{Edge}
use Rattle.model.specs.declared.Model.{Model}
use Rattle.model.specs.declared.State.{State}
use Rattle.model.specs.Indexed.{max_below, and_then, only_if}
use Rattle.model.specs.Record.{counter_in, invariant_at, edge_at, past_edge}
use Rattle.model.specs.Automaton.{greatest_constant, ceiling, next_clock, listed, applied, updated, after_edge, edge_allowed, edge_step, step}
use Rattle.model.specs.Form.{atoms_formed, updates_formed, order_formed, resets_formed, edge_formed, is_blank_edge}
use Rattle.model.specs.Form.{counters_formed, invariants_formed, edges_formed, head_formed, well_formed}
use Rattle.model.proofs.IndexedLaws.{and_T, all_below_lem, max_same, get_d_list}
use Rattle.model.proofs.FormLaws.{WellFormed, formed, and₇}
use Rattle.model.proofs.BlankSlots.{and₇_of}
use Rattle.list.specs.Items.{Item, source_items, target_items, guard_items, updates_items, resets_items, edge_items, items}
use Rattle.list.specs.OtherEdges.{edge_with, map_edges}
use Rattle.list.proofs.ListLaws.{list_cong}
use Rattle.list.proofs.OtherEdgesLaws.{items_same, steps_same}

-- ---- one edge
module _ (e : Edge) (label : ℕ) (resets : List ClockUpdate) where
  abbrev other : Edge
  other = edge_with e label resets

  updated_same : (counters : List Counter) (vs : List ℕ) (n : ℕ) → updated counters other vs n ≡ updated counters e vs n
  unfolding updated applied
  updated_same counters vs zero = refl
  updated_same counters vs (suc n) =
      ap (λ (x : Option (List ℕ)). and_then x (λ now. applied counters e now (counter_in e.order n))) (updated_same counters vs n)

  -- where each clock gets the same value, the step is the same
  module _ (m : Model) (s : State) (clocks : (i : ℕ) → i < 4 → next_clock other s i ≡ next_clock e s i) where
    after_same : (vs : List ℕ) → after_edge other s vs ≡ after_edge e s vs
    unfolding after_edge
    after_same vs = λ j. record { location = e.target; counters = vs; clocks = list_cong (next_clock other s) (next_clock e s) 4 clocks j }

    allowed_same : (vs : List ℕ) → edge_allowed m other s vs ≡ edge_allowed m e s vs
    unfolding edge_allowed
    allowed_same vs = rw (after_same vs) refl

    pub same_step : edge_step m other s ≡ edge_step m e s
    unfolding edge_step listed
    same_step =
        rw (updated_same m.counters s.counters (listed e))
        (ap (and_then (updated m.counters e s.counters (listed e))) (λ j vs. only_if (allowed_same vs j) (after_same vs j)))

  -- where the clocks have the same items, the edge has
  pub same_items : (width : ℕ → ℕ) (m : Model) (o c : ℕ) → resets_items width m o c other ≡ resets_items width m o c e
      → edge_items width m o c other ≡ edge_items width m o c e
  unfolding edge_items source_items target_items guard_items updates_items
  same_items width m o c h =
      ap (λ (x : List Item). source_items width m o c e ++ target_items width m o c e ++ guard_items width m o c e ++ updates_items width m o c e ++ x) h

  -- a formed edge with a formed label and formed updates of clocks is formed
  pub same_form : (locations clocks vars : ℕ) → (T (leb e.label 15) → T (leb label 15))
      → (T (resets_formed clocks e.resets) → T (resets_formed clocks resets)) → T (edge_formed locations clocks vars e)
      → T (edge_formed locations clocks vars other)
  unfolding edge_formed order_formed listed
  same_form locations clocks vars l r h =
      let source = ltb e.source locations in
      let target = ltb e.target locations in
      let guard = atoms_formed clocks vars e.guard in
      let updates = updates_formed vars e.updates in
      let g = and₇ source target (leb e.label 15) guard updates (order_formed e) (resets_formed clocks e.resets) h in
      and₇_of source target (leb label 15) guard updates (order_formed other) (resets_formed clocks resets) g.0 g.1 (l g.2) g.3 g.4 g.5
      (r g.6)

-- ---- every edge
-- what f keeps of every edge: its guard, that it is private, its form, its step and its items
pub record Keeps (f : Edge → Edge) : Type 0 where
  pub guards : (e : Edge) → (f e).guard ≡ e.guard
  pub private : (e : Edge) → T (eqb e.label 0) → T (eqb (f e).label 0)
  pub form : (locations clocks vars : ℕ) (e : Edge) → T (edge_formed locations clocks vars e) → T (edge_formed locations clocks vars (f e))
  pub steps : (m : Model) (e : Edge) (s : State) → edge_step m (f e) s ≡ edge_step m e s
  pub clauses : (width : ℕ → ℕ) (m : Model) → WellFormed m → (o c : ℕ) (e : Edge) → edge_items width m o c (f e) ≡ edge_items width m o c e

pub edge_is : (f : Edge → Edge) (m : Model) (e : ℕ) → e < 32 → edge_at (map_edges f m) e ≡ f (edge_at m e)
edge_is f m e l = get_d_list past_edge (λ e. f (edge_at m e)) 32 e l

module _ (f : Edge → Edge) (keeps : Keeps f) (m : Model) where
  pub ceiling_same : ceiling (map_edges f m) ≡ ceiling m
  unfolding ceiling
  ceiling_same =
      ap (λ (n : ℕ). 1 + max (max_below (λ l. greatest_constant (invariant_at m l)) 16) n)
      (max_same _ (λ e. greatest_constant (edge_at m e).guard) 32 (λ e l. ap (λ (x : Edge). greatest_constant x.guard) (edge_is f m e l)
      ∙ ap greatest_constant (keeps.guards (edge_at m e))))

  edges_formed_lem : T (edges_formed m) → T (edges_formed (map_edges f m))
  unfolding edges_formed
  edges_formed_lem h = (all_below_lem _ 32).1 (λ e l. subst
      (λ (x : Edge). T (cond (ltb e m.used) (edge_formed m.locations m.clocks m.vars x) (is_blank_edge x)))
      (sym (edge_is f m e l)) (by (edge_at m e) (ltb e m.used) ((all_below_lem _ 32).0 h e l)))
    where
      by : (x : Edge) (b : Bool) → T (cond b (edge_formed m.locations m.clocks m.vars x) (is_blank_edge x))
          → T (cond b (edge_formed m.locations m.clocks m.vars (f x)) (is_blank_edge (f x)))
      by x true h = keeps.form m.locations m.clocks m.vars x h
      by x false h =
          let g = (and_T (eqb x.label 0) (edge_formed 1 0 0 x)).0 h in
          (and_T (eqb (f x).label 0) (edge_formed 1 0 0 (f x))).1 (keeps.private x g.0, keeps.form 1 0 0 x g.1)

  pub well_formed_lem : T (well_formed m) → T (well_formed (map_edges f m))
  unfolding well_formed head_formed invariants_formed
  well_formed_lem h =
      let rest = head_formed m && counters_formed m.vars m.counters && invariants_formed m in
      let g = (and_T rest (edges_formed m)).0 h in
      (and_T rest (edges_formed (map_edges f m))).1 (g.0, edges_formed_lem g.1)

  module _ (ok : T (well_formed m)) where
    used-small : (e : ℕ) → e < m.used → e < 32
    used-small e l = omega (arith, (formed m ok).used_le)

    pub same_steps : (s : State) (b : ℕ) → step (map_edges f m) s b ≡ step m s b
    same_steps = steps_same m _ ceiling_same (λ e l s. ap (λ (x : Edge). edge_step m x s) (edge_is f m e (used-small e l)) ∙ keeps.steps m (edge_at m e) s)

    pub edge_items_lem : (width : ℕ → ℕ) (e : ℕ) → e < m.used → (o c : ℕ)
        → edge_items width m o c (edge_at (map_edges f m) e) ≡ edge_items width m o c (edge_at m e)
    edge_items_lem width e l o c = ap (edge_items width m o c) (edge_is f m e (used-small e l)) ∙ keeps.clauses width m (formed m ok) o c (edge_at m e)

    pub same_lists : (width : ℕ → ℕ) (k : ℕ) → items width (map_edges f m) k ≡ items width m k
    same_lists width k = items_same width m _ ceiling_same (edge_items_lem width) k
