-- Steps: what the layers above cite instead of the definitions. All is said component by component.
use mathlib.Core.Path.{◌≡◌, refl, sym, ap, subst, ◌∙◌}
use mathlib.Core.Logic.{◌↔◌, ◌⊎◌, inl, inr, ⊎_elim}
use mathlib.Core.Bool.{Bool, true, false, not, ◌&&◌, cond}
use mathlib.Core.List.{List}
use Rattle.std.specs.Prelude.{Option, None, Some}
use Prim.Native.Nat.{ℕ, ◌+◌, ◌-◌, ◌≤◌, ◌<◌, min}
use native.Mathlib.Nat.{add-sub_cancel_left}
use native.Mathlib.Omega.{arith}
use lib.Dec.{T, leb, ltb, eqb, leb→le, ltb→lt, lt→ltb, not_T}
use lib.IntN.{ℤ, nat_abs}
use lib.ListN.{length, get_or, get_or-eq_default}
use lib.Seq.{ext_get_or}
use borrow.Author.Tests.{le-leb, lt-leb, lt-ltb, le-ltb}
use Rattle.model.specs.declared.Update.{Update}
use Rattle.model.specs.declared.Update.TheVariants.{Keep, Constant, Sum}
use Rattle.model.specs.declared.ClockUpdate.{ClockUpdate}
use Rattle.model.specs.declared.ClockUpdate.TheVariants.{Unchanged, Reset, Copy}
use Rattle.model.specs.declared.Atom.{Atom}
use Rattle.model.specs.declared.Edge.{Edge}
use Rattle.model.specs.declared.Model.{Model}
use Rattle.model.specs.declared.State.{State}
use Rattle.model.specs.Indexed.{list_below, all_below, only_if, and_then}
use Rattle.model.specs.Record.{atom_at, update_at, counter_in, reset_at, counter_at, invariant_at, edge_at}
use Rattle.model.specs.Automaton.{ceiling, Component, loc, counter, clock, value, Declared, group_size, choices, atom_holds, all_hold, invariant_holds}
use Rattle.model.specs.Automaton.{initial_state, initial_value, delayed_clock, delayed, delay_step, delayed_value, in_range, moved, is_negative, shifted}
use Rattle.model.specs.Automaton.{is_keep, new_counter, new_clock, listed, place_in, updated, read_by, set_earlier, next_clock, after_edge, edge_allowed}
use Rattle.model.specs.Automaton.{edge_step, step}
use Rattle.model.specs.Form.{slot_in_group, counters_in_group, clocks_in_group, state_formed}
use Rattle.model.proofs.IndexedLaws.{and_T, eq_T, split, some_inj, some_none, only_if_lem, cond_some, then_iff, lt_or_le, cond_T, cond_F, all_below_lem}
use Rattle.model.proofs.IndexedLaws.{length_list, get_d_list}
use Rattle.model.proofs.OrderLaws.{Ordered, Updates, read_at_place, place_at, listed_le, set_place, kept_place, updated_to, updated_of}
use Rattle.model.proofs.FormLaws.{DeclaredReset, WellFormedEdge, WellFormed, yes, no}

-- ---- states
-- four slots, those not declared 0
pub record Shaped (m : Model) (s : State) : Type 0 where
  pub counters_len : length s.counters ≡ 4
  pub clocks_len : length s.clocks ≡ 4
  pub counters_rest : (i : ℕ) → m.vars ≤ i → i < 4 → value s (counter i) ≡ 0
  pub clocks_rest : (i : ℕ) → m.clocks ≤ i → i < 4 → value s (clock i) ≡ 0

-- every place shows a number of its group
abbrev pub InRange : Model → State → Type 0
InRange m s = (r : Component) → Declared m r → value s r < group_size m r

state_eq : {s t : State} → s.location ≡ t.location → s.counters ≡ t.counters → s.clocks ≡ t.clocks → s ≡ t
state_eq p q r = λ i. record { location = p i; counters = q i; clocks = r i }

-- two states are equal if they agree in every place
pub state_ext : (m : Model) {s t : State} → Shaped m s → Shaped m t → ((r : Component) → Declared m r → value s r ≡ value t r) → s ≡ t
state_ext m {s} {t} p q h = state_eq (h loc tt)
    (ext_get_or 0 s.counters t.counters (p.counters_len ∙ sym q.counters_len)
    (λ i l. let l' : i < 4 = rw p.counters_len at l in ⊎_elim (λ a. h (counter i) a)
    (λ b. p.counters_rest i b l' ∙ sym (q.counters_rest i b l')) (lt_or_le i m.vars)))
    (ext_get_or 0 s.clocks t.clocks (p.clocks_len ∙ sym q.clocks_len)
    (λ i l. let l' : i < 4 = rw p.clocks_len at l in ⊎_elim (λ a. h (clock i) a) (λ b. p.clocks_rest i b l' ∙ sym (q.clocks_rest i b l'))
    (lt_or_le i m.clocks)))

-- values that are there one by one, and 0 past them
pick : (l : List ℕ) (n i : ℕ) → length l ≤ i → i < n → get_or (list_below (λ k. get_or l k 0) n) i 0 ≡ 0
pick l n i p q = get_d_list 0 (λ k. get_or l k 0) n i q ∙ get_or-eq_default l 0 p

-- a state from its values
pub state_from : (m : Model) → WellFormed m → (l : ℕ) (vs cs : List ℕ) → length vs ≡ m.vars → length cs ≡ m.clocks
    → (s : State) × Shaped m s × (value s loc ≡ l) × ((i : ℕ) → i < m.vars → value s (counter i) ≡ get_or vs i 0)
    × ((i : ℕ) → i < m.clocks → value s (clock i) ≡ get_or cs i 0)
state_from m ok l vs cs p q = (
  record { location = l; counters = list_below (λ k. get_or vs k 0) 4; clocks = list_below (λ k. get_or cs k 0) 4 },
  record {
    counters_len = length_list _ 4;
    clocks_len = length_list _ 4;
    counters_rest = λ i a b. pick vs 4 i (rw p a) b;
    clocks_rest = λ i a b. pick cs 4 i
        (rw q a) b;
  },
  refl,
  (λ i a. get_d_list 0 (λ k. get_or vs k 0) 4 i (omega (arith, ok.vars_le))),
  λ i a. get_d_list 0 (λ k. get_or cs k 0) 4 i (omega (arith, ok.clocks_le)),
)

-- ---- tests
pub hold_iff : (s : State) (atoms : List Atom) → T (all_hold s atoms) ↔ ((k : ℕ) → k < 4 → T (atom_holds s (atom_at atoms k)))
unfolding all_hold
hold_iff s atoms = all_below_lem (λ k. atom_holds s (atom_at atoms k)) 4

pub invariant_iff : (m : Model) (s : State) → T (invariant_holds m s) ↔ ((k : ℕ) → k < 4 → T (atom_holds s (atom_at (invariant_at m s.location) k)))
unfolding invariant_holds
invariant_iff m s = hold_iff s (invariant_at m s.location)

-- ---- the initial state
module _ (m : Model) (ok : WellFormed m) where
  pub initial_is : (r : Component) → Declared m r → value (initial_state m) r ≡ initial_value m r
  unfolding initial_state
  initial_is loc p = refl
  initial_is (counter i) p = get_d_list 0 (λ k. (counter_at m k).initial) 4 i (omega (arith, ok.vars_le))
  initial_is (clock i) p = get_d_list 0 (λ k. 0) 4 i (omega (arith, ok.clocks_le))

  pub initial_lt : (r : Component) → Declared m r → initial_value m r < group_size m r
  initial_lt loc p = ok.initial_ok
  initial_lt (counter i) p = omega (arith, ok.start_ok i p)
  initial_lt (clock i) p = omega arith

  pub shaped_initial : Shaped m (initial_state m)
  unfolding initial_state
  shaped_initial = record {
    counters_len = length_list _ 4;
    clocks_len = length_list _ 4;
    counters_rest = λ i p l. get_d_list 0 (λ k. (counter_at m k).initial) 4 i l ∙ ok.start_rest i p l;
    clocks_rest = λ i p l. get_d_list 0 (λ k. 0) 4 i l;
  }

  pub range_initial : InRange m (initial_state m)
  range_initial r p = rw (initial_is r p) (initial_lt r p)

-- ---- delays
module _ (m : Model) (ok : WellFormed m) (d : ℕ) (s : State) (q : Shaped m s) where
  shaped_delayed : Shaped m (delayed m.clocks (ceiling m) d s)
  unfolding delayed
  shaped_delayed = record {
    counters_len = q.counters_len;
    clocks_len = length_list _ 4;
    counters_rest = q.counters_rest;
    clocks_rest =
        λ i p l. get_d_list 0 (delayed_clock m.clocks (ceiling m) d s) 4 i l ∙ cond_F (ltb i m.clocks) (min (get_or s.clocks i 0 + d) (ceiling m))
        (get_or s.clocks i 0) (not_T (ltb i m.clocks) (λ t. omega (arith, ltb→lt i m.clocks t))) ∙ q.clocks_rest i p l;
  }

  value_delayed : (r : Component) → Declared m r → value (delayed m.clocks (ceiling m) d s) r ≡ delayed_value m d r (value s r)
  unfolding delayed
  value_delayed loc p = refl
  value_delayed (counter i) p = refl
  value_delayed (clock i) p =
      get_d_list 0 (delayed_clock m.clocks (ceiling m) d s) 4 i (omega (arith, ok.clocks_le))
      ∙ cond_T (ltb i m.clocks) (min (get_or s.clocks i 0 + d) (ceiling m)) (get_or s.clocks i 0) (lt→ltb i m.clocks p)

pub delayed_lt : (m : Model) (d : ℕ) (r : Component) (v : ℕ) → v < group_size m r → delayed_value m d r v < group_size m r
delayed_lt m d loc v p = p
delayed_lt m d (counter i) v p = p
delayed_lt m d (clock i) v p = omega arith

pub delayed_zero : (m : Model) (r : Component) (v : ℕ) → v < group_size m r → delayed_value m 0 r v ≡ v
delayed_zero m loc v p = refl
delayed_zero m (counter i) v p = refl
delayed_zero m (clock i) v p = omega arith

-- the state after a delay, place by place
pub record DelayedTo (m : Model) (d : ℕ) (s t : State) : Type 0 where
  pub shape : Shaped m t
  pub values : (r : Component) → Declared m r → value t r ≡ delayed_value m d r (value s r)
  pub allowed : T (invariant_holds m t)

module _ (m : Model) (ok : WellFormed m) (s t : State) (q : Shaped m s) where
  delay_iff : (d : ℕ) → (delay_step m (ceiling m) d s ≡ Some t) ↔ DelayedTo m d s t
  unfolding delay_step
  delay_iff d = (to, of)
    where
      D : State
      D = delayed m.clocks (ceiling m) d s

      to : only_if (invariant_holds m D) D ≡ Some t → DelayedTo m d s t
      to h =
          let g = (only_if_lem (invariant_holds m D) D t).0 h in
          record {
            shape = subst (λ (x : State). Shaped m x) g.1 (shaped_delayed m ok d s q);
            values = λ c p. sym (ap (λ (x : State). value x c) g.1) ∙ value_delayed m ok d s q c p;
            allowed = subst (λ (x : State). T (invariant_holds m x)) g.1 g.0;
          }

      of : DelayedTo m d s t → only_if (invariant_holds m D) D ≡ Some t
      of h =
          let e : D ≡ t = state_ext m (shaped_delayed m ok d s q) h.shape (λ c p. value_delayed m ok d s q c p ∙ sym (h.values c p)) in
          (only_if_lem (invariant_holds m D) D t).1 (subst (λ (x : State). T (invariant_holds m x)) (sym e) h.allowed, e)

  pub step_delay : (b : ℕ) → b < ceiling m + 1 → (step m s b ≡ Some t) ↔ DelayedTo m b s t
  unfolding step
  step_delay b l = rw (le-leb b (ceiling m) (omega arith)) (delay_iff b)

-- ---- edges
-- the state after an edge, place by place, where `read` says what the update of counter i reads of counter w
pub record EdgeBy (read : ℕ → ℕ → ℕ) (m : Model) (e : Edge) (s t : State) : Type 0 where
  pub shape : Shaped m t
  pub leaves : s.location ≡ e.source
  pub guard : (k : ℕ) → k < 4 → T (atom_holds s (atom_at e.guard k))
  pub sets : (i : ℕ) → i < m.vars → new_counter (read i) (counter_at m i).greatest (value s (counter i)) (update_at e i) ≡ Some (value t (counter i))
  pub resets : (i : ℕ) → i < m.clocks → new_clock (λ w. value s (clock w)) (value s (clock i)) (reset_at e i) ≡ value t (clock i)
  pub lands : t.location ≡ e.target
  pub allowed : T (invariant_holds m t)

-- a source set earlier is read after its update
abbrev pub EdgeTo : Model → Edge → State → State → Type 0
EdgeTo m e s t = EdgeBy (read_by e s t) m e s t

allowed_iff :
    (m : Model) (e : Edge) (s : State) (vs : List ℕ) → T (edge_allowed m e s vs)
    ↔ ((s.location ≡ e.source) × ((k : ℕ) → k < 4 → T (atom_holds s (atom_at e.guard k))) × T (invariant_holds m (after_edge e s vs)))
unfolding edge_allowed
allowed_iff m e s vs =
    let a = eqb s.location e.source in
    let b = all_hold s e.guard in
    let d = invariant_holds m (after_edge e s vs) in (
      (λ h. let x = (and_T (a && b) d).0 h in
          let z = (and_T a b).0 x.0 in
          ((eq_T s.location e.source).0 z.0, (hold_iff s e.guard).0 z.1, x.1)),
      λ h. (and_T (a && b) d).1 ((and_T a b).1 ((eq_T s.location e.source).1 h.0, (hold_iff s e.guard).1 h.1), h.2),
    )

-- ---- the counters
module _ (m : Model) (ok : WellFormed m) (e : Edge) (eo : WellFormedEdge m e) (s t : State) (q : Shaped m s) where
  abbrev order_ok : Ordered e
  order_ok = eo.order_ok

  -- counter by counter, what an update reads said by places
  abbrev Sets : ℕ → Type 0
  Sets i = new_counter (read_by e s t i) (counter_at m i).greatest (value s (counter i)) (update_at e i) ≡ Some (value t (counter i))

  keep_new : (f : ℕ → ℕ) (greatest own : ℕ) (u : Update) → T (is_keep u) → new_counter f greatest own u ≡ Some own
  keep_new f greatest own Keep h = refl
  keep_new f greatest own (Constant c) h = absurd h
  keep_new f greatest own (Sum w z) h = absurd h

  -- the counters that the listed updates leave
  updates_to : Updates e order_ok m.counters (listed e) s.counters t.counters → (i : ℕ) → i < m.vars → Sets i
  unfolding set_earlier
  updates_to h i l = ⊎_elim
      (λ k. keep_new (read_by e s t i) (counter_at m i).greatest (value s (counter i)) (update_at e i) k ∙ ap Some (sym (h.kept i (kept_place e order_ok i k))))
      (λ k. let p = set_place e order_ok i (omega (arith, ok.vars_le)) k in
      let here = place_at e.order i (omega (arith, p, listed_le e)) in
      subst (λ (x : ℕ). new_counter (read_at_place e order_ok m.counters (place_in e.order i) s.counters t.counters) (counter_at m x).greatest
      (value s (counter x)) (update_at e x) ≡ Some (value t (counter x))) here (h.sets (place_in e.order i) p))
      (split (is_keep (update_at e i)))

  updates_of : Shaped m t → ((i : ℕ) → i < m.vars → Sets i) → Updates e order_ok m.counters (listed e) s.counters t.counters
  unfolding set_earlier
  updates_of q' h = record { long = q'.counters_len ∙ sym q.counters_len; kept = rest; sets = by_place }
    where
      rest : (i : ℕ) → listed e ≤ place_in e.order i → value t (counter i) ≡ value s (counter i)
      rest i p = ⊎_elim
          (λ l. some_inj (sym (h i l) ∙ keep_new (read_by e s t i) (counter_at m i).greatest (value s (counter i)) (update_at e i)
          (keep i (omega (arith, ok.vars_le)) p)))
          (λ l. ⊎_elim (λ k. q'.counters_rest i l k ∙ sym (q.counters_rest i l k))
          (λ k. get_or-eq_default t.counters 0 (rw q'.counters_len k) ∙ sym (get_or-eq_default s.counters 0 (rw q.counters_len k)))
          (lt_or_le i 4))
          (lt_or_le i m.vars)
        where
          keep : (i : ℕ) → i < 4 → listed e ≤ place_in e.order i → T (is_keep (update_at e i))
          keep i l p = ⊎_elim (λ k. k) (λ k. absurd (omega (arith, p, set_place e order_ok i l k))) (split (is_keep (update_at e i)))

      by_place : (k : ℕ) → k < listed e →
          let i = counter_in e.order k in
          new_counter (read_at_place e order_ok m.counters k s.counters t.counters) (counter_at m i).greatest (value s (counter i)) (update_at e i)
          ≡ Some (value t (counter i))
      by_place k l =
          let i = counter_in e.order k in
          subst (λ (p : ℕ). new_counter (read_at_place e order_ok m.counters p s.counters t.counters) (counter_at m i).greatest (value s (counter i))
          (update_at e i) ≡ Some (value t (counter i))) (order_ok.slot_first k l) (h i (declared i (order_ok.slot_lt k l) (order_ok.slot_set k l)))
        where
          declared : (i : ℕ) → i < 4 → T (not (is_keep (update_at e i))) → i < m.vars
          declared i l k = ⊎_elim (λ p. p) (λ p. absurd (rw (eo.sets_rest i p l) at k)) (lt_or_le i m.vars)

-- ---- the whole edge
clock_after : (e : Edge) (s : State) (vs : List ℕ) (i : ℕ) → i < 4 → value (after_edge e s vs) (clock i) ≡ next_clock e s i
unfolding after_edge
clock_after e s vs i l = get_d_list 0 (next_clock e s) 4 i l

-- a clock's new value comes from the values before the edge
pub clock_stepped : (m : Model) (e : Edge) (s t : State) → edge_step m e s ≡ Some t → (i : ℕ) → i < 4 → value t (clock i) ≡ next_clock e s i
unfolding edge_step
clock_stepped m e s t h i l =
    let n = (then_iff (updated m.counters e s.counters (listed e)) (λ vs. only_if (edge_allowed m e s vs) (after_edge e s vs)) t).0 h in
    let g = (only_if_lem (edge_allowed m e s n.0) (after_edge e s n.0) t).0 n.2 in
    sym (ap (λ (x : State). value x (clock i)) g.1) ∙ clock_after e s n.0 i l

module _ (m : Model) (ok : WellFormed m) (e : Edge) (eo : WellFormedEdge m e) (s : State) (q : Shaped m s) where
  held : (i : ℕ) → m.clocks ≤ i → i < 4 → next_clock e s i ≡ 0
  held i p l = ap (λ (u : ClockUpdate). new_clock (λ w. value s (clock w)) (value s (clock i)) u) (eo.resets_rest i p l) ∙ q.clocks_rest i p l

  counters_after : (vs : List ℕ) → (after_edge e s vs).counters ≡ vs
  unfolding after_edge
  counters_after vs = refl

  location_after : (vs : List ℕ) → (after_edge e s vs).location ≡ e.target
  unfolding after_edge
  location_after vs = refl

  clocks_after : (vs : List ℕ) → length (after_edge e s vs).clocks ≡ 4
  unfolding after_edge
  clocks_after vs = length_list _ 4

  after_shape : (vs : List ℕ) → Updates e eo.order_ok m.counters (listed e) s.counters vs → Shaped m (after_edge e s vs)
  after_shape vs h = record {
    counters_len = ap length (counters_after vs) ∙ h.long ∙ q.counters_len;
    clocks_len = clocks_after vs;
    counters_rest = λ i p l. ap (λ (v : List ℕ). get_or v i 0) (counters_after vs) ∙ h.kept i (kept_place e eo.order_ok i (rw (eo.sets_rest i p l) tt))
        ∙ q.counters_rest i p l;
    clocks_rest = λ i p l. clock_after e s vs i l ∙ held i p l;
  }

  pub edge_iff : (t : State) → (edge_step m e s ≡ Some t) ↔ EdgeTo m e s t
  unfolding edge_step
  edge_iff t = (to, of)
    where
      after : List ℕ → Option State
      after vs = only_if (edge_allowed m e s vs) (after_edge e s vs)

      to : and_then (updated m.counters e s.counters (listed e)) after ≡ Some t → EdgeTo m e s t
      to h =
          let n = (then_iff (updated m.counters e s.counters (listed e)) after t).0 h in
          let vs = n.0 in
          let g = (only_if_lem (edge_allowed m e s vs) (after_edge e s vs) t).0 n.2 in
          let a = (allowed_iff m e s vs).0 g.0 in
          let u = updated_to e eo.order_ok m.counters (listed e) s.counters vs (omega arith) q.counters_len n.1 in
          let is : vs ≡ t.counters = sym (counters_after vs) ∙ ap (λ (x : State). x.counters) g.1 in
          record {
            shape = subst (λ (x : State). Shaped m x) g.1 (after_shape vs u);
            leaves = a.0;
            guard = a.1;
            sets = updates_to m ok e eo s t q (subst (Updates e eo.order_ok m.counters (listed e) s.counters) is u);
            resets = λ i l. sym (clock_after e s vs i (omega (arith, ok.clocks_le))) ∙ ap (λ (x : State). value x (clock i)) g.1;
            lands = sym (ap (λ (x : State). x.location) g.1) ∙ location_after vs;
            allowed = subst (λ (x : State). T (invariant_holds m x)) g.1 a.2;
          }

      of : EdgeTo m e s t → and_then (updated m.counters e s.counters (listed e)) after ≡ Some t
      of h =
          let vs = t.counters in
          let u = updates_of m ok e eo s t q h.shape h.sets in
          let eq : after_edge e s vs ≡ t = state_ext m (after_shape vs u) h.shape (elim [
            | loc ↦ λ p. location_after vs ∙ sym h.lands
            | counter i ↦ λ p. ap (λ (v : List ℕ). get_or v i 0) (counters_after vs)
            | clock i ↦ λ p. clock_after e s vs i (omega (arith, ok.clocks_le)) ∙ h.resets i p
          ]) in
          (then_iff (updated m.counters e s.counters (listed e)) after t).1 (
            vs,
            updated_of e eo.order_ok m.counters (listed e) s.counters vs (omega arith) q.counters_len u,
            (only_if_lem (edge_allowed m e s vs) (after_edge e s vs) t).1
                ((allowed_iff m e s vs).1 (h.leaves, h.guard, subst (λ (x : State). T (invariant_holds m x)) (sym eq) h.allowed), eq),
          )

-- ---- an edge with no source set earlier
-- no source is set earlier than the counter that reads it
abbrev pub NoneEarlier : Model → Edge → Type 0
NoneEarlier m e = (i w : ℕ) (z : ℤ) → i < m.vars → update_at e i ≡ Sum w z → set_earlier e.order w i ≡ false

-- it steps as if all updates read the values from before the edge
pub no_earlier_steps : (m : Model) → WellFormed m → (e : Edge) → WellFormedEdge m e → (s t : State) → Shaped m s → NoneEarlier m e
    → (edge_step m e s ≡ Some t) ↔ EdgeBy (λ i w. value s (counter w)) m e s t
no_earlier_steps m ok e eo s t q free = (
  λ h. let g = (edge_iff m ok e eo s q t).0 h in
      record {
        shape = g.shape;
        leaves = g.leaves;
        guard = g.guard;
        sets = λ i l. sym (same i l (update_at e i) refl) ∙ g.sets i l;
        resets = g.resets;
        lands = g.lands;
        allowed = g.allowed;
      },
  λ g. (edge_iff m ok e eo s q t).1 (record {
    shape = g.shape;
    leaves = g.leaves;
    guard = g.guard;
    sets = λ i l. same i l (update_at e i) refl ∙ g.sets i l;
    resets = g.resets;
    lands = g.lands;
    allowed = g.allowed;
  }),
)
  where
    same : (i : ℕ) → i < m.vars → (u : Update) → update_at e i ≡ u
        → new_counter (read_by e s t i) (counter_at m i).greatest (value s (counter i)) u
        ≡ new_counter (λ w. value s (counter w)) (counter_at m i).greatest (value s (counter i)) u
    same i l Keep h = refl
    same i l (Constant c) h = refl
    same i l (Sum w z) h =
        ap (λ (b : Bool). shifted z (counter_at m i).greatest (cond b (value t (counter w)) (value s (counter w)))) (free i w z l h)

module _ (m : Model) (ok : WellFormed m) (s t : State) (q : Shaped m s) where
  pub step_edge : (e : ℕ) → e < m.used → (step m s (ceiling m + 1 + e) ≡ Some t) ↔ EdgeTo m (edge_at m e) s t
  unfolding step choices
  step_edge e l =
      rw (lt-leb (ceiling m + 1 + e) (ceiling m) (omega arith), lt-ltb (ceiling m + 1 + e) (ceiling m + 1 + m.used) (omega arith), add-sub_cancel_left)
      (edge_iff m ok (edge_at m e) (ok.edge_ok e l) s q t)

-- ---- step bytes
-- a byte up to the ceiling is a delay
pub step_is_delay : (m : Model) (s : State) (b : ℕ) → b ≤ ceiling m → step m s b ≡ delay_step m (ceiling m) b s
unfolding step
step_is_delay m s b l = rw (le-leb b (ceiling m) l)

-- a byte above it is an edge
pub step_is_edge : (m : Model) (s : State) (b : ℕ) → ceiling m < b → b - (ceiling m + 1) < m.used → step m s b ≡ edge_step m (edge_at m (b - (ceiling m + 1))) s
unfolding step choices
step_is_edge m s b l u = rw (lt-leb b (ceiling m) l, lt-ltb b (ceiling m + 1 + m.used) (omega arith))

-- a byte of H or more is no choice
pub step_is_none : (m : Model) (s : State) (b : ℕ) → choices m ≤ b → step m s b ≡ None
unfolding step choices
step_is_none m s b l = rw (lt-leb b (ceiling m) (omega arith), le-ltb b (ceiling m + 1 + m.used) l)

-- ---- choices
pub step_lt : (m : Model) (s t : State) (b : ℕ) → step m s b ≡ Some t → b < choices m
unfolding step
step_lt m s t b h = go (leb b (ceiling m)) (ltb b (choices m)) refl refl h
  where
    go : (x y : Bool) → leb b (ceiling m) ≡ x → ltb b (choices m) ≡ y
        → cond x (delay_step m (ceiling m) b s) (cond y (edge_step m (edge_at m (b - (ceiling m + 1))) s) None) ≡ Some t → b < choices m
    go true y p q h = unfold choices in omega (arith, leb→le b (ceiling m) (subst T (sym p) tt))
    go false true p q h = ltb→lt b (choices m) (subst T (sym q) tt)
    go false false p q h = absurd (some_none h)

pub delay_or_edge : (m : Model) (b : ℕ) → b < choices m → (b < ceiling m + 1) ⊎ ((e : ℕ) × (e < m.used) × (b ≡ ceiling m + 1 + e))
unfolding choices
delay_or_edge m b h = ⊎_elim (λ l. inl l) (λ g. inr (b - (ceiling m + 1), omega arith, omega arith)) (lt_or_le b (ceiling m + 1))

-- ---- what a step keeps
fit_lt : (g x u : ℕ) → in_range g x ≡ Some u → u < g + 1
fit_lt g x u e = let h = (only_if_lem (leb x g) x u).0 e in omega (arith, leb→le x g h.0, h.1)

moved_lt : (v : ℕ) (b : Bool) (n g u : ℕ) → moved v b n g ≡ Some u → u < g + 1
moved_lt v false n g u h = fit_lt g (v + n) u h
moved_lt v true n g u h = fit_lt g (v - n) u ((cond_some (leb n v) (in_range g (v - n)) u).0 h).1

-- the new values are in their ranges
pub in_range_lt : (g x u : ℕ) → in_range g x ≡ Some u → u < g + 1
in_range_lt = fit_lt

pub shifted_lt : (z : ℤ) (g v u : ℕ) → shifted z g v ≡ Some u → u < g + 1
shifted_lt z g v u h = moved_lt v (is_negative z) (nat_abs z) g u h

new_counter_lt : (look : ℕ → ℕ) (g x : ℕ) (u : Update) (y : ℕ) → x < g + 1 → new_counter look g x u ≡ Some y → y < g + 1
new_counter_lt look g x Keep y p h = rw (← some_inj h) p
new_counter_lt look g x (Constant n) y p h = fit_lt g n y h
new_counter_lt look g x (Sum w z) y p h = shifted_lt z g (look w) y h

new_clock_lt : (m : Model) (look : ℕ → ℕ) (x : ℕ) (u : ClockUpdate) (n : ℕ) → x < n → 0 < n → ((w : ℕ) → w < m.clocks → look w < n) → DeclaredReset m u
    → new_clock look x u < n
new_clock_lt m look x Unchanged n p z f d = p
new_clock_lt m look x Reset n p z f d = z
new_clock_lt m look x (Copy w) n p z f d = f w d

module _ (m : Model) (ok : WellFormed m) (s t : State) (b : ℕ) (q : Shaped m s) (h : step m s b ≡ Some t) where
  kind : DelayedTo m b s t ⊎ ((e : ℕ) × (e < m.used) × EdgeTo m (edge_at m e) s t)
  kind = go (delay_or_edge m b (step_lt m s t b h))
    where
      go : (b < ceiling m + 1) ⊎ ((e : ℕ) × (e < m.used) × (b ≡ ceiling m + 1 + e)) → DelayedTo m b s t ⊎ ((e : ℕ) × (e < m.used) × EdgeTo m (edge_at m e) s t)
      go (inl l) = inl ((step_delay m ok s t q b l).0 h)
      go (inr (e, l, p)) = inr (e, l, (step_edge m ok s t q e l).0 (rw p at h))

  pub shaped_step : Shaped m t
  shaped_step = ⊎_elim (λ w. w.shape) (λ x. x.2.shape) kind

  pub step_invariant : T (invariant_holds m t)
  step_invariant = ⊎_elim (λ w. w.allowed) (λ x. x.2.allowed) kind

  pub range_step : InRange m s → InRange m t
  range_step g = go kind
    where
      go : DelayedTo m b s t ⊎ ((e : ℕ) × (e < m.used) × EdgeTo m (edge_at m e) s t) → (r : Component) → Declared m r → value t r < group_size m r
      go (inl w) r k = rw (w.values r k) (delayed_lt m b r (value s r) (g r k))
      go (inr (e, l, k)) loc i = rw k.lands (ok.edge_ok e l).target_ok
      go (inr (e, l, k)) (counter i) j =
          new_counter_lt (read_by (edge_at m e) s t i) (counter_at m i).greatest (value s (counter i)) (update_at (edge_at m e) i) (value t (counter i))
          (g (counter i) j) (k.sets i j)
      go (inr (e, l, k)) (clock i) j =
          rw (← k.resets i j)
          (new_clock_lt m (λ w. value s (clock w)) (value s (clock i)) (reset_at (edge_at m e) i) (ceiling m + 1) (g (clock i) j) (omega arith)
          (λ w l. g (clock w) l) ((ok.edge_ok e l).resets_ok i j))

-- delay 0 changes nothing
pub step_zero : (m : Model) (ok : WellFormed m) (s : State) → Shaped m s → InRange m s → T (invariant_holds m s) → step m s 0 ≡ Some s
step_zero m ok s p q i =
    (step_delay m ok s s p 0 (omega arith)).1 (record { shape = p; values = λ r h. sym (delayed_zero m r (value s r) (q r h)); allowed = i })

-- ---- a given state (refusal 10): four slots and the test give all that the laws above ask
pub state_formed_lem :
    (m : Model) (ok : WellFormed m) (s : State) → length s.counters ≡ 4 → length s.clocks ≡ 4 → T (state_formed m s) → Shaped m s × InRange m s
unfolding state_formed counters_in_group clocks_in_group
state_formed_lem m ok s p q h =
    let x = (and_T (ltb s.location m.locations && all_below C 4) (all_below K 4)).0 h in
    let y = (and_T (ltb s.location m.locations) (all_below C 4)).0 x.0 in
    let c = (all_below_lem C 4).0 y.1 in
    let k = (all_below_lem K 4).0 x.1 in (
      record {
        counters_len = p;
        clocks_len = q;
        counters_rest = λ i b l. outside m.vars (counter_at m i).greatest (value s (counter i)) i (c i l) b;
        clocks_rest = λ i b l. outside m.clocks (ceiling m) (value s (clock i)) i (k i l) b;
      },
      elim [
        | loc ↦ λ _. ltb→lt s.location m.locations y.0
        | counter i ↦ λ l. inside m.vars (counter_at m i).greatest (value s (counter i)) i (c i (omega (arith, ok.vars_le))) l
        | clock i ↦ λ l. inside m.clocks (ceiling m) (value s (clock i)) i (k i (omega (arith, ok.clocks_le))) l
      ],
    )
  where
    C : ℕ → Bool
    C i = slot_in_group m.vars (counter_at m i).greatest (value s (counter i)) i

    K : ℕ → Bool
    K i = slot_in_group m.clocks (ceiling m) (value s (clock i)) i

    inside : (declared greatest v i : ℕ) → T (slot_in_group declared greatest v i) → i < declared → v < greatest + 1
    inside declared greatest v i h l = omega (arith, leb→le v greatest (yes i declared (leb v greatest) (eqb v 0) h l))

    outside : (declared greatest v i : ℕ) → T (slot_in_group declared greatest v i) → declared ≤ i → v ≡ 0
    outside declared greatest v i h l = (eq_T v 0).0 (no i declared (leb v greatest) (eqb v 0) h l)
