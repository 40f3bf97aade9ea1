-- Two edges joined into one, and delays: the composed model steps exactly as its two parts do.
use mathlib.Core.Path.{◌≡◌, sym, ap, subst, ◌∙◌}
use mathlib.Core.Logic.{◌↔◌, ◌⊎◌, inl, inr, ⊎_elim}
use mathlib.Core.Bool.{cond}
use mathlib.Core.List.{List}
use Rattle.std.specs.Prelude.{Some}
use Prim.Native.Nat.{ℕ, ◌+◌, ◌-◌, ◌*◌, ◌≤◌, ◌<◌, min, max}
use native.Mathlib.Omega.{arith}
use native.Mathlib.Nat.{mul-le-mul}
use lib.Dec.{T, ltb, lt→ltb}
use lib.ListN.{get_or}
use Rattle.model.specs.declared.Edge.{Edge}
use Rattle.model.specs.declared.Model.{Model}
use Rattle.model.specs.declared.State.{State}
use Rattle.model.specs.Indexed.{list_below}
use Rattle.model.specs.Record.{update_at, counter_at, invariant_at}
use Rattle.model.specs.Automaton.{ceiling, value, Component, loc, counter, clock, Declared, delayed_value, invariant_holds, new_counter, next_clock, read_by}
use Rattle.model.specs.Automaton.{edge_step, step}
use Rattle.model.proofs.IndexedLaws.{lt_or_le, cond_T, cond_F, not_lt, length_list, get_d_list}
use Rattle.model.proofs.FormLaws.{WellFormedEdge, WellFormed}
use Rattle.model.proofs.StepLaws.{Shaped, state_from, invariant_iff, DelayedTo, step_delay, EdgeTo, edge_iff}
use Rattle.compose.specs.Joined.{joined_location, atom_count, joined_atoms, joined_edge}
use Rattle.compose.specs.Composed.{composed}
use Rattle.product.specs.Joint.{part_at, Parts, StepsTogether}
use Rattle.model.proofs.CutLaws.{cut_delayed}
use Rattle.product.proofs.JoinedForm.{joined_source, joined_target, joined_guard}
use Rattle.product.proofs.ComposedForm.{composed_clocks, composed_vars}
use Rattle.product.proofs.PartLaws.{Sees, part_location, part_sees, sees_part, part_is, PartAtoms, AllHold, joined_hold, EdgeIn, update_seen, reset_seen}

-- ---- pairs of locations
-- a location is the pair of one location each
pub pair_unique : (n i j k l : ℕ) → j < n → l < n → joined_location n i j ≡ joined_location n k l → (i ≡ k) × (j ≡ l)
pair_unique n i j k l p q e = ⊎_elim (λ u. absurd (apart i j k l p u e))
    (λ u. ⊎_elim (λ v. absurd (apart k l i j q v (sym e))) (λ v. let w : i ≡ k = omega arith in (w, second w)) (lt_or_le k i)) (lt_or_le i k)
  where
    apart : (i j k l : ℕ) → j < n → i < k → i * n + j ≡ k * n + l → ⊥
    apart i j k l p u e =
        let m : (i + 1) * n ≤ k * n = mul-le-mul more same in
        let d : (i + 1) * n ≡ i * n + n = omega arith in
        omega arith
      where
        more : i + 1 ≤ k
        more = omega arith

        same : n ≤ n
        same = omega arith

    second : i ≡ k → j ≡ l
    second w = let z : i * n ≡ k * n = ap (λ (x : ℕ). x * n) w in omega arith

-- ---- two models and their composed model
-- what is known of them
pub record Composable (a b : Model) : Type 0 where
  pub first_ok : WellFormed a
  pub second_ok : WellFormed b
  pub joint_ok : WellFormed (composed a b)
  pub ceiling_is : ceiling (composed a b) ≡ max (ceiling a) (ceiling b)
  pub first_counter : (i : ℕ) → i < a.vars → counter_at (composed a b) i ≡ counter_at a i
  pub second_counter : (i : ℕ) → i < b.vars → counter_at (composed a b) (a.vars + i) ≡ counter_at b i
  pub invariant_is : (i j : ℕ) → i < a.locations → j < b.locations
      → invariant_at (composed a b) (joined_location b.locations i j) ≡ joined_atoms a.clocks a.vars (invariant_at a i) (invariant_at b j)
  pub first_invariant : (i : ℕ) → i < a.locations → PartAtoms a (invariant_at a i)
  pub second_invariant : (j : ℕ) → j < b.locations → PartAtoms b (invariant_at b j)
  pub invariant_four : (i j : ℕ) → i < a.locations → j < b.locations → atom_count (invariant_at a i) + atom_count (invariant_at b j) ≤ 4

-- an edge of each, and the two as one edge
pub record Joinable (a b : Model) (label : ℕ) (e f : Edge) : Type 0 where
  pub first_ok : WellFormedEdge a e
  pub second_ok : WellFormedEdge b f
  pub joint_ok : WellFormedEdge (composed a b) (joined_edge a.clocks a.vars b.locations label e f)
  pub first_guard : PartAtoms a e.guard
  pub second_guard : PartAtoms b f.guard
  pub guard_four : atom_count e.guard + atom_count f.guard ≤ 4
  pub first_in : EdgeIn a 0 0 e (joined_edge a.clocks a.vars b.locations label e f)
  pub second_in : EdgeIn b a.clocks a.vars f (joined_edge a.clocks a.vars b.locations label e f)

-- what each part sees
pub record SeenBy (a b : Model) (s x y : State) : Type 0 where
  pub location : s.location ≡ joined_location b.locations x.location y.location
  pub first_location : x.location < a.locations
  pub second_location : y.location < b.locations
  pub first : Sees a 0 0 s x
  pub second : Sees b a.clocks a.vars s y

module _ (a b : Model) (ok : Composable a b) where
  abbrev c : Model
  c = composed a b

  pub parts_seen : (s x y : State) → Parts a b s x y → SeenBy a b s x y
  parts_seen s x y p = record {
    location = p.location;
    first_location = p.first_location;
    second_location = p.second_location;
    first = part_is a ok.first_ok 0 0 s x p.first;
    second = part_is b ok.second_ok a.clocks a.vars s y p.second;
  }

  pub seen_parts : (s x y : State) → SeenBy a b s x y → Parts a b s x y
  seen_parts s x y p = record {
    location = p.location;
    first_location = p.first_location;
    second_location = p.second_location;
    first = sees_part a ok.first_ok 0 0 s x p.first;
    second = sees_part b ok.second_ok a.clocks a.vars s y p.second;
  }

  -- what the parts see of t, standing in i and j
  pub seen_at : (t : State) (i j : ℕ) → t.location ≡ joined_location b.locations i j → i < a.locations → j < b.locations
      → SeenBy a b t (part_at a 0 0 i t) (part_at b a.clocks a.vars j t)
  seen_at t i j e p q = record {
    location = e ∙ sym (λ k. joined_location b.locations (part_location a ok.first_ok 0 0 i t k)
        (part_location b ok.second_ok a.clocks a.vars j t k));
    first_location = rw (part_location a ok.first_ok 0 0 i t) p;
    second_location = rw (part_location b ok.second_ok a.clocks a.vars j t) q;
    first = part_sees a ok.first_ok 0 0 i t;
    second = part_sees b ok.second_ok a.clocks a.vars j t;
  }

  -- the joint invariant holds exactly if both parts' do
  pub invariant_split : (s x y : State) → SeenBy a b s x y → T (invariant_holds c s) ↔ (T (invariant_holds a x) × T (invariant_holds b y))
  invariant_split s x y p = (
    λ h. let g = joined.0 (subst (AllHold s) same ((invariant_iff c s).0 h)) in ((invariant_iff a x).1 g.0, (invariant_iff b y).1 g.1),
    λ h. (invariant_iff c s).1 (subst (AllHold s) (sym same) (joined.1 ((invariant_iff a x).0 h.0, (invariant_iff b y).0 h.1))),
  )
    where
      i : ℕ
      i = x.location

      j : ℕ
      j = y.location

      same : invariant_at c s.location ≡ joined_atoms a.clocks a.vars (invariant_at a i) (invariant_at b j)
      same = ap (invariant_at c) p.location ∙ ok.invariant_is i j p.first_location p.second_location

      joined : AllHold s (joined_atoms a.clocks a.vars (invariant_at a i) (invariant_at b j)) ↔ (AllHold x (invariant_at a i) × AllHold y (invariant_at b j))
      joined = joined_hold a b s x y p.first p.second (invariant_at a i) (invariant_at b j) (ok.first_invariant i p.first_location)
          (ok.second_invariant j p.second_location) (ok.invariant_four i j p.first_location p.second_location)

-- ---- delays
-- one part of a joint delay, where the part's ceiling is no higher
module _ (m : Model) (k v : ℕ) (top d : ℕ) (low : ceiling m ≤ top) (s x t z : State) (p : Sees m k v s x) where
  -- the delay leaves the part's counters and lets its clocks run
  abbrev Runs : Type 0
  Runs =
      ((i : ℕ) → i < m.vars → value t (counter (v + i)) ≡ value s (counter (v + i)))
      × ((i : ℕ) → i < m.clocks → value t (clock (k + i)) ≡ min (value s (clock (k + i)) + d) top)

  clock_runs : Runs → (i : ℕ) → i < m.clocks → min (value t (clock (k + i))) (ceiling m) ≡ min (value x (clock i) + min d (ceiling m)) (ceiling m)
  clock_runs h i l =
      ap (λ (n : ℕ). min n (ceiling m)) (h.1 i l) ∙ cut_delayed (value s (clock (k + i))) d (ceiling m) top low
      ∙ ap (λ (n : ℕ). min (n + min d (ceiling m)) (ceiling m)) (sym (p.clocks i l))

  part_delays : Runs → Sees m k v t z → z.location ≡ x.location → T (invariant_holds m z) → DelayedTo m (min d (ceiling m)) x z
  part_delays h r e i = record {
    shape = r.shape;
    values = elim [
      | loc ↦ λ l. e
      | counter i ↦ λ l. r.counters i l ∙ h.0 i l ∙ sym (p.counters i l)
      | clock i ↦ λ l. r.clocks i l ∙ clock_runs h i l
    ];
    allowed = i;
  }

  delays_seen : Runs → DelayedTo m (min d (ceiling m)) x z → Sees m k v t z
  delays_seen h g = record {
    shape = g.shape;
    counters = λ i l. g.values (counter i) l ∙ p.counters i l ∙ sym (h.0 i l);
    clocks = λ i l. g.values (clock i) l ∙ sym (clock_runs h i l);
  }

module _ (a b : Model) (ok : Composable a b) (d : ℕ) (s x y : State) (q : Shaped (composed a b) s) (p : SeenBy a b s x y) where
  first_low : ceiling a ≤ ceiling (composed a b)
  first_low = omega (arith, ok.ceiling_is)

  second_low : ceiling b ≤ ceiling (composed a b)
  second_low = omega (arith, ok.ceiling_is)

  -- each part of a joint delay
  both_run : (t : State) → ((i : ℕ) → i < (composed a b).vars → value t (counter i) ≡ value s (counter i))
      → ((i : ℕ) → i < (composed a b).clocks → value t (clock i) ≡ min (value s (clock i) + d) (ceiling (composed a b)))
      → Runs a 0 0 (ceiling (composed a b)) d first_low s x t x p.first
      × Runs b a.clocks a.vars (ceiling (composed a b)) d second_low s y t y p.second
  both_run t h g = (
    (λ i l. h (0 + i) (omega (arith, composed_vars a b)), λ i l. g (0 + i) (omega (arith, composed_clocks a b))),
    (λ i l. h (a.vars + i) (omega (arith, composed_vars a b)), λ i l. g (a.clocks + i) (omega (arith, composed_clocks a b))),
  )

  joint_delayed : (t : State) → DelayedTo (composed a b) d s t
      → (z w : State) × DelayedTo a (min d (ceiling a)) x z × DelayedTo b (min d (ceiling b)) y w × SeenBy a b t z w
  joint_delayed t h =
      let r = both_run t (λ i l. h.values (counter i) l) (λ i l. h.values (clock i) l) in
      let g = seen_at a b ok t x.location y.location (h.values loc tt ∙ p.location) p.first_location p.second_location in
      let z = part_at a 0 0 x.location t in
      let w = part_at b a.clocks a.vars y.location t in
      let i = (invariant_split a b ok t z w g).0 h.allowed in (
        z,
        w,
        part_delays a 0 0 (ceiling (composed a b)) d first_low s x t z p.first r.0 g.first (part_location a ok.first_ok 0 0 x.location t) i.0,
        part_delays b a.clocks a.vars (ceiling (composed a b)) d second_low s y t w p.second r.1 g.second
            (part_location b ok.second_ok a.clocks a.vars y.location t) i.1,
        g,
      )

  parts_delayed : (z w : State) → DelayedTo a (min d (ceiling a)) x z → DelayedTo b (min d (ceiling b)) y w
      → (t : State) × DelayedTo (composed a b) d s t × SeenBy a b t z w
  parts_delayed z w h g = (t, record { shape = n.1; values = values; allowed = (invariant_split a b ok t z w seen).1 (h.allowed, g.allowed) }, seen)
    where
      c : Model
      c = composed a b

      run : ℕ → ℕ
      run i = min (value s (clock i) + d) (ceiling c)

      vs : List ℕ
      vs = list_below (λ i. value s (counter i)) c.vars

      cs : List ℕ
      cs = list_below run c.clocks

      n : (t : State) × Shaped c t × (value t loc ≡ s.location) × ((i : ℕ) → i < c.vars → value t (counter i) ≡ get_or vs i 0)
          × ((i : ℕ) → i < c.clocks → value t (clock i) ≡ get_or cs i 0)
      n = state_from c ok.joint_ok s.location vs cs (length_list (λ i. value s (counter i)) c.vars) (length_list run c.clocks)

      t : State
      t = n.0

      counters : (i : ℕ) → i < c.vars → value t (counter i) ≡ value s (counter i)
      counters i l = n.3 i l ∙ get_d_list 0 (λ i. value s (counter i)) c.vars i l

      clocks : (i : ℕ) → i < c.clocks → value t (clock i) ≡ run i
      clocks i l = n.4 i l ∙ get_d_list 0 run c.clocks i l

      values : (r : Component) → Declared c r → value t r ≡ delayed_value c d r (value s r)
      values loc l = n.2
      values (counter i) l = counters i l
      values (clock i) l = clocks i l

      seen : SeenBy a b t z w
      seen = let r = both_run t counters clocks in record {
        location = n.2 ∙ p.location ∙ sym (λ k. joined_location b.locations (h.values loc tt k) (g.values loc tt k));
        first_location = rw (h.values loc tt) p.first_location;
        second_location = rw (g.values loc tt) p.second_location;
        first = delays_seen a 0 0 (ceiling c) d first_low s x t z p.first r.0 h;
        second = delays_seen b a.clocks a.vars (ceiling c) d second_low s y t w p.second r.1 g;
      }

  -- a delay is allowed exactly if both parts allow it, cut to their own ceilings
  pub delay_together : d ≤ ceiling (composed a b) → StepsTogether a b (step (composed a b) s d) (step a x (min d (ceiling a))) (step b y (min d (ceiling b)))
  delay_together l = record {
    parts_step = λ t h.
        let g = joint_delayed t ((step_delay (composed a b) ok.joint_ok s t q d (omega arith)).0 h) in (
          g.0,
          g.1,
          (step_delay a ok.first_ok x g.0 p.first.shape (min d (ceiling a)) (omega arith)).1 g.2,
          (step_delay b ok.second_ok y g.1 p.second.shape (min d (ceiling b)) (omega arith)).1 g.3,
          seen_parts a b ok t g.0 g.1 g.4,
        );
    joint_steps = λ z w h k.
        let g = parts_delayed z w ((step_delay a ok.first_ok x z p.first.shape (min d (ceiling a)) (omega arith)).0 h)
        ((step_delay b ok.second_ok y w p.second.shape (min d (ceiling b)) (omega arith)).0 k) in
        (g.0, (step_delay (composed a b) ok.joint_ok s g.0 q d (omega arith)).1 g.1, seen_parts a b ok g.0 z w g.2);
  }

-- ---- two edges joined
-- one part of a joint edge
module _ (m c : Model) (k v : ℕ) (e j : Edge) (we : WellFormedEdge m e) (f : EdgeIn m k v e j) (s x t z : State) (p : Sees m k v s x)
    (counters-in : (i : ℕ) → i < m.vars → v + i < c.vars) (clocks-in : (i : ℕ) → i < m.clocks → k + i < c.clocks)
    (same : (i : ℕ) → i < m.vars → counter_at c (v + i) ≡ counter_at m i) where
  part_takes : EdgeTo c j s t → Sees m k v t z → x.location ≡ e.source → AllHold x e.guard → z.location ≡ e.target → T (invariant_holds m z)
      → EdgeTo m e x z
  part_takes h r leaves guard lands allowed = record {
    shape = r.shape;
    leaves = leaves;
    guard = guard;
    sets = λ i l.
        sym (update_seen m k v e j f s x p c t z (λ w n. r.counters w n) i l (same i l) (we.sets_ok i l)) ∙ h.sets (v + i) (counters-in i l)
        ∙ ap Some (sym (r.counters i l));
    resets = λ i l.
        sym (reset_seen m k v e j f s x p i l (we.resets_ok i l)) ∙ ap (λ (n : ℕ). min n (ceiling m)) (h.resets (k + i) (clocks-in i l))
        ∙ sym (r.clocks i l);
    lands = lands;
    allowed = allowed;
  }

  -- what the part's counters become is what the joint edge makes of them
  part_sets : EdgeTo m e x z → ((w : ℕ) → w < m.vars → value z (counter w) ≡ value t (counter (v + w))) → (i : ℕ) → i < m.vars
      → new_counter (read_by j s t (v + i)) (counter_at c (v + i)).greatest (value s (counter (v + i))) (update_at j (v + i)) ≡ Some (value t (counter (v + i)))
  part_sets h r i l = update_seen m k v e j f s x p c t z r i l (same i l) (we.sets_ok i l) ∙ h.sets i l ∙ ap Some (r i l)

  -- the part sees its new state
  takes_seen : EdgeTo m e x z → ((w : ℕ) → w < m.vars → value z (counter w) ≡ value t (counter (v + w)))
      → ((i : ℕ) → i < m.clocks → value t (clock (k + i)) ≡ next_clock j s (k + i)) → Sees m k v t z
  takes_seen h r n = record {
    shape = h.shape;
    counters = r;
    clocks = λ i l.
        sym (h.resets i l) ∙ sym (reset_seen m k v e j f s x p i l (we.resets_ok i l)) ∙ ap (λ (u : ℕ). min u (ceiling m)) (sym (n i l));
  }

module _ (a b : Model) (ok : Composable a b) (label : ℕ) (e f : Edge) (r : Joinable a b label e f) (s x y : State) (q : Shaped (composed a b) s)
    (p : SeenBy a b s x y) where
  abbrev joint : Edge
  joint = joined_edge a.clocks a.vars b.locations label e f

  abbrev counters_first : (i : ℕ) → i < a.vars → 0 + i < (composed a b).vars
  counters_first i l = omega (arith, composed_vars a b)

  abbrev counters_second : (i : ℕ) → i < b.vars → a.vars + i < (composed a b).vars
  counters_second i l = omega (arith, composed_vars a b)

  abbrev clocks_first : (i : ℕ) → i < a.clocks → 0 + i < (composed a b).clocks
  clocks_first i l = omega (arith, composed_clocks a b)

  abbrev clocks_second : (i : ℕ) → i < b.clocks → a.clocks + i < (composed a b).clocks
  clocks_second i l = omega (arith, composed_clocks a b)

  -- 0 added to the number of a counter
  same_first : (i : ℕ) → i < a.vars → counter_at (composed a b) (0 + i) ≡ counter_at a i
  same_first i l = let z : 0 + i ≡ i = omega arith in ap (counter_at (composed a b)) z ∙ ok.first_counter i l

  joined_guards : AllHold s joint.guard ↔ (AllHold x e.guard × AllHold y f.guard)
  joined_guards = rw (joined_guard a.clocks a.vars b.locations label e f)
      (joined_hold a b s x y p.first p.second e.guard f.guard r.first_guard r.second_guard r.guard_four)

  joint_taken : (t : State) → EdgeTo (composed a b) joint s t → (z w : State) × EdgeTo a e x z × EdgeTo b f y w × SeenBy a b t z w
  joint_taken t h =
      let g = seen_at a b ok t e.target f.target (h.lands ∙ joined_target a.clocks a.vars b.locations label e f) r.first_ok.target_ok
      r.second_ok.target_ok in
      let z = part_at a 0 0 e.target t in
      let w = part_at b a.clocks a.vars f.target t in
      let i = (invariant_split a b ok t z w g).0 h.allowed in
      let u = joined_guards.0 h.guard in
      let from = pair_unique b.locations x.location y.location e.source f.source p.second_location r.second_ok.source_ok
      (sym p.location ∙ h.leaves ∙ joined_source a.clocks a.vars b.locations label e f) in (
        z,
        w,
        part_takes a (composed a b) 0 0 e joint r.first_ok r.first_in s x t z p.first counters_first clocks_first same_first h g.first
            from.0 u.0 (part_location a ok.first_ok 0 0 e.target t) i.0,
        part_takes b (composed a b) a.clocks a.vars f joint r.second_ok r.second_in s y t w p.second counters_second clocks_second
            ok.second_counter h g.second from.1 u.1 (part_location b ok.second_ok a.clocks a.vars f.target t) i.1,
        g,
      )

  parts_taken : (z w : State) → EdgeTo a e x z → EdgeTo b f y w → (t : State) × EdgeTo (composed a b) joint s t × SeenBy a b t z w
  parts_taken z w h g = (
    t,
    record {
      shape = n.1;
      leaves = p.location ∙ (λ k. joined_location b.locations (h.leaves k) (g.leaves k))
          ∙ sym (joined_source a.clocks a.vars b.locations label e f);
      guard = joined_guards.1 (h.guard, g.guard);
      sets = λ i l. sets i (lt_or_le i a.vars) l;
      resets = λ i l. sym (clocks i l);
      lands = n.2;
      allowed = (invariant_split a b ok t z w seen).1 (h.allowed, g.allowed);
    },
    seen,
  )
    where
      c : Model
      c = composed a b

      new : ℕ → ℕ
      new i = cond (ltb i a.vars) (value z (counter i)) (value w (counter (i - a.vars)))

      vs : List ℕ
      vs = list_below new c.vars

      cs : List ℕ
      cs = list_below (next_clock joint s) c.clocks

      n : (t : State) × Shaped c t × (value t loc ≡ joint.target) × ((i : ℕ) → i < c.vars → value t (counter i) ≡ get_or vs i 0)
          × ((i : ℕ) → i < c.clocks → value t (clock i) ≡ get_or cs i 0)
      n = state_from c ok.joint_ok joint.target vs cs (length_list new c.vars) (length_list (next_clock joint s) c.clocks)

      t : State
      t = n.0

      counters : (i : ℕ) → i < c.vars → value t (counter i) ≡ new i
      counters i l = n.3 i l ∙ get_d_list 0 new c.vars i l

      clocks : (i : ℕ) → i < c.clocks → value t (clock i) ≡ next_clock joint s i
      clocks i l = n.4 i l ∙ get_d_list 0 (next_clock joint s) c.clocks i l

      first_new : (i : ℕ) → i < a.vars → value z (counter i) ≡ value t (counter (0 + i))
      first_new i l =
          let o : 0 + i ≡ i = omega arith in
          sym (ap (λ (u : ℕ). value t (counter u)) o ∙ counters i (omega (arith, composed_vars a b))
          ∙ cond_T (ltb i a.vars) (value z (counter i)) (value w (counter (i - a.vars))) (lt→ltb i a.vars l))

      second_new : (i : ℕ) → i < b.vars → value w (counter i) ≡ value t (counter (a.vars + i))
      second_new i l =
          let o : a.vars + i - a.vars ≡ i = omega arith in
          let u : a.vars ≤ a.vars + i = omega arith in
          sym (counters (a.vars + i) (omega (arith, composed_vars a b))
          ∙ cond_F (ltb (a.vars + i) a.vars) (value z (counter (a.vars + i))) (value w (counter (a.vars + i - a.vars)))
          (not_lt (a.vars + i) a.vars u)
          ∙ ap (λ (u : ℕ). value w (counter u)) o)

      Sets : ℕ → Type 0
      Sets i = new_counter (read_by joint s t i) (counter_at c i).greatest (value s (counter i)) (update_at joint i) ≡ Some (value t (counter i))

      sets : (i : ℕ) → (i < a.vars) ⊎ (a.vars ≤ i) → i < c.vars → Sets i
      sets i (inl u) l =
          let o : 0 + i ≡ i = omega arith in
          subst Sets o (part_sets a c 0 0 e joint r.first_ok r.first_in s x t z p.first counters_first clocks_first same_first h first_new i u)
      sets i (inr u) l =
          let o : a.vars + (i - a.vars) ≡ i = omega arith in
          subst Sets o (part_sets b c a.clocks a.vars f joint r.second_ok r.second_in s y t w p.second counters_second clocks_second
          ok.second_counter g second_new (i - a.vars) (omega (arith, composed_vars a b)))

      seen : SeenBy a b t z w
      seen = record {
        location = n.2 ∙ joined_target a.clocks a.vars b.locations label e f
            ∙ sym (λ k. joined_location b.locations (h.lands k) (g.lands k));
        first_location = rw h.lands r.first_ok.target_ok;
        second_location = rw g.lands r.second_ok.target_ok;
        first = takes_seen a c 0 0 e joint r.first_ok r.first_in s x t z p.first counters_first clocks_first same_first h first_new
            (λ i l. clocks (0 + i) (clocks_first i l));
        second = takes_seen b c a.clocks a.vars f joint r.second_ok r.second_in s y t w p.second counters_second clocks_second
            ok.second_counter g second_new (λ i l. clocks (a.clocks + i) (clocks_second i l));
      }

  -- two edges as one are allowed exactly if both are
  pub joined_together : StepsTogether a b (edge_step (composed a b) joint s) (edge_step a e x) (edge_step b f y)
  joined_together = record {
    parts_step = λ t h.
        let g = joint_taken t ((edge_iff (composed a b) ok.joint_ok joint r.joint_ok s q t).0 h) in (
          g.0,
          g.1,
          (edge_iff a ok.first_ok e r.first_ok x p.first.shape g.0).1 g.2,
          (edge_iff b ok.second_ok f r.second_ok y p.second.shape g.1).1 g.3,
          seen_parts a b ok t g.0 g.1 g.4,
        );
    joint_steps = λ z w h k.
        let g = parts_taken z w ((edge_iff a ok.first_ok e r.first_ok x p.first.shape z).0 h)
        ((edge_iff b ok.second_ok f r.second_ok y p.second.shape w).0 k) in
        (g.0, (edge_iff (composed a b) ok.joint_ok joint r.joint_ok s q g.0).1 g.1, seen_parts a b ok g.0 z w g.2);
  }
