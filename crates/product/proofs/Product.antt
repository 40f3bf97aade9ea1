-- The theorems on two well-formed models that fit together: states have parts, and steps, walks and runs are those of the parts.
use mathlib.Core.Path.{◌≡◌, sym, ap, subst, ◌∙◌}
use mathlib.Core.Logic.{◌⊎◌, inl, inr}
use mathlib.Core.Bool.{◌&&◌}
use mathlib.Core.List.{List}
use Rattle.std.specs.Prelude.{Some}
use Prim.Native.Nat.{ℕ, ◌+◌, ◌*◌, ◌≤◌, ◌<◌}
use native.Mathlib.Omega.{arith}
use lib.Dec.{T, ltb, leb, eqb, lt→ltb, le→leb}
use Rattle.model.specs.declared.Counter.{Counter}
use Rattle.model.specs.declared.Model.{Model}
use Rattle.model.specs.declared.State.{State}
use Rattle.model.specs.Record.{counter_at}
use Rattle.model.specs.Automaton.{ceiling, value, loc, counter, clock, initial_state, invariant_holds}
use Rattle.model.specs.Form.{slot_in_group, counters_in_group, clocks_in_group, state_formed, well_formed}
use Rattle.model.specs.Run.{walk}
use Rattle.model.proofs.IndexedLaws.{and_T, eq_T, lt_or_le, cond_T, cond_F, not_lt, all_below_lem}
use Rattle.model.proofs.FormLaws.{WellFormed}
use Rattle.model.proofs.StepLaws.{Shaped, InRange, state_formed_lem}
use Rattle.compose.specs.Composed.{fits, composed}
use Rattle.compose.specs.ComposeCall.{compose_report}
use Rattle.product.specs.Joint.{part_at, Parts, JointState, HasParts, StepsAsParts, WalksAsParts, RunsAsParts}
use Rattle.product.proofs.ComposedForm.{composed_formed, composed_locations, composed_vars, pair_of}
use Rattle.product.proofs.PartLaws.{Sees}
use Rattle.product.proofs.PairSteps.{Composable, SeenBy, seen_parts, seen_at, invariant_split, pair_unique}
use Rattle.product.proofs.JointSteps.{steps_as_parts}
use Rattle.product.proofs.JointRuns.{walks_as_parts, initial_parts, runs_as_parts}
use Rattle.product.proofs.Limits.{fitting, composes_exactly}
use Rattle.product.proofs.Composables.{composable, joined_edges}

-- ---- a part is a state of its model
module _ (m : Model) (ok : WellFormed m) (k v : ℕ) (s x : State) (p : Sees m k v s x) where
  slot_formed : (declared greatest u i : ℕ) → (i < declared → u ≤ greatest) → (declared ≤ i → u ≡ 0) → T (slot_in_group declared greatest u i)
  slot_formed declared greatest u i h g = go (lt_or_le i declared)
    where
      go : (i < declared) ⊎ (declared ≤ i) → T (slot_in_group declared greatest u i)
      go (inl l) = subst T (sym (cond_T (ltb i declared) (leb u greatest) (eqb u 0) (lt→ltb i declared l))) (le→leb u greatest (h l))
      go (inr l) = subst T (sym (cond_F (ltb i declared) (leb u greatest) (eqb u 0) (not_lt i declared l))) ((eq_T u 0).1 (g l))

  part_formed : x.location < m.locations → ((i : ℕ) → i < m.vars → value s (counter (v + i)) ≤ (counter_at m i).greatest) → T (state_formed m x)
  unfolding state_formed counters_in_group clocks_in_group
  part_formed l h =
      (and_T (ltb x.location m.locations && counters_in_group m.vars m.counters x) (clocks_in_group m.clocks (ceiling m) x)).1 (
        (and_T (ltb x.location m.locations) (counters_in_group m.vars m.counters x)).1 (
          lt→ltb x.location m.locations l,
          (all_below_lem (λ i. slot_in_group m.vars (counter_at m i).greatest (value x (counter i)) i) 4).1
              (λ i q. slot_formed m.vars (counter_at m i).greatest (value x (counter i)) i (λ u. omega (arith, h i u, p.counters i u))
              (λ u. p.shape.counters_rest i u q)),
        ),
        (all_below_lem (λ i. slot_in_group m.clocks (ceiling m) (value x (clock i)) i) 4).1
            (λ i q. slot_formed m.clocks (ceiling m) (value x (clock i)) i (λ u. omega (arith, p.clocks i u)) (λ u. p.shape.clocks_rest i u q)),
      )

module _ (a b : Model) (a-ok : T (well_formed a)) (b-ok : T (well_formed b)) (fit : T (fits a b)) where
  abbrev ok : Composable a b
  ok = composable a b a-ok b-ok fit

  -- what the laws ask of a joint state
  joint_shape : (s : State) → JointState a b s → Shaped (composed a b) s × InRange (composed a b) s
  joint_shape s h = state_formed_lem (composed a b) ok.joint_ok s h.counters_four h.clocks_four h.formed

  -- every joint state has its two parts
  pub has_parts : (s : State) → JointState a b s → HasParts a b s
  has_parts s h = record {
    first_part = x;
    second_part = y;
    are_parts = seen_parts a b ok s x y seen;
    no_others = unique;
    first_formed = part_formed a ok.first_ok 0 0 s x seen.first seen.first_location first_range;
    second_formed = part_formed b ok.second_ok a.clocks a.vars s y seen.second seen.second_location second_range;
    first_meets = meet.0;
    second_meets = meet.1;
  }
    where
      range : InRange (composed a b) s
      range = (joint_shape s h).1

      at : (i : ℕ) × (j : ℕ) × (i < a.locations) × (j < b.locations) × (s.location ≡ i * b.locations + j)
      at =
          let l : s.location < a.locations * b.locations = rw (← composed_locations a b) (range loc tt) in
          pair_of a.locations b.locations s.location l

      x : State
      x = part_at a 0 0 at.0 s

      y : State
      y = part_at b a.clocks a.vars at.1 s

      seen : SeenBy a b s x y
      seen = seen_at a b ok s at.0 at.1 at.4 at.2 at.3

      meet : T (invariant_holds a x) × T (invariant_holds b y)
      meet = (invariant_split a b ok s x y seen).0 h.meets

      first_range : (i : ℕ) → i < a.vars → value s (counter (0 + i)) ≤ (counter_at a i).greatest
      first_range i l =
          let z : 0 + i ≡ i = omega arith in
          let r : value s (counter i) < (counter_at a i).greatest + 1 = subst (λ (k : Counter). value s (counter i) < k.greatest + 1) (ok.first_counter i l)
          (range (counter i) (omega (arith, composed_vars a b))) in
          subst (λ (k : ℕ). value s (counter k) ≤ (counter_at a i).greatest) (sym z) (omega arith)

      second_range : (i : ℕ) → i < b.vars → value s (counter (a.vars + i)) ≤ (counter_at b i).greatest
      second_range i l =
          let r : value s (counter (a.vars + i)) < (counter_at b i).greatest + 1 =
          subst (λ (k : Counter). value s (counter (a.vars + i)) < k.greatest + 1) (ok.second_counter i l)
          (range (counter (a.vars + i)) (omega (arith, composed_vars a b))) in
          omega arith

      unique : (u w : State) → Parts a b s u w → (u ≡ x) × (w ≡ y)
      unique u w p =
          let e = pair_unique b.locations u.location w.location x.location y.location p.second_location seen.second_location
          (sym p.location ∙ seen.location) in
          let q = seen_parts a b ok s x y seen in (
            p.first ∙ ap (λ (l : ℕ). part_at a 0 0 l s) e.0 ∙ sym q.first,
            p.second ∙ ap (λ (l : ℕ). part_at b a.clocks a.vars l s) e.1 ∙ sym q.second,
          )

  -- from it, each step byte does what the parts do
  pub steps_are_parts : (s x y : State) → JointState a b s → Parts a b s x y → StepsAsParts a b s x y
  steps_are_parts s x y h p = steps_as_parts a b ok (joined_edges a b a-ok b-ok fit) s x y (joint_shape s h).0 p h.meets

  -- walks are walks of the parts
  pub walks_are_parts : (r : List ℕ) (s x y t : State) → JointState a b s → Parts a b s x y → walk (composed a b) s r ≡ Some t → WalksAsParts a b r x y t
  walks_are_parts r s x y t h p w = walks_as_parts a b ok (joined_edges a b a-ok b-ok fit) r s x y t (joint_shape s h).0 p h.meets w

  -- the initial state's parts are the initial states
  pub initial_are_parts : Parts a b (initial_state (composed a b)) (initial_state a) (initial_state b)
  initial_are_parts = initial_parts a b ok (joined_edges a b a-ok b-ok fit)

  -- runs are runs of the parts
  pub runs_are_parts : (r : List ℕ) → RunsAsParts a b r
  runs_are_parts r h = runs_as_parts a b ok (joined_edges a b a-ok b-ok fit) r h

-- ---- the call on two records
-- a composed model that is returned is well formed
pub answer_formed : (a b : Model) → (compose_report a b).number ≡ 0 → T (well_formed (compose_report a b).model)
answer_formed a b z =
    let e = composes_exactly a b in
    let g = e.accepts.0 z in
    let fit : T (fits a b) = fitting a b g.1 in
    subst (λ (m : Model). T (well_formed m)) (sym (e.accepted_model z)) (composed_formed a b g.0.0 g.0.1 fit)
