-- Walks and runs of the composed model: cut to a part, each is a walk or a run of that part, in which the other's lone edges are left out.
use mathlib.Core.Path.{◌≡◌, refl, sym, ap, subst, ◌∙◌}
use mathlib.Core.Logic.{◌⊎◌, inl, inr}
use mathlib.Core.List.{List, [], ◌∷◌}
use Rattle.std.specs.Prelude.{Option, None, Some}
use Prim.Native.Nat.{ℕ, ◌+◌, ◌-◌, ◌≤◌, ◌<◌, min}
use native.Mathlib.Omega.{arith}
use lib.Dec.{T, eqb}
use borrow.Author.Tests.{le-leb, lt-leb}
use Rattle.model.specs.declared.Counter.{Counter}
use Rattle.model.specs.declared.Model.{Model}
use Rattle.model.specs.declared.State.{State}
use Rattle.model.specs.Automaton.{ceiling, value, loc, counter, clock, initial_state, invariant_holds, step}
use Rattle.model.specs.Run.{walk, is_run}
use Rattle.model.proofs.IndexedLaws.{only_if_lem}
use Rattle.model.proofs.FormLaws.{WellFormed}
use Rattle.model.proofs.StepLaws.{Shaped, initial_is, shaped_initial, step_lt, delay_or_edge, shaped_step, step_invariant}
use Rattle.model.proofs.RunLaws.{walk_nil, walk_cons, walk_step, run_iff}
use Rattle.compose.specs.declared.moves.Move.{Move}
use Rattle.compose.specs.declared.moves.Move.TheVariants.{FirstAlone, SecondAlone, Together}
use Rattle.compose.specs.Joined.{joined_location}
use Rattle.compose.specs.Moves.{move_at}
use Rattle.compose.specs.Composed.{composed}
use Rattle.compose.specs.Parts.{first_edge, second_edge, edge_byte, part_step, first_step, second_step, steps_of}
use Rattle.product.specs.Joint.{Parts, stands_in, StepsAsParts, WalksAsParts}
use Rattle.product.proofs.ComposedForm.{composed_initial, composed_target, composed_clocks, composed_vars}
use Rattle.product.proofs.PairSteps.{Composable, parts_seen, seen_parts, invariant_split, pair_unique}
use Rattle.product.proofs.JointSteps.{JoinedEdges, steps_as_parts}

-- ---- what a step byte is in a part
module _ (edge : Move → Option ℕ) (m a b : Model) where
  delay_part_lem : (d : ℕ) → d ≤ ceiling (composed a b) → part_step edge m a b d ≡ Some (min d (ceiling m))
  delay_part_lem d l = rw (le-leb d (ceiling (composed a b)) l) refl

  edge_part_lem : (n : ℕ) → part_step edge m a b (ceiling (composed a b) + 1 + n) ≡ edge_byte (ceiling m) (edge (move_at a b n))
  edge_part_lem n =
      let e : ceiling (composed a b) + 1 + n - (ceiling (composed a b) + 1) ≡ n = omega arith in
      rw (lt-leb (ceiling (composed a b) + 1 + n) (ceiling (composed a b)) (omega arith))
      (ap (λ (i : ℕ). edge_byte (ceiling m) (edge (move_at a b i))) e)

first_is : (a b : Model) (n : ℕ) → first_step a b n ≡ part_step first_edge a a b n
unfolding first_step
first_is a b n = refl

second_is : (a b : Model) (n : ℕ) → second_step a b n ≡ part_step second_edge b a b n
unfolding second_step
second_is a b n = refl

-- ---- a step more
walks_on : (part : ℕ → Option ℕ) (m : Model) (n k : ℕ) (r : List ℕ) (x z : State) → part n ≡ Some k → step m x k ≡ Some z
    → walk m x (steps_of part (n ∷ r)) ≡ walk m z (steps_of part r)
unfolding steps_of
walks_on part m n k r x z e h = rw e (walk_step m x z k (steps_of part r) h)

walks_still : (part : ℕ → Option ℕ) (m : Model) (n : ℕ) (r : List ℕ) (x z : State) → part n ≡ None → x ≡ z
    → walk m x (steps_of part (n ∷ r)) ≡ walk m z (steps_of part r)
unfolding steps_of
walks_still part m n r x z e h = rw e (ap (λ (s : State). walk m s (steps_of part r)) h)

no_steps : (part : ℕ → Option ℕ) (m : Model) (x : State) → walk m x (steps_of part []) ≡ Some x
unfolding steps_of
no_steps part m x = (walk_nil m x x).1 refl

still : (l : ℕ) (x z : State) → stands_in l x ≡ Some z → x ≡ z
still l x z h = ((only_if_lem (eqb x.location l) x z).0 h).1

module _ (a b : Model) (ok : Composable a b) (es : JoinedEdges a b) where
  abbrev c : Model
  c = composed a b

  -- one step of the composed model, and what its parts do with its byte
  record Parted (n : ℕ) (r : List ℕ) (x y t : State) : Type 0 where
    first_new : State
    second_new : State
    first_on : walk a x (steps_of (first_step a b) (n ∷ r)) ≡ walk a first_new (steps_of (first_step a b) r)
    second_on : walk b y (steps_of (second_step a b) (n ∷ r)) ≡ walk b second_new (steps_of (second_step a b) r)
    parts : Parts a b t first_new second_new

  parted : (n : ℕ) (r : List ℕ) (s x y t : State) → Shaped c s → Parts a b s x y → T (invariant_holds c s) → step c s n ≡ Some t → Parted n r x y t
  parted n r s x y t q p i h = by_kind (delay_or_edge c n (step_lt c s t n h))
    where
      law : StepsAsParts a b s x y
      law = steps_as_parts a b ok es s x y q p i

      -- what each part does with the byte of a move
      first_byte : (k : ℕ) → n ≡ ceiling c + 1 + k → (v : Move) → move_at a b k ≡ v → first_step a b n ≡ edge_byte (ceiling a) (first_edge v)
      first_byte k e v m =
          ap (first_step a b) e ∙ first_is a b (ceiling c + 1 + k) ∙ edge_part_lem first_edge a a b k
          ∙ ap (λ (u : Move). edge_byte (ceiling a) (first_edge u)) m

      second_byte : (k : ℕ) → n ≡ ceiling c + 1 + k → (v : Move) → move_at a b k ≡ v → second_step a b n ≡ edge_byte (ceiling b) (second_edge v)
      second_byte k e v m =
          ap (second_step a b) e ∙ second_is a b (ceiling c + 1 + k) ∙ edge_part_lem second_edge b a b k
          ∙ ap (λ (u : Move). edge_byte (ceiling b) (second_edge u)) m

      by_move : (k : ℕ) → k < c.used → n ≡ ceiling c + 1 + k → (v : Move) → move_at a b k ≡ v → Parted n r x y t
      by_move k l e (FirstAlone d j) m =
          let g = (law.first_alone k d j l m).parts_step t (rw e at h) in
          let z = g.0 in
          let w = g.1 in
          record {
            first_new = z;
            second_new = w;
            first_on = walks_on (first_step a b) a n (ceiling a + 1 + d) r x z (first_byte k e (FirstAlone d j) m) g.2;
            second_on = walks_still (second_step a b) b n r y w (second_byte k e (FirstAlone d j) m) (still j y w g.3);
            parts = g.4;
          }
      by_move k l e (SecondAlone f j) m =
          let g = (law.second_alone k f j l m).parts_step t (rw e at h) in
          let z = g.0 in
          let w = g.1 in
          record {
            first_new = z;
            second_new = w;
            first_on = walks_still (first_step a b) a n r x z (first_byte k e (SecondAlone f j) m) (still j x z g.2);
            second_on = walks_on (second_step a b) b n (ceiling b + 1 + f) r y w (second_byte k e (SecondAlone f j) m) g.3;
            parts = g.4;
          }
      by_move k l e (Together d f) m =
          let g = (law.pairs k d f l m).parts_step t (rw e at h) in
          let z = g.0 in
          let w = g.1 in
          record {
            first_new = z;
            second_new = w;
            first_on = walks_on (first_step a b) a n (ceiling a + 1 + d) r x z (first_byte k e (Together d f) m) g.2;
            second_on = walks_on (second_step a b) b n (ceiling b + 1 + f) r y w (second_byte k e (Together d f) m) g.3;
            parts = g.4;
          }

      by_kind : (n < ceiling c + 1) ⊎ ((k : ℕ) × (k < c.used) × (n ≡ ceiling c + 1 + k)) → Parted n r x y t
      by_kind (inl l) =
          let l' : n ≤ ceiling c = omega arith in
          let g = (law.delays n l').parts_step t h in
          record {
            first_new = g.0;
            second_new = g.1;
            first_on = walks_on (first_step a b) a n (min n (ceiling a)) r x g.0 (first_is a b n ∙ delay_part_lem first_edge a a b n l') g.2;
            second_on = walks_on (second_step a b) b n (min n (ceiling b)) r y g.1 (second_is a b n ∙ delay_part_lem second_edge b a b n l') g.3;
            parts = g.4;
          }
      by_kind (inr (k, l, e)) = by_move k l e (move_at a b k) refl

  -- every walk of the composed model, cut to a part, is a walk of that part
  pub walks_as_parts : (r : List ℕ) (s x y t : State) → Shaped c s → Parts a b s x y → T (invariant_holds c s) → walk c s r ≡ Some t → WalksAsParts a b r x y t
  walks_as_parts [] s x y t q p i h = record {
    first_end = x;
    second_end = y;
    first_walks = no_steps (first_step a b) a x;
    second_walks = no_steps (second_step a b) b y;
    ends = subst (λ (u : State). Parts a b u x y) ((walk_nil c s t).0 h) p;
  }
  walks_as_parts (n ∷ r) s x y t q p i h =
      let w = (walk_cons c s t n r).0 h in
      let g = parted n r s x y w.0 q p i w.1 in
      let k = walks_as_parts r w.0 g.first_new g.second_new t (shaped_step c ok.joint_ok s w.0 n q w.1) g.parts
      (step_invariant c ok.joint_ok s w.0 n q w.1) w.2 in
      record {
        first_end = k.first_end;
        second_end = k.second_end;
        first_walks = g.first_on ∙ k.first_walks;
        second_walks = g.second_on ∙ k.second_walks;
        ends = k.ends;
      }

  -- ---- runs
  initial_first : (i : ℕ) → i < a.vars → value (initial_state c) (counter i) ≡ value (initial_state a) (counter i)
  initial_first i l =
      initial_is c ok.joint_ok (counter i) (omega (arith, composed_vars a b)) ∙ ap (λ (k : Counter). k.initial) (ok.first_counter i l)
      ∙ sym (initial_is a ok.first_ok (counter i) l)

  initial_second : (i : ℕ) → i < b.vars → value (initial_state c) (counter (a.vars + i)) ≡ value (initial_state b) (counter i)
  initial_second i l =
      initial_is c ok.joint_ok (counter (a.vars + i)) (omega (arith, composed_vars a b)) ∙ ap (λ (k : Counter). k.initial) (ok.second_counter i l)
      ∙ sym (initial_is b ok.second_ok (counter i) l)

  -- every clock begins at 0, which no ceiling cuts
  zero_cut : (m : Model) (okm : WellFormed m) (i k : ℕ) → i < m.clocks → k < c.clocks
      → value (initial_state m) (clock i) ≡ min (value (initial_state c) (clock k)) (ceiling m)
  zero_cut m okm i k l h = omega (arith, initial_is m okm (clock i) l, initial_is c ok.joint_ok (clock k) h)

  -- the parts of the initial state are the initial states
  pub initial_parts : Parts a b (initial_state c) (initial_state a) (initial_state b)
  initial_parts = seen_parts a b ok (initial_state c) (initial_state a) (initial_state b) (record {
    location = initial_is c ok.joint_ok loc tt ∙ composed_initial a b
        ∙ sym (λ k. joined_location b.locations (initial_is a ok.first_ok loc tt k) (initial_is b ok.second_ok loc tt k));
    first_location = rw (initial_is a ok.first_ok loc tt) ok.first_ok.initial_ok;
    second_location = rw (initial_is b ok.second_ok loc tt) ok.second_ok.initial_ok;
    first = record {
      shape = shaped_initial a ok.first_ok;
      counters = λ i l. let z : 0 + i ≡ i = omega arith in sym (ap (λ (k : ℕ). value (initial_state c) (counter k)) z ∙ initial_first i l);
      clocks = λ i l. zero_cut a ok.first_ok i (0 + i) l (omega (arith, composed_clocks a b));
    };
    second = record {
      shape = shaped_initial b ok.second_ok;
      counters = λ i l. sym (initial_second i l);
      clocks = λ i l. zero_cut b ok.second_ok i (a.clocks + i) l (omega (arith, composed_clocks a b));
    };
  })

  -- each run of the composed model, cut to a part, is a run of that part
  pub runs_as_parts : (r : List ℕ) → T (is_run c r) → T (is_run a (steps_of (first_step a b) r)) × T (is_run b (steps_of (second_step a b) r))
  runs_as_parts r h =
      let g = (run_iff c r).0 h in
      let w = walks_as_parts r (initial_state c) (initial_state a) (initial_state b) g.0 (shaped_initial c ok.joint_ok) initial_parts g.1.allowed
      g.1.walks in
      let i = (invariant_split a b ok (initial_state c) (initial_state a) (initial_state b)
      (parts_seen a b ok (initial_state c) (initial_state a) (initial_state b) initial_parts)).0 g.1.allowed in
      let e = pair_unique b.locations w.first_end.location w.second_end.location a.target b.target w.ends.second_location
      ok.second_ok.target_ok (sym w.ends.location ∙ g.1.arrives ∙ composed_target a b) in (
        (run_iff a (steps_of (first_step a b) r)).1 (w.first_end, record { allowed = i.0; walks = w.first_walks; arrives = e.0 }),
        (run_iff b (steps_of (second_step a b) r)).1 (w.second_end, record { allowed = i.1; walks = w.second_walks; arrives = e.1 }),
      )
