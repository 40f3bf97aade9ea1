-- A joint state and its two parts: what each model sees of it.
use Rattle.std.specs.Prelude.{ℕ, ◌+◌, ◌≤◌, ◌<◌, min, ◌≡◌, cond, List, T, ltb, eqb, length}
use Rattle.std.specs.Prelude.{Option, Some}
use Rattle.model.specs.declared.Model.{Model}
use Rattle.model.specs.declared.State.{State}
use Rattle.model.specs.Indexed.{list_below, only_if}
use Rattle.model.specs.Automaton.{ceiling, value, counter, clock, invariant_holds, step}
use Rattle.model.specs.Form.{state_formed}
use Rattle.model.specs.Run.{walk, is_run}
use Rattle.compose.specs.declared.moves.Move.TheVariants.{FirstAlone, SecondAlone, Together}
use Rattle.compose.specs.Joined.{joined_location}
use Rattle.compose.specs.Moves.{move_at}
use Rattle.compose.specs.Composed.{composed}
use Rattle.compose.specs.Parts.{first_step, second_step, steps_of}

-- ---- parts
-- what model m sees of a joint state, standing in location l, where its clocks and counters begin at these places:
-- its counters, and its clocks cut to its own ceiling
unfoldable pub part_at : Model → ℕ → ℕ → ℕ → State → State
part_at m clocks vars l s = record {
  location = l;
  counters = list_below (λ i. cond (ltb i m.vars) (value s (counter (vars + i))) 0) 4;
  clocks = list_below (λ i. cond (ltb i m.clocks) (min (value s (clock (clocks + i))) (ceiling m)) 0) 4;
}

-- x and y are the parts of the joint state s of a and b: it stands in the pair of their locations, and each shows what its model sees of s
pub record Parts (a b : Model) (s x y : State) : Type 0 where
  pub location : s.location ≡ joined_location b.locations x.location y.location
  pub first_location : x.location < a.locations
  pub second_location : y.location < b.locations
  pub first : x ≡ part_at a 0 0 x.location s
  pub second : y ≡ part_at b a.clocks a.vars y.location s

-- a state of the composed model: four slots of each sort, every number in its group, and it meets its invariant
pub record JointState (a b : Model) (s : State) : Type 0 where
  pub counters_four : length s.counters ≡ 4
  pub clocks_four : length s.clocks ≡ 4
  pub formed : T (state_formed (composed a b) s)
  pub meets : T (invariant_holds (composed a b) s)

-- it has parts, no two, and they are states of their models that meet their invariants
pub record HasParts (a b : Model) (s : State) : Type 0 where
  pub first_part : State
  pub second_part : State
  pub are_parts : Parts a b s first_part second_part
  pub no_others : (x y : State) → Parts a b s x y → (x ≡ first_part) × (y ≡ second_part)
  pub first_formed : T (state_formed a first_part)
  pub second_formed : T (state_formed b second_part)
  pub first_meets : T (invariant_holds a first_part)
  pub second_meets : T (invariant_holds b second_part)

-- ---- steps
-- a step of the composed model is allowed exactly if both parts' steps are, and the new joint state's parts are the parts' new states
pub record StepsTogether (a b : Model) (joint first second : Option State) : Type 0 where
  pub parts_step : (t : State) → joint ≡ Some t → (x y : State) × (first ≡ Some x) × (second ≡ Some y) × Parts a b t x y
  pub joint_steps : (x y : State) → first ≡ Some x → second ≡ Some y → (t : State) × (joint ≡ Some t) × Parts a b t x y

-- standing still in location l
abbrev pub stands_in : ℕ → State → Option State
stands_in l x = only_if (eqb x.location l) x

-- the law of steps, from a joint state s with parts x and y
pub record StepsAsParts (a b : Model) (s x y : State) : Type 0 where
  -- a delay is allowed when both parts allow it cut to their ceilings
  pub delays : (d : ℕ) → d ≤ ceiling (composed a b) → StepsTogether a b (step (composed a b) s d) (step a x (min d (ceiling a))) (step b y (min d (ceiling b)))
  -- a pair when both parts allow their edges
  pub pairs : (n e f : ℕ) → n < (composed a b).used → move_at a b n ≡ Together e f
      → StepsTogether a b (step (composed a b) s (ceiling (composed a b) + 1 + n)) (step a x (ceiling a + 1 + e)) (step b y (ceiling b + 1 + f))
  -- a lone edge when its owner allows it while the other stands still
  pub first_alone : (n e j : ℕ) → n < (composed a b).used → move_at a b n ≡ FirstAlone e j
      → StepsTogether a b (step (composed a b) s (ceiling (composed a b) + 1 + n)) (step a x (ceiling a + 1 + e)) (stands_in j y)
  pub second_alone : (n f i : ℕ) → n < (composed a b).used → move_at a b n ≡ SecondAlone f i
      → StepsTogether a b (step (composed a b) s (ceiling (composed a b) + 1 + n)) (stands_in i x) (step b y (ceiling b + 1 + f))

-- ---- runs
-- the steps r from s to t, cut to each part, are a walk of that part, in which the other's lone edges are left out
pub record WalksAsParts (a b : Model) (r : List ℕ) (x y t : State) : Type 0 where
  pub first_end : State
  pub second_end : State
  pub first_walks : walk a x (steps_of (first_step a b) r) ≡ Some first_end
  pub second_walks : walk b y (steps_of (second_step a b) r) ≡ Some second_end
  pub ends : Parts a b t first_end second_end

-- a run of the composed model, cut to each part, is a run of that part
abbrev pub RunsAsParts : Model → Model → List ℕ → Type 0
RunsAsParts a b r = T (is_run (composed a b) r) → T (is_run a (steps_of (first_step a b) r)) × T (is_run b (steps_of (second_step a b) r))
