-- What the step call answers: one step byte from a given state.
use Rattle.std.specs.Prelude.{ℕ, not, cond, leb, Result, Ok, Err}
use Rattle.model.specs.declared.Model.{Model}
use Rattle.model.specs.declared.State.{State}
use Rattle.model.specs.Indexed.{maybe}
use Rattle.model.specs.Automaton.{choices, step}
use Rattle.model.specs.Form.{well_formed, state_formed}
use Rattle.walk.specs.declared.StepRefusal.{StepRefusal}
use Rattle.walk.specs.declared.StepRefusal.TheVariants.{NotWellFormed, StateNotFormed, NoSuchChoice, NotAllowed}

-- a number of the table of refusals, or 0, and the state that is handed back
pub record StepReport : Type 0 where
  pub number : ℕ
  pub state : State

abbrev pub step_reported : ℕ → State → StepReport
step_reported n s = record { number = n; state = s }

-- 20, then 10, then 27 byte is H or more, then 28 step not allowed, without a place; after these the given state is handed back, else the new one
unfoldable pub step_report : Model → State → ℕ → StepReport
step_report m s b =
    cond (not (well_formed m)) (step_reported 20 s)
    (cond (not (state_formed m s)) (step_reported 10 s)
    (cond (leb (choices m) b) (step_reported 27 s)
    (maybe (step m s b) (step_reported 28 s) (λ t. step_reported 0 t))))

-- the number of each refusal
abbrev pub step_number : StepRefusal → ℕ
step_number NotWellFormed = 20
step_number StateNotFormed = 10
step_number NoSuchChoice = 27
step_number NotAllowed = 28

-- what a step from the state s tells: the new state, or the number of the refusal and the given state
abbrev pub step_told : State → Result State StepRefusal → StepReport
step_told s (Ok t) = step_reported 0 t
step_told s (Err e) = step_reported (step_number e) s
