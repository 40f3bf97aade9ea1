-- Runs: k steps from the initial state, ending in the target, written as k bytes.
use Rattle.std.specs.Prelude.{ℕ, List, [], ◌∷◌, Bool, false, eqb}
use Rattle.std.specs.Prelude.{Option, None, Some}
use Rattle.model.specs.declared.Model.{Model}
use Rattle.model.specs.declared.State.{State}
use Rattle.model.specs.Indexed.{only_if, and_then}
use Rattle.model.specs.Automaton.{initial_state, invariant_holds, step}

-- the state in which the step bytes end, if each step is allowed
unfoldable pub walk : Model → State → List ℕ → Option State
walk m s [] = Some s
walk m s (b ∷ r) = and_then (step m s b) (λ t. walk m t r)

-- the initial state must meet its invariant too; if not, there is no run, not even of 0 steps
unfoldable pub start : Model → Option State
start m = only_if (invariant_holds m (initial_state m)) (initial_state m)

-- a walk ends in the target location
abbrev pub ends_in : Model → Option State → Bool
ends_in m None = false
ends_in m (Some s) = eqb s.location m.target

-- the bytes are a run: walked from the initial state, they end in the target
unfoldable pub is_run : Model → List ℕ → Bool
is_run m r = ends_in m (and_then (start m) (λ s. walk m s r))
