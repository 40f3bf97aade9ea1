-- What the writers ask of the state block that begins at o. Variables are counted from 0.
use Rattle.std.specs.Prelude.{ℕ, ◌+◌, ◌≤◌}
use Rattle.model.specs.declared.Model.{Model}
use Rattle.model.specs.Automaton.{state_size, choices}
use Rattle.parts.specs.Numbering.{most_variables}

-- Its variables are few enough.
abbrev pub StateFits : Model → ℕ → Type 0
StateFits m o = o + state_size m ≤ most_variables

-- So are those of the choice block and the state block after it.
abbrev pub StepFits : Model → ℕ → Type 0
StepFits m o = o + state_size m + choices m + state_size m ≤ most_variables
