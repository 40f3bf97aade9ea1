-- The parts of an assignment that one function each writes, and the runs that can be walked.
use Rattle.std.specs.Prelude.{◌≡◌, List, ◌++◌, ℕ, ◌+◌, get_or, Some}
use Rattle.model.specs.declared.Counter.{Counter}
use Rattle.model.specs.declared.Model.{Model}
use Rattle.model.specs.declared.State.{State}
use Rattle.model.specs.Record.{blank_counter}
use Rattle.model.specs.Automaton.{choices}
use Rattle.model.specs.Run.{walk}
use Rattle.list.specs.Assignments.{one_hot, state_bytes}
use Rattle.encode.specs.declared.Shown.{Shown}

-- What is read past the last group.
abbrev pub no_group : Shown
no_group = record { size = 0; value = 0 }

-- Group i of the groups that are shown.
unfoldable pub shown_bytes : List Shown → ℕ → List ℕ
shown_bytes groups i = one_hot (get_or groups i no_group).size (get_or groups i no_group).value

-- The group of counter i, and that of clock i under the ceiling `top`.
abbrev pub counter_group : List Counter → List ℕ → ℕ → Shown
counter_group counters values i = record { size = (get_or counters i blank_counter).greatest + 1; value = get_or values i 0 }

abbrev pub clock_group : ℕ → List ℕ → ℕ → Shown
clock_group top values i = record { size = top + 1; value = get_or values i 0 }

-- A step: its choice block, and the block of the state that it leads to.
unfoldable pub step_bytes : Model → ℕ → State → List ℕ
step_bytes m b next = one_hot (choices m) b ++ state_bytes one_hot m next

-- Each step byte can be taken, from the state s on.
pub record Walks (m : Model) (s : State) (r : List ℕ) : Type 0 where
  pub end : State
  pub ends : walk m s r ≡ Some end
