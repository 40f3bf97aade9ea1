-- `initial_state`, field by field.
use Rattle.model.specs.Indexed.{list_below}
use Rattle.model.specs.Automaton.{initial_state}
use Rattle.model.proofs.Model.initial_state.Goals as goal

pub returns : goal.returns
unfolding initial_state list_below
returns c = λ i. record { location = c.args.self.initial; counters = c.initial_counters.ensures i; clocks = list_below (λ _. 0) 4 }
