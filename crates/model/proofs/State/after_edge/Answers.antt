-- `after_edge`, field by field.
use Rattle.model.specs.Automaton.{after_edge}
use Rattle.model.proofs.State.after_edge.Goals as goal

pub returns : goal.returns
unfolding after_edge
returns c = λ i. record { location = c.args.e.target; counters = c.args.values; clocks = c.next_clocks.ensures i }
