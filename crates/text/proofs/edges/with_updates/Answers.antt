-- `with_updates`: the edge, with this part put in.
use Rattle.std.proofs.Common.{rules}
use Rattle.model.specs.declared.Edge.{Edge}
use Rattle.text.specs.lines.Store.{with_updates}
use Rattle.text.proofs.edges.with_updates.Goals as goal

pub returns : goal.returns
unfolding with_updates
returns c = c.with_edge.ensures (λ (x : Edge). record x { updates = c.args.slots.updates; order = c.args.slots.order }) (λ x r k. search rules)
