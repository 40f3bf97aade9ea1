-- `with_edge_target`: the edge, with this part put in.
use Rattle.std.proofs.Common.{rules}
use Rattle.model.specs.declared.Edge.{Edge}
use Rattle.text.specs.lines.Store.{with_edge_target}
use Rattle.text.proofs.edges.with_edge_target.Goals as goal

pub returns : goal.returns
unfolding with_edge_target
returns c = c.with_edge.ensures (λ (x : Edge). record x { target = c.args.target }) (λ x r k. search rules)
