-- `with_source`: the edge, with this part put in.
use Rattle.std.proofs.Common.{rules}
use Rattle.model.specs.declared.Edge.{Edge}
use Rattle.text.specs.lines.Store.{with_source}
use Rattle.text.proofs.edges.with_source.Goals as goal

pub returns : goal.returns
unfolding with_source
returns c = c.with_edge.ensures (λ (x : Edge). record x { source = c.args.source }) (λ x r k. search rules)
