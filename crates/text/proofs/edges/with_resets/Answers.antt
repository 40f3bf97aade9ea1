-- `with_resets`: the edge, with this part put in.
use Rattle.std.proofs.Common.{rules}
use Rattle.model.specs.declared.Edge.{Edge}
use Rattle.text.specs.lines.Store.{with_resets}
use Rattle.text.proofs.edges.with_resets.Goals as goal

pub returns : goal.returns
unfolding with_resets
returns c = c.with_edge.ensures (λ (x : Edge). record x { resets = c.args.resets }) (λ x r k. search rules)
