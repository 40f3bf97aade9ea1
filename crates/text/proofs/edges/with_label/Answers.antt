-- `with_label`: the edge, with this part put in.
use Rattle.std.proofs.Common.{rules}
use Rattle.model.specs.declared.Edge.{Edge}
use Rattle.text.specs.lines.Store.{with_label}
use Rattle.text.proofs.edges.with_label.Goals as goal

pub returns : goal.returns
unfolding with_label
returns c = c.with_edge.ensures (λ (x : Edge). record x { label = c.args.label }) (λ x r k. search rules)
