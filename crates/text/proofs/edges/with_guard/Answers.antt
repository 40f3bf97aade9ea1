-- `with_guard`: the edge, with this part put in.
use Rattle.std.proofs.Common.{rules}
use Rattle.model.specs.declared.Edge.{Edge}
use Rattle.text.specs.lines.Store.{with_guard}
use Rattle.text.proofs.edges.with_guard.Goals as goal

pub returns : goal.returns
unfolding with_guard
returns c = c.with_edge.ensures (λ (x : Edge). record x { guard = c.args.guard }) (λ x r k. search rules)
