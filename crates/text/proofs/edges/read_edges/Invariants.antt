-- `read_edges`: the loop's invariant is `Turning`: after some turns, as many of them are read.
use Rattle.text.specs.lines.Sequence.{read_edge}
use Rattle.text.proofs.lines.Turns.{Turning}
use Rattle.text.proofs.edges.read_edges.Given as goal

abbrev pub invariant-loop-e : goal.invariant-loop-e
invariant-loop-e l = Turning read_edge (λ p. p.model.used) l.text l.fn.r.model.used l.fn.r l.q l.e
