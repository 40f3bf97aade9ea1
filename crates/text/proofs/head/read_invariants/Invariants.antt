-- `read_invariants`: the loop's invariant is `Turning`: after some turns, as many of them are read.
use Rattle.text.specs.lines.Lines.{inv_line}
use Rattle.text.proofs.lines.Turns.{Turning}
use Rattle.text.proofs.head.read_invariants.Given as goal

abbrev pub invariant-loop-l : goal.invariant-loop-l
invariant-loop-l l = Turning inv_line (λ p. p.model.locations) l.text l.fn.r.model.locations l.fn.r l.q l.l
