-- `read_counters`: the loop's invariant is `Turning`: after some turns, as many of them are read.
use Rattle.text.specs.lines.Lines.{var_line}
use Rattle.text.proofs.lines.Turns.{Turning}
use Rattle.text.proofs.head.read_counters.Given as goal

abbrev pub invariant-loop-i : goal.invariant-loop-i
invariant-loop-i l = Turning var_line (λ p. p.model.vars) l.text l.fn.r.model.vars l.fn.r l.q l.i
