-- `edges_line`: what the closure makes of the value is what the definition of the line asks.
use Rattle.std.proofs.Common.{rules}
use Rattle.text.specs.bytes.Bytes.{number_in, number_of}
use Rattle.text.specs.line.Values.{number_faults}
use Rattle.text.specs.lines.Store.{with_used}
use Rattle.text.specs.lines.Lines.{edges_line}
use Rattle.text.proofs.head.edges_line.Goals as goal

pub returns : goal.returns
unfolding edges_line with_used
returns c = c.line.ensures (λ m v. number_faults 0 32 (number_of v)) (λ m v. with_used m (number_in (number_of v))) (λ x m r k. search rules)
