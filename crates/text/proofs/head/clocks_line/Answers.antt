-- `clocks_line`: what the closure makes of the value is what the definition of the line asks.
use Rattle.std.proofs.Common.{rules}
use Rattle.text.specs.bytes.Bytes.{number_in, number_of}
use Rattle.text.specs.line.Values.{number_faults}
use Rattle.text.specs.lines.Store.{with_clocks}
use Rattle.text.specs.lines.Lines.{clocks_line}
use Rattle.text.proofs.head.clocks_line.Goals as goal

pub returns : goal.returns
unfolding clocks_line with_clocks
returns c = c.line.ensures (λ m v. number_faults 0 4 (number_of v)) (λ m v. with_clocks m (number_in (number_of v))) (λ x m r k. search rules)
