-- `from_line`: what the closure makes of the value is what the definition of the line asks.
use Rattle.std.proofs.Common.{rules}
use Rattle.text.specs.bytes.Bytes.{number_in, number_of}
use Rattle.text.specs.line.Values.{reference_faults}
use Rattle.text.specs.lines.Store.{with_source}
use Rattle.text.specs.lines.Lines.{from_line}
use Rattle.text.proofs.edges.from_line.Goals as goal

pub returns : goal.returns
unfolding from_line
returns c = c.line.ensures (λ m v. reference_faults m.locations (number_of v)) (λ m v. with_source m c.args.e (number_in (number_of v)))
    (λ x m r k. search rules)
