-- `var_line`: what the closure makes of the value is what the definition of the line asks.
use Rattle.std.proofs.Common.{rules}
use Rattle.text.specs.line.Values.{counter_faults, counter_in, greatest_of, initial_of}
use Rattle.text.specs.lines.Store.{with_counter}
use Rattle.text.specs.lines.Lines.{var_line}
use Rattle.text.proofs.head.var_line.Goals as goal

pub returns : goal.returns
unfolding var_line
returns c = c.line.ensures (λ m v. counter_faults (greatest_of v) (initial_of v))
    (λ m v. with_counter m c.args.i (counter_in (greatest_of v) (initial_of v))) (λ x m r k. search rules)
