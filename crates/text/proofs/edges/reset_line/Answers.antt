-- `reset_line`: what the closure makes of the value is what the definition of the line asks.
use Rattle.std.proofs.Common.{rules}
use Rattle.text.specs.lines.Store.{with_resets}
use Rattle.text.specs.resets.Resets.{reset_faults, reset_items, reset_slots}
use Rattle.text.specs.lines.Lines.{reset_line}
use Rattle.text.proofs.edges.reset_line.Goals as goal

pub returns : goal.returns
unfolding reset_line reset_items
returns c = c.line.ensures (λ m v. reset_faults m.clocks (reset_items v)) (λ m v. with_resets m c.args.e (reset_slots (reset_items v)))
    (λ x m r k. search rules)
