-- `set_line`: what the closure makes of the value is what the definition of the line asks.
use Rattle.std.proofs.Common.{rules}
use Rattle.text.specs.lines.Store.{with_updates}
use Rattle.text.specs.updates.Sets.{order_slots, set_faults, set_items, update_slots}
use Rattle.text.specs.lines.Lines.{set_line}
use Rattle.text.proofs.edges.set_line.Goals as goal

pub returns : goal.returns
unfolding set_line set_items
returns c = c.line.ensures (λ m v. set_faults m.vars (set_items v))
    (λ m v. with_updates m c.args.e (update_slots (set_items v)) (order_slots (set_items v))) (λ x m r k. search rules)
