-- `inv_line`: what the closure makes of the value is what the definition of the line asks.
use Rattle.std.proofs.Common.{rules}
use Rattle.text.specs.atoms.Atoms.{atom_faults, atom_slots, inv_items}
use Rattle.text.specs.lines.Store.{with_invariant}
use Rattle.text.specs.lines.Lines.{inv_line}
use Rattle.text.proofs.head.inv_line.Goals as goal

pub returns : goal.returns
unfolding inv_line inv_items
returns c = c.line.ensures (λ m v. atom_faults m.clocks m.vars (inv_items v)) (λ m v. with_invariant m c.args.l (atom_slots (inv_items v)))
    (λ x m r k. search rules)
