-- `when_line`: what the closure makes of the value is what the definition of the line asks.
use Rattle.std.proofs.Common.{rules}
use Rattle.text.specs.atoms.Atoms.{atom_faults, atom_slots, when_items}
use Rattle.text.specs.lines.Store.{with_guard}
use Rattle.text.specs.lines.Lines.{when_line}
use Rattle.text.proofs.edges.when_line.Goals as goal

pub returns : goal.returns
unfolding when_line when_items
returns c = c.line.ensures (λ m v. atom_faults m.clocks m.vars (when_items v)) (λ m v. with_guard m c.args.e (atom_slots (when_items v)))
    (λ x m r k. search rules)
