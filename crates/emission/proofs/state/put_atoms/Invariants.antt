-- The pieces of four slots, a slot a turn.
use Rattle.model.specs.Indexed.{each}
use Rattle.parts.specs.Pieces.{atom_piece}
use Rattle.emission.specs.Written.{WroteClauses}
use Rattle.emission.proofs.state.put_atoms.Given as goal

abbrev pub invariant-loop-atom : goal.invariant-loop-atom
invariant-loop-atom l = WroteClauses (each l.atom-index (atom_piece l.b l.o l.x l.atoms)) l.initial.out l.out l.initial.end l.end
