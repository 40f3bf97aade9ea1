-- check_location: the clauses of the first atoms are true.
use Prim.Native.Nat.{◌+◌}
use Rattle.model.specs.Record.{invariant_at}
use Rattle.parts.specs.Pieces.{atom_piece}
use Rattle.search.proofs.CheckLaws.{Upto}
use Rattle.search.specs.Limits.{most_part_clauses}
use Rattle.search.proofs.pieces.check_location.Given as goal

abbrev pub invariant-loop-atom : goal.invariant-loop-atom
invariant-loop-atom l =
    Upto l.a (atom_piece l.layout.table l.fn.o (l.fn.o + l.fn.l) (invariant_at l.layout.model l.fn.l)) most_part_clauses l.fn.at l.atom-index 4 l.count
