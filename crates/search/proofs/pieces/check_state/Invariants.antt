-- check_state: the clauses of the invariants of the first locations are true.
use Rattle.counts.specs.Tables.{most_invariant_clauses}
use Rattle.parts.specs.Pieces.{location_piece}
use Rattle.search.proofs.CheckLaws.{Upto}
use Rattle.search.proofs.pieces.check_state.Given as goal

abbrev pub invariant-loop-l : goal.invariant-loop-l
invariant-loop-l l = Upto l.a (location_piece l.layout.model l.layout.table l.fn.o) most_invariant_clauses l.initial.count l.l l.layout.model.locations l.count
