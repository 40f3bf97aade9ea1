-- check_edge: the clauses of the first parts of the edge are true.
use Prim.Native.Nat.{◌+◌}
use Rattle.model.specs.Record.{edge_at}
use Rattle.parts.specs.Pieces.{edge_piece}
use Rattle.search.proofs.CheckLaws.{Upto}
use Rattle.search.specs.Limits.{most_part_clauses}
use Rattle.search.proofs.check_edge.Given as goal

abbrev pub invariant-loop-j : goal.invariant-loop-j
invariant-loop-j l =
    Upto l.a (edge_piece l.x l.fn.layout.table (edge_at l.fn.layout.model l.fn.e) l.fn.o) most_part_clauses l.fn.at l.j (l.fn.layout.table.groups + 5) l.count
