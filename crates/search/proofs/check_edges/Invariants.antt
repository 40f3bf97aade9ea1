-- check_edges: the clauses of the first edges are true.
use Rattle.counts.specs.Tables.{most_edge_clauses}
use Rattle.parts.specs.Pieces.{edge_clauses}
use Rattle.search.proofs.CheckLaws.{Upto}
use Rattle.search.proofs.check_edges.Given as goal

abbrev pub invariant-loop-e : goal.invariant-loop-e
invariant-loop-e l = Upto l.a (edge_clauses l.layout.model l.fn.o) most_edge_clauses l.fn.at l.e l.layout.model.used l.count
