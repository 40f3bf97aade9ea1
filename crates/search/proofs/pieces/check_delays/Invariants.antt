-- check_delays: the clauses of the delays below d are true.
use Prim.Native.Nat.{◌+◌}
use Rattle.parts.specs.Pieces.{delay_pieces}
use Rattle.search.proofs.CheckLaws.{Upto}
use Rattle.search.specs.Limits.{most_delay_clauses}
use Rattle.search.proofs.pieces.check_delays.Given as goal

abbrev pub invariant-loop-d : goal.invariant-loop-d
invariant-loop-d l = Upto l.a (delay_pieces l.b l.fn.o) most_delay_clauses l.fn.at l.d (l.b.top + 1) l.count
