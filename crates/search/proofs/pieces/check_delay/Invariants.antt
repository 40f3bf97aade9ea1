-- check_delay: the clauses of the first groups under the delay are true.
use Rattle.parts.specs.Pieces.{delay_piece}
use Rattle.search.proofs.CheckLaws.{Upto}
use Rattle.search.specs.Limits.{most_part_clauses}
use Rattle.search.proofs.pieces.check_delay.Given as goal

abbrev pub invariant-loop-g : goal.invariant-loop-g
invariant-loop-g l = Upto l.a (delay_piece l.b l.fn.o l.fn.d) most_part_clauses l.fn.at l.g l.b.groups l.count
