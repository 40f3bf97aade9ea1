-- check_part: the clauses of the values up to the v-th are true.
use Rattle.parts.specs.Rules.{value_clauses}
use Rattle.search.proofs.CheckLaws.{Upto}
use Rattle.search.proofs.truth.check_part.Given as goal

abbrev pub invariant-loop-v : goal.invariant-loop-v
invariant-loop-v l = Upto l.a (value_clauses l.x l.p) 1 l.fn.at l.v l.p.size l.count
