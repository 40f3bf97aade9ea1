-- check_steps: the clauses of the first steps are true.
use Rattle.parts.specs.Pieces.{step_clauses}
use Rattle.search.proofs.CheckLaws.{Upto}
use Rattle.search.specs.Limits.{most_step_clauses}
use Rattle.search.proofs.check_steps.Given as goal

abbrev pub invariant-loop-t : goal.invariant-loop-t
invariant-loop-t l = Upto l.a (step_clauses l.layout.model) most_step_clauses l.fn.at l.t l.fn.bound l.count
