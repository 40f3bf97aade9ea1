-- check_initial: the first groups stand at their initial values.
use Rattle.parts.specs.Pieces.{initial_piece}
use Rattle.search.proofs.CheckLaws.{Upto}
use Rattle.search.proofs.pieces.check_initial.Given as goal

abbrev pub invariant-loop-g : goal.invariant-loop-g
invariant-loop-g l = Upto l.a (initial_piece l.layout.model l.layout.table) 1 l.fn.at l.g l.layout.table.groups l.count
