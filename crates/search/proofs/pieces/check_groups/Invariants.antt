-- check_groups: the clauses of the first groups are true.
use Rattle.parts.specs.Pieces.{group_piece}
use Rattle.search.proofs.CheckLaws.{Upto}
use Rattle.search.specs.Limits.{most_group_clauses}
use Rattle.search.proofs.pieces.check_groups.Given as goal

abbrev pub invariant-loop-group : goal.invariant-loop-group
invariant-loop-group l = Upto l.a (group_piece l.fn.layout.table l.fn.o) most_group_clauses l.fn.at l.group-index l.fn.layout.table.groups l.count
