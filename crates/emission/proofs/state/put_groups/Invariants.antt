-- The group clauses of each group, a group a turn.
use Rattle.model.specs.Indexed.{each}
use Rattle.parts.specs.Pieces.{group_piece}
use Rattle.emission.specs.Written.{WroteClauses}
use Rattle.emission.proofs.state.put_groups.Given as goal

abbrev pub invariant-loop-g : goal.invariant-loop-g
invariant-loop-g l = WroteClauses (each l.g (group_piece l.layout.table l.o)) l.initial.out l.out l.initial.end l.end
