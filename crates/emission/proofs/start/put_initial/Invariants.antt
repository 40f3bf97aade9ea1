-- The initial value of each group, a group a turn.
use Rattle.model.specs.Indexed.{each}
use Rattle.parts.specs.Pieces.{initial_piece}
use Rattle.emission.specs.Written.{WroteClauses}
use Rattle.emission.proofs.start.put_initial.Given as goal

abbrev pub invariant-loop-g : goal.invariant-loop-g
invariant-loop-g l = WroteClauses (each l.g (initial_piece l.layout.model l.layout.table)) l.initial.out l.out l.initial.end l.end
