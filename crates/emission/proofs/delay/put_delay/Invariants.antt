-- A delay on each group, a group a turn.
use Rattle.model.specs.Indexed.{each}
use Rattle.parts.specs.Pieces.{delay_piece}
use Rattle.emission.specs.Written.{WroteClauses}
use Rattle.emission.proofs.delay.put_delay.Given as goal

abbrev pub invariant-loop-g : goal.invariant-loop-g
invariant-loop-g l = WroteClauses (each l.g (delay_piece l.b l.o l.d)) l.initial.out l.out l.initial.end l.end
