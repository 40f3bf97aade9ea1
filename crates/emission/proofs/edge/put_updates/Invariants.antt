-- Each counter's update, a counter a turn.
use Rattle.model.specs.Indexed.{each}
use Rattle.parts.proofs.EdgeKinds.{update_piece}
use Rattle.emission.specs.Written.{WroteClauses}
use Rattle.emission.proofs.edge.put_updates.Given as goal

abbrev pub invariant-loop-i : goal.invariant-loop-i
invariant-loop-i l = WroteClauses (each l.i (update_piece l.b l.x l.o l.e)) l.initial.out l.out l.initial.end l.end
