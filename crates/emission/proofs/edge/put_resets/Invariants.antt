-- Each clock's update, a clock a turn.
use Rattle.model.specs.Indexed.{each}
use Rattle.parts.proofs.EdgeKinds.{reset_piece}
use Rattle.emission.specs.Written.{WroteClauses}
use Rattle.emission.proofs.edge.put_resets.Given as goal

abbrev pub invariant-loop-i : goal.invariant-loop-i
invariant-loop-i l = WroteClauses (each l.i (reset_piece l.b l.x l.o l.e)) l.initial.out l.out l.initial.end l.end
