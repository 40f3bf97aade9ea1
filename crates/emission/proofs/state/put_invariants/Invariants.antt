-- The invariant of each location, a location a turn.
use Rattle.model.specs.Indexed.{each}
use Rattle.list.specs.Items.{invariant_of}
use Rattle.list.specs.Clauses.{one_hot_width, clauses_of}
use Rattle.emission.specs.Written.{WroteClauses}
use Rattle.emission.proofs.state.put_invariants.Given as goal

abbrev pub invariant-loop-l : goal.invariant-loop-l
invariant-loop-l l =
    WroteClauses (each l.l (λ i. clauses_of (invariant_of one_hot_width l.layout.model l.o i))) l.initial.out l.out l.initial.end l.end
