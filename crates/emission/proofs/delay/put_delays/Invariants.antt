-- Each delay, a delay a turn.
use Rattle.model.specs.Indexed.{each}
use Rattle.list.specs.Items.{delay_items}
use Rattle.list.specs.Clauses.{one_hot_width, clauses_of}
use Rattle.emission.specs.Written.{WroteClauses}
use Rattle.emission.proofs.delay.put_delays.Given as goal

abbrev pub invariant-loop-d : goal.invariant-loop-d
invariant-loop-d l =
    WroteClauses (each l.d (λ i. clauses_of (delay_items one_hot_width l.layout.model l.o i))) l.initial.out l.out l.initial.end l.end
