-- `count` edges from edge `from` on, an edge a turn.
use Rattle.std.proofs.Common.{◌+◌}
use Rattle.model.specs.Indexed.{each}
use Rattle.list.specs.Items.{edge_of}
use Rattle.list.specs.Clauses.{one_hot_width, clauses_of}
use Rattle.emission.specs.Written.{WroteClauses}
use Rattle.emission.proofs.edge.put_edges.Given as goal

abbrev pub invariant-loop-i : goal.invariant-loop-i
invariant-loop-i l =
    WroteClauses (each l.i (λ j. clauses_of (edge_of one_hot_width l.layout.model l.o (l.from + j)))) l.initial.out l.out l.initial.end l.end
