-- A row a turn, each in the tail that begins where the one before ended.
use Rattle.std.proofs.Common.{◌+◌}
use Rattle.model.specs.Indexed.{each}
use Rattle.emission.specs.Cut.{row_of}
use Rattle.emission.specs.Written.{WroteClauses}
use Rattle.emission.proofs.pieces.put_rows.Given as goal

abbrev pub invariant-loop-i : goal.invariant-loop-i
invariant-loop-i l = WroteClauses (each l.i (λ j. row_of l.layout.model l.bound (l.from + j))) l.initial.out l.out l.initial.at l.at
