-- The pairs of member i: a pair a turn.
use Rattle.emission.specs.Pairs.{pair}
use Rattle.emission.specs.Written.{WroteClauses}
use Rattle.model.specs.Indexed.{each}
use Prim.Native.Nat.{◌-◌, ◌≤◌}
use Rattle.emission.proofs.words.put_pairs_of.Given as goal

abbrev pub invariant-loop-j : goal.invariant-loop-j
invariant-loop-j l = (l.j ≤ l.j-end) × WroteClauses (each l.j (pair l.b l.i)) l.initial.out l.out l.initial.end l.end

abbrev pub decreases-loop-j : goal.decreases-loop-j
decreases-loop-j l = l.j-end - l.j
