-- The group clauses: the clause of all members, then the pairs of each member, a member a turn.
use Rattle.emission.specs.Pairs.{pairs_of}
use Rattle.emission.specs.Written.{WroteClauses}
use Rattle.model.specs.Indexed.{each}
use Prim.Native.Nat.{◌-◌, ◌≤◌}
use Rattle.emission.proofs.words.put_group.Given as goal

abbrev pub invariant-loop-i : goal.invariant-loop-i
invariant-loop-i l = (l.i ≤ l.n) × WroteClauses (each l.i (pairs_of l.b l.n)) l.initial.out l.out l.initial.end l.end

abbrev pub decreases-loop-i : goal.decreases-loop-i
decreases-loop-i l = l.n - l.i
