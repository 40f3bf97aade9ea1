-- `counters_size`: the loop holds the sum over the counters so far, each of size 256 or less.
use Rattle.model.specs.Automaton.{group_size, counter}
use Rattle.model.specs.Indexed.{sum_below}
use mathlib.Core.Path.{◌≡◌}
use Prim.Native.Nat.{◌≤◌, ◌-◌, ◌*◌}
use Rattle.model.proofs.Model.counters_size.Given as goal

abbrev pub invariant-loop-i : goal.invariant-loop-i
invariant-loop-i l =
    (l.i ≤ l.i-end) × (l.sum ≡ sum_below (λ j. group_size l.self (counter j)) l.i) × (l.sum ≤ l.i * 256) × (l.i-end ≡ l.self.vars) × (l.i-end ≤ 255)

abbrev pub decreases-loop-i : goal.decreases-loop-i
decreases-loop-i l = l.i-end - l.i
