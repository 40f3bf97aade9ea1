-- `fill_ten`: the loop has filled the entries up to variable `k`; where there is one more, `x` is the entry of its number.
use Prim.Native.Nat.{◌≤◌, ◌<◌, ◌+◌, ◌-◌}
use Rattle.dimacs.specs.Texts.{TextsOf}
use Rattle.dimacs.proofs.TextLaws.{Rising}
use Rattle.dimacs.proofs.texts.fill_ten.Given as goal

abbrev pub invariant-loop-k : goal.invariant-loop-k
invariant-loop-k l = (l.i ≤ l.k) × (l.k ≤ l.j) × TextsOf l.o l.k l.texts × (l.k < l.j → Rising (l.o + (l.k + 1)) l.x l.rise)

abbrev pub decreases-loop-k : goal.decreases-loop-k
decreases-loop-k l = l.j - l.k
