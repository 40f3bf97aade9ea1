-- `fill_texts`: the loop has filled the entries of the first variables.
use Prim.Native.Nat.{◌≤◌, ◌-◌}
use Rattle.dimacs.specs.Texts.{TextsOf}
use Rattle.dimacs.proofs.texts.fill_texts.Given as goal

abbrev pub invariant-loop-i : goal.invariant-loop-i
invariant-loop-i l = (l.i ≤ l.n) × TextsOf l.o l.i l.texts

abbrev pub decreases-loop-i : goal.decreases-loop-i
decreases-loop-i l = l.n - l.i
