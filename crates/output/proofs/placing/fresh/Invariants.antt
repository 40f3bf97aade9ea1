-- `fresh`: the invariant is `Looking`, that so many literals are left after the windows below `low`; each turn looks at one window more.
use Prim.Native.Nat.{◌+◌, ◌-◌, ◌≤◌}
use Rattle.output.specs.Placing.{literals_of}
use Rattle.output.specs.Counting.{literal_up_to}
use Rattle.output.proofs.WindowLaws.{Looking}
use Rattle.output.proofs.placing.fresh.Given as goal

abbrev pub invariant-loop-low : goal.invariant-loop-low
invariant-loop-low l =
    (l.low ≤ l.variables.most + 1 + 32768) × Looking (literals_of (literal_up_to l.variables.most) l.text) l.named l.low l.bound

abbrev pub decreases-loop-low : goal.decreases-loop-low
decreases-loop-low l = l.variables.most + 2 + 32768 - l.low
