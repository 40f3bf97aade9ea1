-- `place_line`: what is left to place, placed from here, comes to all placed from the first state.
use mathlib.Core.Path.{◌≡◌}
use mathlib.Core.List.{foldl}
use Rattle.output.specs.Counting.{literals_left}
use Rattle.output.specs.Placing.{marking, placed}
use Rattle.output.proofs.placing.place_line.Given as goal

abbrev pub invariant-loop-literal : goal.invariant-loop-literal
invariant-loop-literal l =
    foldl (placed l.low) (marking l.p l.marks) (literals_left l.literal-iterator)
    ≡ foldl (placed l.low) (marking l.initial.p l.initial.marks) (literals_left l.initial.literal-iterator)
