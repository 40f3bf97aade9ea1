-- `place_literals`: each turn of the loop places a line. The invariant is `Passing`: what is left to place, placed from here, comes to the whole text
-- placed from the first state. The bound ends it, since nothing is placed after it.
use lib.ListN.{length}
use Rattle.output.specs.Counting.{literal_up_to}
use Rattle.output.specs.Placing.{part_literals, marking, placed}
use Rattle.output.proofs.TokenLaws.{Passing}
use Rattle.output.proofs.placing.place_literals.Given as goal

abbrev pub invariant-loop-line : goal.invariant-loop-line
invariant-loop-line l =
    Passing (placed l.low) (part_literals (literal_up_to l.variables.most)) (marking (record { seen = 0; bound = l.bound }) l.initial.marks) l.text
    (marking l.p l.marks) l.rest

abbrev pub decreases-loop-line : goal.decreases-loop-line
decreases-loop-line l = length l.rest
