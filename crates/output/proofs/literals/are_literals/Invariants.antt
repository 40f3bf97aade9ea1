-- `are_literals`: the invariant is that what is left is of literals if and only if all is.
use mathlib.Core.Path.{◌≡◌}
use lib.ListN.{length}
use Rattle.text.specs.bytes.Bytes.{split_on}
use Rattle.output.specs.Literals.{are_literals}
use Rattle.output.proofs.literals.are_literals.Given as goal

abbrev pub invariant-loop-word : goal.invariant-loop-word
invariant-loop-word l = are_literals (split_on 32 l.rest) ≡ are_literals (split_on 32 l.s)

abbrev pub decreases-loop-word : goal.decreases-loop-word
decreases-loop-word l = length l.rest
