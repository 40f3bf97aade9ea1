-- `read_through`: each turn of the loop judges a line. The invariant is `Passing`: what is left, judged from here, comes to the whole text; and that
-- no more lines were judged than bytes passed. A fault ends it, since no token changes a reading with a fault.
use Prim.Native.Nat.{◌+◌, ◌≤◌}
use lib.ListN.{length}
use Rattle.output.specs.Tokens.{part_tokens}
use Rattle.output.specs.Counting.{literal_up_to, no_reading, count}
use Rattle.output.proofs.TokenLaws.{Passing}
use Rattle.output.proofs.reading.read_through.Given as goal

abbrev pub invariant-loop-line : goal.invariant-loop-line
invariant-loop-line l =
    Passing (count l.variables.most l.limit) (part_tokens (literal_up_to l.variables.most)) no_reading l.text l.r l.rest
    × (l.r.line + length l.rest ≤ length l.text)

abbrev pub decreases-loop-line : goal.decreases-loop-line
decreases-loop-line l = length l.rest
