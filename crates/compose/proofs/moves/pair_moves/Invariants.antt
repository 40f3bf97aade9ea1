-- `pair_moves`: the loop has added the pairs of the edges so far.
use Rattle.std.proofs.Common.{◌≡◌}
use Rattle.model.specs.Indexed.{each}
use Rattle.compose.specs.Moves.{pairs_of, added}
use Rattle.compose.proofs.moves.pair_moves.Given as goal

abbrev pub invariant-loop-e : goal.invariant-loop-e
invariant-loop-e l = l.moves ≡ added l.fn.list (each l.e (pairs_of l.a.model l.b.model))
