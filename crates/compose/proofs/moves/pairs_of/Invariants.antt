-- `pairs_of`: the loop has added the pairs with the edges so far.
use Rattle.std.proofs.Common.{◌≡◌}
use Rattle.model.specs.Indexed.{each}
use Rattle.compose.specs.Moves.{pair_of, added}
use Rattle.compose.proofs.moves.pairs_of.Given as goal

abbrev pub invariant-loop-f : goal.invariant-loop-f
invariant-loop-f l = l.moves ≡ added l.fn.list (each l.f (pair_of l.a.model l.b.model l.e))
