-- `alone`: the loop has added the moves of the locations so far, whatever function it is that `way` computes.
use Rattle.std.proofs.Common.{ℕ, ◌≡◌, ◌<◌, ◌+◌}
use Rattle.model.specs.Indexed.{list_below}
use Rattle.compose.specs.declared.moves.Move.{Move}
use Rattle.compose.specs.Moves.{added}
use Rattle.compose.proofs.moves.alone.Given as goal

abbrev pub invariant-loop-j : goal.invariant-loop-j
invariant-loop-j g l =
    (l.moves.count ≡ l.fn.list.count + l.j)
    × ((f : ℕ → Move) → ((j : ℕ) (x : Move) → j < 256 → goal.F-post g l.way j x → x ≡ f j) → l.moves ≡ added l.fn.list (list_below f l.j))
