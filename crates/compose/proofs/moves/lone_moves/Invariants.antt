-- `lone_moves`: the loop has added the moves of the edges so far; an edge whose label is shared has none.
use Rattle.std.proofs.Common.{ℕ, ◌≡◌, ◌<◌, ◌+◌, ◌*◌, ◌≤◌}
use Rattle.model.specs.Indexed.{each}
use Rattle.compose.specs.declared.moves.Move.{Move}
use Rattle.compose.specs.Moves.{added}
use Rattle.compose.proofs.Adding.{lone}
use Rattle.compose.proofs.moves.lone_moves.Given as goal

abbrev pub invariant-loop-e : goal.invariant-loop-e
invariant-loop-e g l =
    (l.moves.count ≤ l.fn.list.count + l.e-counter * 16)
    × ((f : ℕ → ℕ → Move) → ((e j : ℕ) (x : Move) → e < 256 → j < 256 → goal.F-post g l.way e j x → x ≡ f e j)
    → l.moves ≡ added l.fn.list (each l.e-counter (lone l.own.model l.other.model f)))
