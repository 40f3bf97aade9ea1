-- `add`: the move is counted; where there is a slot it is stored, and past the last slot storing changes nothing.
use native.Mathlib.Omega.{arith}
use Rattle.compose.proofs.PlacedLaws.{one_stored, one_counted}
use Rattle.compose.proofs.moves.add.Goals as goal
use Rattle.compose.proofs.moves.add.Goals.{then-at-lt-EDGES, else-at-lt-EDGES}

pub returns : goal.returns
returns c =
    let list = c.args.list in
    elim c.if-at-lt-EDGES.branch [
      | then-at-lt-EDGES w ↦ one_stored list c.args.way w.slots-is
      | else-at-lt-EDGES w ↦ one_counted list c.args.way w.slots-is (omega arith)
    ]
