-- `alone`: the loop has added the moves of the locations so far.
use Rattle.std.proofs.Common.{arith, ap, ◌∙◌, ◌≡◌, ◌∷◌, []}
use Rattle.compose.specs.Moves.{added}
use Rattle.compose.specs.declared.moves.Moves.{Moves}
use Rattle.compose.specs.declared.moves.Move.{Move}
use Rattle.compose.proofs.PlacedLaws.{added_count}
use Rattle.compose.proofs.Adding.{list_start, list_turn}
use Rattle.compose.proofs.moves.alone.Goals as goal

pub loop-j-init : goal.loop-j-init
loop-j-init g c = (omega arith, λ f h. list_start _ _)

pub add-moves-requires : goal.add-moves-requires
add-moves-requires g c = omega arith

pub loop-j-preserved : goal.loop-j-preserved
loop-j-preserved g c =
    let loop = c.loop-j in
    let one = c.add-moves.ensures in
    let more = ap (λ (m : Moves). m.count) one ∙ added_count loop.moves (c.way.result ∷ []) in (
      omega (arith, more),
      λ f h. list_turn c.args.list f loop.j (loop.invariant.1 f h)
          (one ∙ ap (λ (x : Move). added loop.moves (x ∷ [])) (h loop.j c.way.result (omega arith) c.way.ensures)),
    )

pub returns : goal.returns
returns g c =
    let e : c.loop-j.j ≡ c.args.locations = omega arith in
    record { count = omega arith; moves = λ f h. rw e at (c.loop-j.invariant.1 f h) }
