-- `edge_of`, by the kind of move: the edges of a well-formed record and standing still are formed, so they may be joined.
use native.Mathlib.Omega.{arith}
use mathlib.Core.Path.{subst}
use Rattle.model.proofs.FormLaws.{formed}
use Rattle.compose.specs.Moves.{MoveOf}
use Rattle.compose.proofs.Fronts.{form_of}
use Rattle.compose.proofs.JoinedLaws.{used-edge, standing_formed, formed_as}
use Rattle.compose.proofs.moves.edge_of.Goals as goal

pub bounds-a-edge : goal.bounds-a-edge
bounds-a-edge c =
    let a = c.args in
    let m = a.a.now.model in
    let n = a.b.now.model in
    let move = subst (MoveOf m n) c.in-FirstAlone.is c.requires in
    omega (arith, move.0, (formed m (form_of a.a.now)).used_le)

pub edge-requires : goal.edge-requires
edge-requires c =
    let a = c.args in
    let m = a.a.now.model in
    let n = a.b.now.model in
    let move = subst (MoveOf m n) c.in-FirstAlone.is c.requires in
    let w = formed m (form_of a.a.now) in
    let v = formed n (form_of a.b.now) in (
      used-edge m (form_of a.a.now) c.in-FirstAlone.edge move.0,
      formed_as c.standing.ensures (standing_formed c.in-FirstAlone.stays (omega (arith, move.1, v.locations_le))),
    )

pub bounds-b-edge : goal.bounds-b-edge
bounds-b-edge c =
    let a = c.args in
    let m = a.a.now.model in
    let n = a.b.now.model in
    let move = subst (MoveOf m n) c.in-SecondAlone.is c.requires in
    omega (arith, move.0, (formed n (form_of a.b.now)).used_le)

pub edge-requires-in-SecondAlone : goal.edge-requires-in-SecondAlone
edge-requires-in-SecondAlone c =
    let a = c.args in
    let m = a.a.now.model in
    let n = a.b.now.model in
    let move = subst (MoveOf m n) c.in-SecondAlone.is c.requires in
    let w = formed m (form_of a.a.now) in
    let v = formed n (form_of a.b.now) in (
      formed_as c.standing-in-SecondAlone.ensures (standing_formed c.in-SecondAlone.stays (omega (arith, move.1, w.locations_le))),
      used-edge n (form_of a.b.now) c.in-SecondAlone.edge move.0,
    )

pub bounds-a-first : goal.bounds-a-first
bounds-a-first c =
    let a = c.args in
    let m = a.a.now.model in
    let n = a.b.now.model in
    let move = subst (MoveOf m n) c.in-Together.is c.requires in
    omega (arith, move.0, (formed m (form_of a.a.now)).used_le)

pub bounds-b-second : goal.bounds-b-second
bounds-b-second c =
    let a = c.args in
    let m = a.a.now.model in
    let n = a.b.now.model in
    let move = subst (MoveOf m n) c.in-Together.is c.requires in
    omega (arith, move.1, (formed n (form_of a.b.now)).used_le)

pub edge-requires-in-Together : goal.edge-requires-in-Together
edge-requires-in-Together c =
    let a = c.args in
    let m = a.a.now.model in
    let n = a.b.now.model in
    let move = subst (MoveOf m n) c.in-Together.is c.requires in
    let w = formed m (form_of a.a.now) in
    let v = formed n (form_of a.b.now) in (
      used-edge m (form_of a.a.now) c.in-Together.first move.0,
      used-edge n (form_of a.b.now) c.in-Together.second move.1,
    )
