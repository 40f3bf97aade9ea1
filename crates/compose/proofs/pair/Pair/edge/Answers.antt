-- `edge`: the edge of a move; the slots after the last move are blank.
use Rattle.std.proofs.Common.{arith, sym, subst, ◌∙◌}
use Rattle.compose.specs.Moves.{MoveOf}
use Rattle.compose.proofs.ComposedLaws.{count_in, move_in, edge_here, edge_none, standing_blank}
use Rattle.compose.proofs.MoveLaws.{move_of}
use Rattle.compose.proofs.pair.Pair.edge.Goals as goal

pub edge_of-requires : goal.edge_of-requires
edge_of-requires c =
    let a = c.args.self.now.a.model in
    let b = c.args.self.now.b.model in
    let given = c.args.self.now.listed in
    subst (MoveOf a b) (sym (move_in a b given _ c.args.n c.requires)) (move_of a b c.args.n (omega (arith, c.if-n-self.true, count_in a b given)))

pub returns-then-n-self : goal.returns-then-n-self
returns-then-n-self c =
    let a = c.args.self.now.a.model in
    let b = c.args.self.now.b.model in
    let given = c.args.self.now.listed in
    edge_here a b c.args.n (omega (arith, c.if-n-self.true, count_in a b given)) (move_in a b given _ c.args.n c.requires) c.edge_of.ensures

pub returns-else-n-self : goal.returns-else-n-self
returns-else-n-self c =
    let a = c.args.self.now.a.model in
    let b = c.args.self.now.b.model in
    c.standing.ensures ∙ standing_blank ∙ edge_none a b c.args.n (omega (arith, c.if-n-self.false, count_in a b c.args.self.now.listed))
