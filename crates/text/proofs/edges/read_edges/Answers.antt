-- `read_edges`: the loop's invariant is `Turning`: after some turns, as many of them are read; the first that is refused makes the answer.
use Rattle.std.proofs.Common.{rules, ◌≡◌, refl, Err}
use Rattle.text.specs.lines.Sequence.{read_edges}
use Rattle.text.proofs.lines.Turns.{turn_none, turn_more, turn_all, turn_stops, edge_stays}
use Rattle.text.proofs.edges.read_edges.Goals as goal

pub loop-e-init : goal.loop-e-init
loop-e-init c = turn_none c.requires refl

pub read_edge-requires : goal.read_edge-requires
read_edge-requires c = c.loop-e.invariant.turned.placed

pub loop-e-preserved : goal.loop-e-preserved
loop-e-preserved c = turn_more c.loop-e.invariant (search rules) c.in_ok-q.ensures

pub returns-in_err-q : goal.returns-in_err-q
unfolding read_edges
returns-in_err-q c =
    let e : c.from_residual.result ≡ Err c.in_err-q.field-0.0 = search rules in
    rw e (turn_stops c.loop-e.invariant edge_stays (search rules) _ c.in_err-q.ensures)

pub returns : goal.returns
unfolding read_edges
returns c = turn_all c.loop-e.invariant (search rules)
