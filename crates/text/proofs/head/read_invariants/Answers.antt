-- `read_invariants`: the loop's invariant is `Turning`: after some turns, as many of them are read; the first that is refused makes the answer.
use Rattle.std.proofs.Common.{rules, ◌≡◌, refl, Err}
use Rattle.text.specs.lines.Sequence.{read_invariants}
use Rattle.text.proofs.lines.Turns.{turn_none, turn_more, turn_all, turn_stops, inv_stays}
use Rattle.text.proofs.head.read_invariants.Goals as goal

pub loop-l-init : goal.loop-l-init
loop-l-init c = turn_none c.requires refl

pub inv_line-requires : goal.inv_line-requires
inv_line-requires c = c.loop-l.invariant.turned.placed

pub loop-l-preserved : goal.loop-l-preserved
loop-l-preserved c = turn_more c.loop-l.invariant (search rules) c.in_ok-q.ensures

pub returns-in_err-q : goal.returns-in_err-q
unfolding read_invariants
returns-in_err-q c =
    let e : c.from_residual.result ≡ Err c.in_err-q.field-0.0 = search rules in
    rw e (turn_stops c.loop-l.invariant inv_stays (search rules) _ c.in_err-q.ensures)

pub returns : goal.returns
unfolding read_invariants
returns c = turn_all c.loop-l.invariant (search rules)
