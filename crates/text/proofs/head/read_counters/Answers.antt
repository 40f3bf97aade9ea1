-- `read_counters`: the loop's invariant is `Turning`: after some turns, as many of them are read; the first that is refused makes the answer.
use Rattle.std.proofs.Common.{rules, ◌≡◌, refl, Err}
use Rattle.text.specs.lines.Sequence.{read_counters}
use Rattle.text.proofs.lines.Turns.{turn_none, turn_more, turn_all, turn_stops, var_stays}
use Rattle.text.proofs.head.read_counters.Goals as goal

pub loop-i-init : goal.loop-i-init
loop-i-init c = turn_none c.requires refl

pub var_line-requires : goal.var_line-requires
var_line-requires c = c.loop-i.invariant.turned.placed

pub loop-i-preserved : goal.loop-i-preserved
loop-i-preserved c = turn_more c.loop-i.invariant (search rules) c.in_ok-q.ensures

pub returns-in_err-q : goal.returns-in_err-q
unfolding read_counters
returns-in_err-q c =
    let e : c.from_residual.result ≡ Err c.in_err-q.field-0.0 = search rules in
    rw e (turn_stops c.loop-i.invariant var_stays (search rules) _ c.in_err-q.ensures)

pub returns : goal.returns
unfolding read_counters
returns c = turn_all c.loop-i.invariant (search rules)
