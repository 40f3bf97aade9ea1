-- `place_literals`: each turn of the loop places a line. The invariant is `Passing`: what is left to place, placed from here, comes to the whole text
-- placed from the first state. The bound ends it, since nothing is placed after it.
use Rattle.output.specs.Placing.{literals_of}
use Rattle.output.proofs.TokenLaws.{pass_none, pass_last, pass_more, pass_stays, bound_stays}
use Rattle.output.proofs.LiteralLaws.{literals_by_line}
use Rattle.output.proofs.placing.place_literals.Goals as goal

pub loop-line-init : goal.loop-line-init
loop-line-init c = pass_none

pub returns-then-p : goal.returns-then-p
unfolding literals_of
returns-then-p c =
    pass_stays (pass_more c.loop-line.invariant (literals_by_line _) c.in-Some.ensures.0 c.place_line-p.ensures)
    (bound_stays c.args.low _ c.if-p.true)

pub loop-line-preserved : goal.loop-line-preserved
loop-line-preserved c = pass_more c.loop-line.invariant (literals_by_line _) c.in-Some.ensures.0 c.place_line-p.ensures

pub returns : goal.returns
unfolding literals_of
returns c = pass_last c.loop-line.invariant (literals_by_line _) c.in_default.ensures
