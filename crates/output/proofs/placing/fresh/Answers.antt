-- `fresh`: the invariant is `Looking`, that so many literals are left after the windows below `low`; each turn looks at one window more.
use native.Mathlib.Omega.{arith}
use Rattle.output.specs.Placing.{literals_of}
use Rattle.output.specs.Literals.{literal_of}
use Rattle.output.proofs.LiteralLaws.{literals_cut}
use Rattle.output.proofs.WindowLaws.{look_none, look_next, look_end}
use Rattle.output.proofs.placing.fresh.Goals as goal

pub loop-low-init : goal.loop-low-init
loop-low-init c = (omega arith, look_none _ _)

pub loop-low-preserved : goal.loop-low-preserved
loop-low-preserved c = (omega arith, look_next 32768 c.loop-low.invariant.1 c.place_literals-bound.ensures)

pub returns : goal.returns
returns c =
    let args = c.args in
    let most = args.variables.most in
    let text = args.text.now in
    look_end c.loop-low.invariant.1 most (literals_of literal_of text) (literals_cut most text) c.loop-low-test.false
