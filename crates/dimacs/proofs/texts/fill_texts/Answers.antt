-- `fill_texts`: the loop has filled the entries of the first variables.
use mathlib.Core.Path.{◌≡◌}
use native.Mathlib.Omega.{arith}
use Rattle.dimacs.proofs.TextLaws.{texts_none}
use Rattle.dimacs.proofs.texts.fill_texts.Goals as goal

pub loop-i-init : goal.loop-i-init
loop-i-init c = (omega arith, texts_none c.args.o c.args.texts.now c.requires.0)

pub fill_ten-requires : goal.fill_ten-requires
fill_ten-requires c =
    let end = c.ten_end-j.ensures in
    (c.loop-i.invariant.1, end.0, omega arith, omega arith, end.2)

pub loop-i-preserved : goal.loop-i-preserved
loop-i-preserved c = (c.ten_end-j.ensures.1, c.fill_ten.ensures)

pub returns : goal.returns
returns c =
    let done : c.loop-i.i ≡ c.args.n = omega arith in
    rw done at c.loop-i.invariant.1
