-- `number`: the invariant is `Saying`, that the bytes passed say the number and none of them is a space.
use Prim.Native.Nat.{◌+◌}
use lib.ListN.{take}
use Rattle.output.proofs.Parts.{rest_is}
use Rattle.output.proofs.WordLaws.{saying_none, saying_more, saying_space, saying_all}
use Rattle.output.proofs.literals.number.Goals as goal

pub loop-i-init : goal.loop-i-init
loop-i-init c = saying_none _ _

pub returns-then-b-eq32 : goal.returns-then-b-eq32
returns-then-b-eq32 c =
    let s = c.args.s.now in
    let loop = c.loop-i in
    rw (rest_is (loop.i + 1) s) (take loop.i s, saying_space loop.invariant c.loop-i-test.true c.if-b-eq32.true, loop.invariant.number)

pub loop-i-preserved : goal.loop-i-preserved
loop-i-preserved c = saying_more c.loop-i.invariant c.loop-i-test.true c.if-b-eq32.false c.next_number-n.ensures

pub returns : goal.returns
returns c =
    let loop = c.loop-i in
    (take loop.i c.args.s.now, saying_all loop.invariant c.loop-i-test.false, loop.invariant.number)
