-- The pairs of member i: a pair a turn.
use native.Mathlib.Omega.{arith}
use Rattle.emission.proofs.ClauseLaws.{wrote_each, wrote_each_none, room_each}
use Prim.Native.Nat.{◌+◌, ◌-◌}
use mathlib.Core.Path.{◌≡◌}
use Rattle.emission.proofs.words.put_pairs_of.Goals as goal

pub loop-j-init : goal.loop-j-init
loop-j-init c = (omega arith, wrote_each_none _ _ _ (omega (arith, c.requires.2.words.room)))

pub put_exclusion-end-requires : goal.put_exclusion-end-requires
put_exclusion-end-requires c =
    (omega arith, omega arith, room_each _ _ _ c.loop-j.invariant.1 c.loop-j-test.true c.requires.2)

pub loop-j-preserved : goal.loop-j-preserved
loop-j-preserved c = (omega arith, wrote_each _ _ c.loop-j.invariant.1 c.put_exclusion-end.ensures)

pub returns : goal.returns
returns c =
    let done : c.loop-j.j ≡ c.args.n - (c.args.i + 1) = omega arith in
    rw done at c.loop-j.invariant.1
