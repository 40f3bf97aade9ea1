-- `sum`: piece after piece; each is small, and so is what so many have together.
use Rattle.std.proofs.Common.{arith, ◌≡◌}
use Rattle.counts.proofs.CountLaws.{counted_each_none, counted_each_more, counted_is}
use Rattle.counts.proofs.Count.sum.Goals as goal

pub loop-i-init : goal.loop-i-init
loop-i-init g c = record { clauses_le = omega arith; words_le = omega arith; counted = λ f h. counted_each_none f }

pub add-sum-requires : goal.add-sum-requires
add-sum-requires g c =
    let v = c.loop-i.invariant in
    let p = c.requires.small _ _ c.loop-i-test.true c.piece.ensures in
    (omega (arith, v.clauses_le, p.0, c.loop-i-test.true, c.requires.few), omega (arith, v.words_le, p.1, c.loop-i-test.true, c.requires.few))

pub loop-i-preserved : goal.loop-i-preserved
loop-i-preserved g c =
    let v = c.loop-i.invariant in
    let p = c.requires.small _ _ c.loop-i-test.true c.piece.ensures in
    let s = c.add-sum.ensures in
    record {
      clauses_le = omega (arith, v.clauses_le, p.0, s.0);
      words_le = omega (arith, v.words_le, p.1, s.1);
      counted = λ f h. counted_is (counted_each_more f (v.counted f h) (h _ _ c.loop-i-test.true c.piece.ensures)) s.0 s.1;
    }

pub returns : goal.returns
returns g c f h =
    let done : c.loop-i.i ≡ c.args.n = omega (arith, c.loop-i-test.false, c.loop-i.auto.i-end) in
    rw done at (c.loop-i.invariant.counted f h)
