-- `take`: the stamped literals are those of the words so far, and the rest of the clause adds the others.
use Rattle.std.proofs.Common.{arith, rules, ◌∙◌, ◌∷◌}
use Rattle.refutation.proofs.Laws.{has_mark, span_end, span_closed, span_more, literals_end, literals_closed, literals_more, shows_set}
use Rattle.refutation.proofs.Marks.take.Goals as goal

pub returns-then-literal-eq0-clause-ends : goal.returns-then-literal-eq0-clause-ends
returns-then-literal-eq0-clause-ends c =
    let v = c.loop-i.invariant in
    omega (arith, v.spans, span_closed _ _ _ c.loop-i-test.true (search rules) c.code-literal.ensures c.if-literal-eq0.true)

pub returns-then-literal-eq0-clause-shows : goal.returns-then-literal-eq0-clause-shows
returns-then-literal-eq0-clause-shows c =
    let v = c.loop-i.invariant in
    rw (v.adds, literals_closed _ _ _ c.loop-i-test.true (search rules) c.code-literal.ensures v.taken c.if-literal-eq0.true) v.shows

pub loop-i-preserved : goal.loop-i-preserved
loop-i-preserved c =
    let v = c.loop-i.invariant in
    record {
      kept = v.kept;
      spans = omega (arith, v.spans, span_more _ _ _ c.loop-i-test.true (search rules) c.code-literal.ensures c.if-literal-eq0.false);
      taken = c.code-literal.result ∷ v.taken;
      shows = shows_set _ _ _ v.shows _ (omega (arith, has_mark _ _ _ c.loop-i-test.true (search rules) c.code-literal.ensures _ v.kept c.loop-i.self.within));
      adds = v.adds ∙ literals_more _ _ _ c.loop-i-test.true (search rules) c.code-literal.ensures _ c.if-literal-eq0.false;
    }

pub returns-clause-ends : goal.returns-clause-ends
returns-clause-ends c =
    let v = c.loop-i.invariant in
    omega (arith, v.spans, span_end c.args.self.now.words.now c.loop-i.i c.loop-i-test.false)

pub returns-clause-shows : goal.returns-clause-shows
returns-clause-shows c =
    let v = c.loop-i.invariant in
    rw (v.adds, literals_end c.args.self.now.words.now c.loop-i.i v.taken (omega arith)) v.shows
