-- `left`: what the clause leaves from its first word equals what its rest leaves beside `only`.
use Rattle.std.proofs.Common.{rules, tests, sym, ◌≡◌, ◌∙◌, false, refl}
use borrow.Author.Tests.{eq-eqb, ne_eqb}
use Rattle.refutation.specs.Refutation.{clash}
use Rattle.refutation.specs.Left.{left_number}
use Rattle.refutation.proofs.Laws.{has_mark, below_rest, left_end, left_closed, left_skip, left_takes, left_clash, clash_other, clash_same, clash_none, not_one}
use Rattle.refutation.proofs.Marks.left.Goals as goal
use Rattle.refutation.proofs.Marks.left.Goals.{then-self-literal+else-ne, else-ne-via-then-ne+else-ne-2, else-ne-via-else-ne, else-self-literal}

pub returns-then-literal-eq0-clause-number : goal.returns-then-literal-eq0-clause-number
returns-then-literal-eq0-clause-number c =
    sym (c.loop-word.invariant.same ∙ left_closed _ _ _ c.loop-word-test.true (search rules) c.code-literal.ensures _ _ c.if-literal-eq0.true)

pub returns-then-ne-2-clause-number : goal.returns-then-ne-2-clause-number
returns-then-ne-2-clause-number c =
    sym (c.loop-word.invariant.same ∙ left_clash _ _ _ c.loop-word-test.true (search rules) c.code-literal.ensures _ _ c.if-literal-eq0.false
    (ne_eqb _ _ c.if-self-literal.true) (clash_other _ _ _ c.loop-word.invariant.alone (search (rules, tests)) (search (rules, tests))))

pub loop-word-preserved : goal.loop-word-preserved
loop-word-preserved c =
    elim c.if-self-literal.branch [
      | then-self-literal+else-ne w ↦
          let same : clash (left_number c.loop-word.only) c.code-literal.result ≡ false = elim w.else-ne.branch [
            | else-ne-via-then-ne+else-ne-2 w' ↦ clash_same c.loop-word.only c.code-literal.result (search (rules, tests))
            | else-ne-via-else-ne w' ↦ clash_none c.loop-word.only c.code-literal.result (search (rules, tests))
          ] in rw w.only-is (record {
            same = c.loop-word.invariant.same ∙ left_takes _ _ _ c.loop-word-test.true (search rules) c.code-literal.ensures _ _ c.if-literal-eq0.false
                (ne_eqb _ _ w.if-self-literal.true) same;
            alone = (
              not_one _ _ _ c.loop-word-test.true (search rules) c.code-literal.ensures c.if-literal-eq0.false,
              has_mark _ _ _ c.loop-word-test.true (search rules) c.code-literal.ensures _ refl (below_rest _ _ _ c.args.self.now.within),
            );
          })
      | else-self-literal w ↦ rw w.only-is (record {
        same = c.loop-word.invariant.same ∙ left_skip _ _ _ c.loop-word-test.true (search rules) c.code-literal.ensures _ _ c.if-literal-eq0.false
            (eq-eqb _ _ w.if-self-literal.false);
        alone = c.loop-word.invariant.alone;
      })
    ]

pub returns-clause-number : goal.returns-clause-number
returns-clause-number c = sym (c.loop-word.invariant.same ∙ left_end _ _ _ c.loop-word.word-index c.loop-word-test.false)
