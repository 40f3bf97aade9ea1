-- `follow`: what the hints say from the first lemma equals what the rest of them says from here (`Following`), one law for each way through a turn.
use Rattle.std.proofs.Common.{arith, sym, refl, ◌∙◌, [], drop, length-drop}
use Rattle.refutation.specs.Refutation.{literals}
use Rattle.refutation.proofs.Laws.{turn_late, turn_more, turn_done, turn_ends, turn_next, turn_only, hint_none, opposite_below, span_fits}
use Rattle.refutation.proofs.Sound.{begins_before, is_T}
use Rattle.refutation.proofs.Marks.follow.Goals as goal
use Rattle.refutation.proofs.Marks.follow.Goals.{in-One, in-Nothing-2+else-at-words}

pub loop-hint-init : goal.loop-hint-init
loop-hint-init c = record {
  kept = c.take-end.ensures.same;
  follows = record {
    in_words = c.requires;
    ends = c.take-end.ensures.ends;
    taken = literals (drop c.args.n c.args.self.now.words.now) [];
    shows = c.take-end.ensures.shows;
    same = refl;
  };
}

pub begins-requires : goal.begins-requires
begins-requires c = omega (arith, c.loop-hint.invariant.follows.in_words)

pub returns-then-not-begins : goal.returns-then-not-begins
returns-then-not-begins c = turn_late c.loop-hint.invariant.follows c.loop-hint-test.true (sym c.if-not-begins.ensures)

pub left-requires : goal.left-requires
left-requires c =
    rw c.loop-hint.invariant.kept
    (omega (arith, c.loop-hint.invariant.follows.in_words, begins_before _ _ _ (is_T _ (sym c.if-not-begins.ensures))))

pub returns-in-Several : goal.returns-in-Several
returns-in-Several c =
    turn_more c.loop-hint.invariant.follows c.loop-hint-test.true (sym c.if-not-begins.ensures)
    (rw c.loop-hint.invariant.kept at c.in-Several.ensures.number) refl

pub bounds-self-opposite : goal.bounds-self-opposite
bounds-self-opposite c = rw c.opposite.ensures (opposite_below _ c.in-One.ensures.below.1)

pub returns-in-Nothing : goal.returns-in-Nothing
returns-in-Nothing c =
    turn_done c.loop-hint.invariant.follows c.loop-hint-test.true (sym c.if-not-begins.ensures)
    (rw c.loop-hint.invariant.kept at c.in-Nothing.ensures.number) refl c.if-end-at.true

pub overflow_add-at : goal.overflow_add-at
overflow_add-at c =
    let words = c.args.self.now.words.now in
    record {
      fits = omega (arith, c.loop-hint.invariant.follows.ends, span_fits (drop c.loop-hint.at words), length-drop c.loop-hint.at words);
    }

pub returns-then-at-words : goal.returns-then-at-words
returns-then-at-words c =
    turn_ends c.loop-hint.invariant.follows c.loop-hint-test.true (sym c.if-not-begins.ensures)
    (rw c.loop-hint.invariant.kept at c.in-Nothing.ensures.number) refl c.if-end-at.false c.if-at-words.true

pub take-end-requires-in-Nothing-2 : goal.take-end-requires-in-Nothing-2
take-end-requires-in-Nothing-2 c = rw c.loop-hint.invariant.kept (omega arith)

pub loop-hint-preserved : goal.loop-hint-preserved
loop-hint-preserved c =
    elim c.match-left.branch [
      | in-One w ↦ rw (w.self-is, w.at-is, w.end-is) (record {
        kept = c.loop-hint.invariant.kept;
        follows = turn_only c.loop-hint.invariant.follows c.loop-hint-test.true (sym c.if-not-begins.ensures)
            (rw c.loop-hint.invariant.kept at w.in-One.ensures.number) w.in-One.ensures.below.0 w.opposite.ensures
            (omega (arith, w.opposite.ensures, opposite_below _ w.in-One.ensures.below.1));
      })
      | in-Nothing-2+else-at-words w ↦ rw (w.self-is, w.at-is, w.end-is) (record {
        kept = w.take-end-in-Nothing-2.ensures.same ∙ c.loop-hint.invariant.kept;
        follows = turn_next c.loop-hint.invariant.follows c.loop-hint-test.true (sym c.if-not-begins.ensures)
            (rw c.loop-hint.invariant.kept at w.in-Nothing-2.ensures.number) refl w.if-end-at.false w.if-at-words.false
            (rw c.loop-hint.invariant.kept at w.take-end-in-Nothing-2.ensures.ends) (rw c.loop-hint.invariant.kept at w.take-end-in-Nothing-2.ensures.shows);
      })
    ]

pub returns : goal.returns
returns c = sym (c.loop-hint.invariant.follows.same ∙ hint_none _ _ _ _ _ c.loop-hint-test.false)
