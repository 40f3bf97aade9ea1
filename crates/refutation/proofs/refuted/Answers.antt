-- `refuted`: no lemma, a variable without a mark, or what `follow` answers with a table of zeros.
use Rattle.std.proofs.Common.{sym, ◌∙◌}
use Rattle.refutation.proofs.Laws.{call_short, call_outside, call_answer, within_is, zeros}
use Rattle.refutation.proofs.refuted.Goals as goal
use Rattle.refutation.proofs.refuted.Goals.{then-n-words-via-then-n-words, then-n-words-via-else-n-words+then-not-all_within}

pub returns-then-n-words : goal.returns-then-n-words
returns-then-n-words c =
    elim c.then-n-words.branch [
      | then-n-words-via-then-n-words w ↦ call_short _ _ _ w.if-n-words.true
      | then-n-words-via-else-n-words+then-not-all_within w ↦ call_outside _ _ _ w.if-n-words.false (sym w.all_within.ensures ∙ w.if-not-all_within.true)
    ]

pub invariant_of-marks : goal.invariant_of-marks
invariant_of-marks c = record { within = within_is _ (sym c.all_within.ensures ∙ c.if-not-all_within.false); most = zeros 43554 }

pub returns : goal.returns
returns c = c.follow.ensures ∙ sym (call_answer _ _ _ c.if-n-words.false (sym c.all_within.ensures ∙ c.if-not-all_within.false))
