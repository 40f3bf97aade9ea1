-- `follow`: what the hints say from the first lemma equals what the rest of them says from here (`Following`), one law for each way through a turn.
use Rattle.std.proofs.Common.{◌≡◌}
use Rattle.refutation.proofs.Laws.{Following}
use Rattle.refutation.proofs.Marks.follow.Given as goal

abbrev pub invariant-loop-hint : goal.invariant-loop-hint
invariant-loop-hint l = record {
  kept : l.self.words.now ≡ l.words;
  follows : Following l.words l.n l.hints l.self.table l.at l.self.stamp l.end l.hint-index;
}
