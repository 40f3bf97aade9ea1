-- `take`: the stamped literals are those of the words so far, and the rest of the clause adds the others.
use Rattle.std.proofs.Common.{◌≡◌, ◌+◌, List, [], ℕ, drop}
use Rattle.refutation.specs.Marks.{Shows}
use Rattle.refutation.specs.Refutation.{span, literals}
use Rattle.refutation.proofs.Marks.take.Given as goal

abbrev pub invariant-loop-i : goal.invariant-loop-i
invariant-loop-i l = record {
  kept : l.self.words.now ≡ l.words;
  spans : l.from + span (drop l.from l.words) ≡ l.i + span (drop l.i l.words);
  taken : List ℕ;
  shows : Shows l.self.table l.self.stamp taken;
  adds : literals (drop l.from l.words) [] ≡ literals (drop l.i l.words) taken;
}
