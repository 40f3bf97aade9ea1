-- `left`: what the clause leaves from its first word equals what its rest leaves beside `only`.
use Rattle.std.proofs.Common.{◌≡◌, drop}
use Rattle.refutation.specs.Marks.{marked}
use Rattle.refutation.specs.Refutation.{left}
use Rattle.refutation.specs.Left.{left_number}
use Rattle.refutation.proofs.Laws.{Alone}
use Rattle.refutation.proofs.Marks.left.Given as goal

abbrev pub invariant-loop-word : goal.invariant-loop-word
invariant-loop-word l = record {
  same : left (marked l.self.table l.self.stamp) 0 (drop l.from l.self.words.now) ≡ left (marked l.self.table l.self.stamp) (left_number l.only)
      (drop l.word-index l.word-items);
  alone : Alone l.only 43554;
}
