-- `sum`: piece after piece; each is small, and so is what so many have together.
use Rattle.std.proofs.Common.{List, ℕ, ◌≤◌, ◌<◌, ◌*◌}
use Rattle.model.specs.Indexed.{each}
use Rattle.list.specs.Clauses.{Clause}
use Rattle.counts.specs.declared.Count.{Count}
use Rattle.counts.specs.Counted.{Counted, most_piece}
use Rattle.counts.proofs.Count.sum.Given as goal

abbrev pub invariant-loop-i : goal.invariant-loop-i
invariant-loop-i g l = record {
  clauses_le : l.sum.clauses ≤ l.i * most_piece;
  words_le : l.sum.words ≤ l.i * most_piece;
  counted : (f : ℕ → List Clause) → ((i : ℕ) (c : Count) → i < l.n → goal.F-post g l.piece i c → Counted (f i) c.clauses c.words)
      → Counted (each l.i f) l.sum.clauses l.sum.words;
}
