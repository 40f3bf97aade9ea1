-- Room for clauses in a lent buffer of words, and clauses that were written.
use Rattle.std.specs.Prelude.{List, ℕ, ℤ}
use Rattle.list.specs.Clauses.{Clause, words_of}
use Rattle.buffer.specs.Buffers.{Room, Wrote}

-- The buffer has room for the words of the clauses from index `at` on.
pub record RoomFor (cs : List Clause) (buffer : List ℤ) (at : ℕ) : Type 0 where
  pub words : Room (words_of cs) buffer at

-- The words of the clauses were written from index `at` up to `end`, and nothing else changed.
pub record WroteClauses (cs : List Clause) (old new : List ℤ) (at end : ℕ) : Type 0 where
  pub words : Wrote (words_of cs) old new at end
