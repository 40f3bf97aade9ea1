-- How many clauses and words a piece of the list has.
use Rattle.std.specs.Prelude.{◌≡◌, List, ℕ, length}
use Rattle.list.specs.Clauses.{Clause, words_of}

-- The clauses cs are this many and take this many words.
pub record Counted (cs : List Clause) (clauses words : ℕ) : Type 0 where
  pub clauses_are : clauses ≡ length cs
  pub words_are : words ≡ length (words_of cs)

-- A piece that is counted on its own, such as a group, an invariant or an edge, has no more clauses, and no more words.
abbrev pub most_piece : ℕ
most_piece = 8192
