-- The counts of the clause list: what those who ask for them within the library are told.
use Rattle.std.specs.Prelude.{ℕ, ◌≤◌, ◌≡◌, length}
use Rattle.model.specs.declared.Model.{Model}
use Rattle.model.specs.Automaton.{variables}
use Rattle.list.specs.Clauses.{clauses, words}
use Rattle.parts.specs.Numbering.{most_variables}
use Rattle.counts.specs.declared.ListCounts.{ListCounts}

-- For 16 locations, 4 counters and 4 clocks of 32 values each, 32 edges, four atoms in each invariant and guard, and 64 steps: a state has at most 6145
-- clauses of 18689 words, a step 29218 of 104866; state 0, 9 initial values, 64 steps, the end.
abbrev pub most_clauses : ℕ
most_clauses = 1876107

abbrev pub most_words : ℕ
most_words = 6730133

-- r has the numbers of variables, clauses and words of the list for the bound, and they are no larger than this.
pub record KnownCounts (m : Model) (bound : ℕ) (r : ListCounts) : Type 0 where
  pub variables : r.variables ≡ variables m bound
  pub clauses : r.clauses ≡ length (clauses m bound)
  pub words : r.words ≡ length (words m bound)
  pub variables_most : r.variables ≤ most_variables
  pub clauses_most : r.clauses ≤ most_clauses
  pub words_most : r.words ≤ most_words
