-- A table of how many clauses pieces of the list have, whichever state block they stand at.
use Rattle.std.specs.Prelude.{◌≡◌, cond, List, ℕ, ◌≤◌, ◌<◌, ltb, length, get_or}
use Rattle.model.specs.Indexed.{list_below}
use Rattle.list.specs.Items.{Item}
use Rattle.list.specs.Clauses.{clauses_of}

-- Slot i of a table of n pieces: the number of piece i's clauses; from n on 0.
abbrev pub slot_of : (ℕ → List Item) → ℕ → ℕ → ℕ
slot_of piece n i = cond (ltb i n) (length (clauses_of (piece i))) 0

-- An invariant has at most 4 atoms, and an atom rules out at most the 32 values of its group.
abbrev pub most_invariant_clauses : ℕ
most_invariant_clauses = 128

-- An edge has at most 14 parts (source, target, 4 atoms, 4 counters, 4 clocks), and a part has at most a clause for each of 32 values.
abbrev pub most_edge_clauses : ℕ
most_edge_clauses = 448

-- All slots, whichever state block `o` the pieces stand at; each piece has `most` clauses at most.
pub record Table (piece : ℕ → ℕ → List Item) (n slots most : ℕ) (table : List ℕ) : Type 0 where
  pub table_is : (o : ℕ) → table ≡ list_below (slot_of (piece o) n) slots
  pub few : (i : ℕ) → i < n → get_or table i 0 ≤ most
