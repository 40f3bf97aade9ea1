-- The clause list, cut into the pieces that are written at once. Row 0 is the start, rows 1 to k are the steps, row k + 1 is the end.
use Rattle.std.specs.Prelude.{cond, List, ℕ, ◌+◌, ◌-◌, eqb, ltb, leb}
use Rattle.model.specs.declared.Model.{Model}
use Rattle.model.specs.Indexed.{each}
use Rattle.model.specs.Automaton.{ceiling, choices, group_size}
use Rattle.list.specs.Items.{offset, block_at, next_block, invariant_of, initial_items, choice_items, delay_items, edge_of, end_items}
use Rattle.list.specs.Clauses.{Clause, one_hot_width, group_clauses, clauses_of}
use Rattle.parts.specs.StateBlock.{component_at}

-- The longest piece is the group of 64 choices: 64 literals and the 0, and three words for each of 2016 pairs.
abbrev pub most_piece_words : ℕ
most_piece_words = 6113

module _ (m : Model) where
  -- How many groups a state block has: the locations, each counter, each clock.
  abbrev pub group_count : ℕ
  group_count = 1 + m.vars + m.clocks

  -- State clauses of the state block at `o`, a piece for each group, then one for the invariant of each location.
  abbrev pub state_count : ℕ
  state_count = group_count + m.locations

  unfoldable pub state_piece : ℕ → ℕ → List Clause
  state_piece o p =
      cond (ltb p group_count)
      (group_clauses (o + offset one_hot_width m (component_at m p)) (group_size m (component_at m p)))
      (clauses_of (invariant_of one_hot_width m o (p - group_count)))

  -- A step from the state block at `o`: the group of the choice; each delay; each edge; then state clauses of the state after.
  abbrev pub step_count : ℕ
  step_count = 1 + choices m + state_count

  unfoldable pub step_piece : ℕ → ℕ → List Clause
  step_piece o p =
      cond (eqb p 0) (clauses_of (choice_items one_hot_width m o))
      (cond (leb p (ceiling m + 1)) (clauses_of (delay_items one_hot_width m o (p - 1)))
      (cond (leb p (choices m)) (clauses_of (edge_of one_hot_width m o (p - (ceiling m + 2))))
      (state_piece (next_block one_hot_width m o) (p - (1 + choices m)))))

  -- How many pieces row r of the list for k has: the start's state clauses and then its initial values; a step's; the end.
  unfoldable pub row_pieces : ℕ → ℕ → ℕ
  row_pieces k r = cond (eqb r 0) (state_count + 1) (cond (leb r k) step_count 1)

  -- Piece p of row r.
  unfoldable pub piece_of : ℕ → ℕ → ℕ → List Clause
  piece_of k r p =
      cond (eqb r 0) (cond (ltb p state_count) (state_piece 0 p) (clauses_of (initial_items one_hot_width m)))
      (cond (leb r k) (step_piece (block_at one_hot_width m (r - 1)) p) (clauses_of (end_items one_hot_width m k)))

  -- Row r: its pieces, in order.
  abbrev pub row_of : ℕ → ℕ → List Clause
  row_of k r = each (row_pieces k r) (piece_of k r)

-- The row of the same kind that begins at the first state block: the start; the one step of the list for 1; the end of the list for 0. Row r of the list
-- for k is this one, moved on to its own block.
abbrev pub base_row : ℕ → ℕ
base_row r = cond (eqb r 0) 0 1

abbrev pub base_bound : ℕ → ℕ → ℕ
base_bound k r = cond (leb r k) 1 0
