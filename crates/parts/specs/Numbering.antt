-- Numbering: the number of a solver variable, how many variables there are at most, and that 16 bits are enough for a number (Q-3).
use Rattle.std.specs.Prelude.{◌≡◌, List, ◌++◌, ℕ, ◌+◌, ◌*◌, ◌<◌, ◌≤◌}
use Rattle.model.specs.declared.Model.{Model}
use Rattle.model.specs.Indexed.{each, list_below}
use Rattle.model.specs.Automaton.{Component, Declared, group_size, state_size, choices, variables}
use Rattle.list.specs.Items.{offset, over_components, block_at, state_member, choice_member}
use Rattle.list.specs.Clauses.{one_hot_width, variable_of}

-- Numbers start at 1: state 0, then for each step its choice block and its state block. Place p, from 0, counts through the block of state t
-- (S places) and then through the choice block that follows it (H places).
unfoldable pub variable_number : Model → ℕ → ℕ → ℕ
variable_number m t p = t * (state_size m + choices m) + p + 1

-- N for 16 locations, 4 counters and 4 clocks of 32 values each, 32 edges and 64 steps: no list has more variables. Counted from 0 a variable is
-- less than this.
abbrev pub most_variables : ℕ
most_variables = 21776

-- ---- members by their numbers
module _ (m : Model) where
  -- Value v of component x in state t.
  abbrev pub state_number : ℕ → Component → ℕ → ℕ
  state_number t x v = variable_number m t (offset one_hot_width m x + v)

  -- Choice c of step t + 1, which leads from state t.
  abbrev pub choice_number : ℕ → ℕ → ℕ
  choice_number t c = variable_number m t (state_size m + c)

  -- State block: the locations, each counter, each clock.
  unfoldable pub state_numbers : ℕ → List ℕ
  state_numbers t = over_components m (λ x. list_below (state_number t x) (group_size m x))

  -- Choice block: delays 0 to M, then edges.
  unfoldable pub choice_numbers : ℕ → List ℕ
  choice_numbers t = list_below (choice_number t) (choices m)

  -- All members for k: state 0, then for each step its choice block and its state block.
  unfoldable pub numbers_in_order : ℕ → List ℕ
  numbers_in_order k = state_numbers 0 ++ each k (λ t. choice_numbers t ++ state_numbers (t + 1))

-- ---- sixteen bits are enough for a number
-- What has 16 bits is less than this.
abbrev pub sixteen_bits : ℕ
sixteen_bits = 65536

-- No value on the way to the number of place p, in the block of state t and the choice block after it, leaves 16 bits: these are all values that
-- `variable_number` meets. The sums of the writers are such values too: where a block begins (`before_in`), where a group begins in it and a member of
-- the group (`variable_in`), and its number.
pub record InSixteenBits (m : Model) (t p : ℕ) : Type 0 where
  pub state_in : state_size m < sixteen_bits
  pub choices_in : choices m < sixteen_bits
  pub blocks_in : state_size m + choices m < sixteen_bits
  pub step_in : t < sixteen_bits
  pub before_in : t * (state_size m + choices m) < sixteen_bits
  pub place_in : p < sixteen_bits
  pub variable_in : t * (state_size m + choices m) + p < sixteen_bits
  pub number_in : variable_number m t p < sixteen_bits

-- The number of place p, calculated in 16 bits, is that of the list's variable i, which is counted from 0, and at most 21,776.
pub record Numbered (m : Model) (t p i : ℕ) : Type 0 where
  pub number_is : variable_number m t p ≡ i + 1
  pub number_le : variable_number m t p ≤ most_variables
  pub in_sixteen_bits : InSixteenBits m t p

-- Every declared member, up to step 64, is so numbered; and the members in document 01's order have the numbers 1, 2, .., N.
pub record SixteenBits (m : Model) : Type 0 where
  pub state_members : (t : ℕ) → t ≤ 64 → (x : Component) → Declared m x → (v : ℕ) → v < group_size m x
      → Numbered m t (offset one_hot_width m x + v) (variable_of (state_member one_hot_width m (block_at one_hot_width m t) x v))
  pub choice_members : (t : ℕ) → t < 64 → (c : ℕ) → c < choices m
      → Numbered m t (state_size m + c) (variable_of (choice_member one_hot_width m (block_at one_hot_width m t) c))
  pub in_order : (k : ℕ) → numbers_in_order m k ≡ list_below (λ i. 1 + i) (variables m k)
