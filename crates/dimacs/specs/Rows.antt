-- Rows of the list whose lines have the same length, and words that a buffer holds. Proofs alone need this: the file is defined by its clauses.
use Rattle.std.specs.Prelude.{◌≡◌, Bool, ◌&&◌, List, ℕ, ◌+◌, ◌-◌, ◌≤◌, eqb, leb, ℤ, length, take}
use Rattle.model.specs.declared.Model.{Model}
use Rattle.model.specs.Automaton.{variables}
use Rattle.list.specs.Items.{block_at}
use Rattle.list.specs.Clauses.{Clause, one_hot_width, words_of, words}
use Rattle.emission.specs.Cut.{most_piece_words}
use Rattle.decimal.specs.Decimal.{digits}

-- How many digits a number has.
abbrev pub digit_count : ℕ → ℕ
digit_count n = length (digits n)

-- Rows r - 1 and r of the list for k are steps.
abbrev pub follows_step : ℕ → ℕ → Bool
follows_step k r = leb 2 r && leb r k

-- And all their numbers have as many digits, those of the first and of the last of them.
unfoldable pub repeats_row : Model → ℕ → ℕ → Bool
repeats_row m k r =
    follows_step k r && eqb (digit_count (block_at one_hot_width m (r - 1 - 1) + 1)) (digit_count (block_at one_hot_width m (r - 1) + variables m 1))

-- The words of the list for one step, and so those of each row at the first block, are few enough to be written at once.
abbrev pub FewWords : Model → Type 0
FewWords m = length (words m 1) ≤ most_piece_words

-- The first n words of the buffer are those of the clauses.
pub record Holds (cs : List Clause) (buffer : List ℤ) (n : ℕ) : Type 0 where
  pub fits : n ≤ length buffer
  pub front : take n buffer ≡ words_of cs
