-- What the writers of words as text ask and leave. Proofs alone need this: the file is defined by its clauses.
use Rattle.std.specs.Prelude.{◌≡◌, cond, ℕ, ◌<◌, ◌≤◌, eqb, ℤ, nat_abs, length, drop}
use mathlib.Core.List.{List, [], ◌∷◌, ◌++◌, flat_map}
use Rattle.new_values.specs.NewValues.{is_negative}
use Rattle.decimal.specs.Decimal.{digits, digit}
use Rattle.dimacs.specs.File.{space, line_feed}

-- A minus, where the word is negative.
abbrev pub sign_text : ℤ → List ℕ
sign_text z = cond (is_negative z) (45 ∷ []) []

-- A word: the 0 that ends a clause ends its line too; any other is a literal, with a space after it.
unfoldable pub word_text : ℤ → List ℕ
word_text z =
    cond (eqb (nat_abs z) 0) (digit 0 ∷ line_feed ∷ [])
    (sign_text z ++ digits (nat_abs z) ++ (space ∷ []))

-- Words, in order.
unfoldable pub words_text : List ℤ → List ℕ
words_text ws = flat_map word_text ws

-- The text, of n bytes, was written from the start, and nothing else changed.
pub record Printed (text old new : List ℕ) (n : ℕ) : Type 0 where
  pub bytes : n ≡ length text
  pub fits : n ≤ length old
  pub left : new ≡ text ++ drop n old

-- r tells whether the text fits into `room` bytes: more than these is how many it has, else it fits.
pub record Needed (text : List ℕ) (room r : ℕ) : Type 0 where
  pub short : room < r → r ≡ length text
  pub fits : r ≤ room → length text ≤ room
