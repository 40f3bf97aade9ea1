-- A table of the texts of words, each in 64 bits. Proofs alone need this: the file is defined by its clauses.
use Rattle.std.specs.Prelude.{◌≡◌, cond, ℕ, zero, suc, ◌+◌, ◌*◌, ◌-◌, ◌/◌, ◌%◌, ◌≤◌, ◌^◌, eqb, ℤ, pos, neg_ℤ, nat_abs, length, take, drop, get_or}
use mathlib.Core.List.{List, [], ◌∷◌, ◌++◌, flat_map}
use Rattle.new_values.specs.NewValues.{is_negative}
use Rattle.decimal.specs.Decimal.{digits}
use Rattle.dimacs.specs.File.{space}
use Rattle.dimacs.specs.Written.{word_text}

-- The first n bytes of a number, the lowest first.
unfoldable pub bytes_of : ℕ → ℕ → List ℕ
bytes_of zero x = []
bytes_of (suc n) x = x % 256 ∷ bytes_of n (x / 256)

-- The text that an entry holds: its highest byte says how many of the others are the text.
abbrev pub text_of : ℕ → List ℕ
text_of x = bytes_of (x / 2 ^ 56) x

-- The bytes of a text in one number, the first lowest.
unfoldable pub packed : List ℕ → ℕ
packed [] = 0
packed (b ∷ t) = b + 256 * packed t

-- The number x is the entry of the text.
pub record Entry (text : List ℕ) (x : ℕ) : Type 0 where
  pub count : x / 2 ^ 56 ≡ length text
  pub bytes : x % 2 ^ 56 ≡ packed text

-- The entry r is that of x with the byte b before its text.
abbrev pub Leads : ℕ → ℕ → ℕ → Type 0
Leads b x r = (r / 2 ^ 56 ≡ x / 2 ^ 56 + 1) × (r % 2 ^ 56 ≡ b + 256 * (x % 2 ^ 56))

-- A number with a space after it.
abbrev pub number_text : ℕ → List ℕ
number_text n = digits n ++ (space ∷ [])

-- The most variables that a row names: those of two states, 272 each, and of the 64 choices between them.
abbrev pub most_near : ℕ
most_near = 608

-- How many entries the table has: that of the word 0 in the middle, negative words before it.
abbrev pub entry_count : ℕ
entry_count = 1217

-- The place of a word in the table.
abbrev pub slot : ℤ → ℕ
slot z = cond (is_negative z) (most_near - nat_abs z) (most_near + nat_abs z)

-- The text of a word by the table.
abbrev pub entry_text : List ℕ → ℤ → List ℕ
entry_text texts z = text_of (get_or texts (slot z) 0)

-- Words, in order.
unfoldable pub entries_text : List ℕ → List ℤ → List ℕ
entries_text texts ws = flat_map (entry_text texts) ws

-- The table has an entry of 2 to 7 bytes for the word.
pub record HasText (texts : List ℕ) (z : ℤ) : Type 0 where
  pub near : nat_abs z ≤ most_near
  pub least : 2 ≤ length (entry_text texts z)
  pub most : length (entry_text texts z) ≤ 7

-- A word whose variable is raised by o; the 0 that ends a clause stays.
unfoldable pub raised_word : ℕ → ℤ → ℤ
raised_word o z = cond (eqb (nat_abs z) 0) (pos 0) (cond (is_negative z) (neg_ℤ (pos (o + nat_abs z))) (pos (o + nat_abs z)))

-- The table of the words of up to n variables, raised by o. The entries of other words are free.
pub record TextsOf (o n : ℕ) (texts : List ℕ) : Type 0 where
  pub long : length texts ≡ entry_count
  pub texts_are : (z : ℤ) → nat_abs z ≤ n → entry_text texts z ≡ word_text (raised_word o z)

-- The text was written from index `at` up to `end` into a buffer that held `old`. The 6 bytes after it are free, and nothing else changed.
pub record Ahead (text old new : List ℕ) (at end : ℕ) : Type 0 where
  pub ends : end ≡ at + length text
  pub long : length new ≡ length old
  pub front : take end new ≡ take at old ++ text
  pub behind : drop (end + 6) new ≡ drop (end + 6) old
