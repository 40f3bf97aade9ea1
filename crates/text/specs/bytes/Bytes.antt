-- What a run of bytes says: its first line, its key, the number that it is, the items that it is made of.
use Rattle.std.specs.Prelude.{ℕ, ◌+◌, ◌-◌, ◌*◌, ◌≤◌, ◌<◌, ◌≡◌, length, get_or, take, drop, List, [], ◌∷◌, Bool, true, false, cond, not, ◌&&◌, ltb, leb, eqb}
use Rattle.std.specs.Prelude.{Option, Some, None, is_some}

-- ---- lines: key=value, each ended by LF
-- the place of the first b in l, or l's length where l has none
unfoldable pub first_at : ℕ → List ℕ → ℕ
first_at b [] = 0
first_at b (x ∷ l) = cond (eqb x b) 0 (first_at b l + 1)

-- l has a b; what stands before the first, and what after it
abbrev pub has : ℕ → List ℕ → Bool
has b l = ltb (first_at b l) (length l)

abbrev pub before : ℕ → List ℕ → List ℕ
before b l = take (first_at b l) l

abbrev pub after : ℕ → List ℕ → List ℕ
after b l = drop (first_at b l + 1) l

-- r is the place of the first b of s at or after `at`, or s's length
pub record FirstFrom (b at : ℕ) (s : List ℕ) (r : ℕ) : Type 0 where
  pub place : r ≡ at + first_at b (drop at s)
  pub low : at ≤ r
  pub high : r ≤ length s

-- the same of a search that may find none
abbrev pub Found : ℕ → ℕ → List ℕ → Option ℕ → Type 0
Found b at s None = FirstFrom b at s (length s)
Found b at s (Some r) = FirstFrom b at s r × (r < length s)

-- l begins with the bytes of k
unfoldable pub starts_with : List ℕ → List ℕ → Bool
starts_with [] l = true
starts_with (x ∷ k) [] = false
starts_with (x ∷ k) (y ∷ l) = eqb x y && starts_with k l

-- the text begins with a line that is ended by LF (10) and begins with the key and =
unfoldable pub is_due : List ℕ → List ℕ → Bool
is_due key t = has 10 t && starts_with key (before 10 t)

-- what follows the key and = in that line
unfoldable pub value_of : List ℕ → List ℕ → List ℕ
value_of key t = drop (length key) (before 10 t)

-- ---- numbers: 1 to 3 digits, no leading zero except 0 itself
-- '0' (48) to '9' (57)
abbrev pub is_digit : ℕ → Bool
is_digit x = leb 48 x && leb x 57

-- the number that the bytes are
unfoldable pub number_of : List ℕ → Option ℕ
number_of [] = None
number_of (a ∷ []) = cond (is_digit a) (Some (a - 48)) None
number_of (a ∷ b ∷ []) = cond (is_digit a && is_digit b && not (eqb a 48)) (Some ((a - 48) * 10 + (b - 48))) None
number_of (a ∷ b ∷ c ∷ []) =
    cond (is_digit a && is_digit b && is_digit c && not (eqb a 48)) (Some (((a - 48) * 10 + (b - 48)) * 10 + (c - 48))) None
number_of (a ∷ b ∷ c ∷ d ∷ l) = None

-- the bytes are no number
abbrev pub is_malformed : Option ℕ → Bool
is_malformed n = not (is_some n)

-- the number, and 0 where there is none
abbrev pub number_in : Option ℕ → ℕ
number_in None = 0
number_in (Some n) = n

-- a number that fits a byte, or else 0
abbrev pub narrowed : ℕ → ℕ
narrowed n = cond (ltb n 256) n 0

-- the same as a byte
abbrev pub byte_in : Option ℕ → ℕ
byte_in n = narrowed (number_in n)

-- how many bytes stand before the first that is no digit
unfoldable pub digits_of : List ℕ → ℕ
digits_of [] = 0
digits_of (x ∷ l) = cond (is_digit x) (digits_of l + 1) 0

-- r is that count, and no more than there are bytes
pub record LeadingDigits (s : List ℕ) (r : ℕ) : Type 0 where
  pub is : r ≡ digits_of s
  pub most : r ≤ length s

-- the number that the leading digits are, and what follows them
abbrev pub leading : List ℕ → Option ℕ
leading l = number_of (take (digits_of l) l)

abbrev pub following : List ℕ → List ℕ
following l = drop (digits_of l) l

-- := (58 61) stands at the front
abbrev pub assigns : List ℕ → Bool
assigns l = eqb (get_or l 0 0) 58 && eqb (get_or l 1 0) 61

-- ---- items, parted by commas (44)
-- one more byte at the front of the first part
abbrev pub grow : ℕ → List (List ℕ) → List (List ℕ)
grow x [] = (x ∷ []) ∷ []
grow x (p ∷ ps) = (x ∷ p) ∷ ps

-- the parts of l between the bytes b
unfoldable pub split_on : ℕ → List ℕ → List (List ℕ)
split_on b [] = [] ∷ []
split_on b (x ∷ l) = cond (eqb x b) ([] ∷ split_on b l) (grow x (split_on b l))

-- a hyphen (45) alone
unfoldable pub is_hyphen : List ℕ → Bool
is_hyphen [] = false
is_hyphen (x ∷ []) = eqb x 45
is_hyphen (x ∷ y ∷ l) = false

-- the items of a value that may have none: a hyphen alone means none
unfoldable pub items_of : List ℕ → List (List ℕ)
items_of v = cond (is_hyphen v) [] (split_on 44 v)

-- how many of n slots are filled after one more item, where k were filled before it
abbrev pub counted : ℕ → ℕ → ℕ
counted n k = cond (ltb k n) (k + 1) k
