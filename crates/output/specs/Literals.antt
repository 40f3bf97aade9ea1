-- Literals as a solver writes them: digits without a leading zero, or a minus before them; 0 is bare and only the last in its line.
use Rattle.std.specs.Prelude.{ℕ, ◌+◌, ◌-◌, ◌*◌, List, [], ◌∷◌, Bool, true, false, not, cond, ◌&&◌, ◌||◌, drop, eqb}
use Rattle.text.specs.bytes.Bytes.{is_digit}
use Rattle.output.specs.declared.literals.Literal.{Literal}

-- every byte is a digit
unfoldable pub are_digits : List ℕ → Bool
are_digits [] = true
are_digits (d ∷ l) = is_digit d && are_digits l

-- digits without a leading zero: a number from 1 on
unfoldable pub is_positive : List ℕ → Bool
is_positive [] = false
is_positive (d ∷ l) = not (eqb d 48) && are_digits (d ∷ l)

-- a minus (45) comes first; what follows it
unfoldable pub has_minus : List ℕ → Bool
has_minus [] = false
has_minus (b ∷ l) = eqb b 45

unfoldable pub unsigned : List ℕ → List ℕ
unsigned w = cond (has_minus w) (drop 1 w) w

-- a literal other than 0
unfoldable pub names_variable : List ℕ → Bool
names_variable w = is_positive (unsigned w)

-- 0, which is bare
unfoldable pub is_zero : List ℕ → Bool
is_zero [] = false
is_zero (d ∷ []) = eqb d 48
is_zero (d ∷ e ∷ l) = false

-- the words of a line are literals, at least one, and 0 is only the last
unfoldable pub are_literals : List (List ℕ) → Bool
are_literals [] = false
are_literals (w ∷ []) = is_zero w || names_variable w
are_literals (w ∷ v ∷ ws) = names_variable w && are_literals (v ∷ ws)

-- the number that some digits say, after digits that say n
unfoldable pub number_after : ℕ → List ℕ → ℕ
number_after n [] = n
number_after n (d ∷ l) = number_after (n * 10 + (d - 48)) l

-- the literal that a word is: its variable, or 0, and whether it is bare
unfoldable pub literal_of : List ℕ → Literal
literal_of w = record { variable = number_after 0 (unsigned w); bare = not (has_minus w) }
