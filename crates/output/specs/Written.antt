-- The text that writes an assignment: one line of literals, in the order of their variables.
use Rattle.std.specs.Prelude.{ℕ, ◌+◌, List, [], ◌∷◌, ◌++◌, Bool, true, cond, ◌&&◌, ltb, eqb}
use Rattle.text.specs.bytes.Ascii.{ascii}
use Rattle.decimal.specs.Decimal.{digits}

-- every byte is 0 or 1
unfoldable pub are_bits : List ℕ → Bool
are_bits [] = true
are_bits (b ∷ a) = ltb b 2 && are_bits a

-- the literal of variable v with byte b: a minus (45) if b is 0, then the digits of v
unfoldable pub literal_text : ℕ → ℕ → List ℕ
literal_text v b = cond (eqb b 0) (45 ∷ digits v) (digits v)

-- the literals of the variables from v on, each after a space (32)
unfoldable pub literals_text : ℕ → List ℕ → List ℕ
literals_text v [] = []
literals_text v (b ∷ a) = 32 ∷ literal_text v b ++ literals_text (v + 1) a

-- the output that says the assignment a: an s line, and one line of every literal and the closing 0
unfoldable pub output_text : List ℕ → List ℕ
output_text a = ascii "s SATISFIABLE\nv" ++ literals_text 1 a ++ ascii " 0\n"
