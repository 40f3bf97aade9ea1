-- A reader of any bytes: it drops the first line and reads the numbers after it, parted by a space or LF.
use Rattle.std.specs.Prelude.{Bool, true, false, cond, ◌||◌, List, [], ◌∷◌, ℕ, ◌+◌, ◌-◌, ◌*◌, eqb, ℤ, pos, neg_ℤ}
use Rattle.dimacs.specs.File.{space, line_feed}

-- What follows the first LF.
unfoldable pub after_first_line : List ℕ → List ℕ
after_first_line [] = []
after_first_line (b ∷ t) = cond (eqb b line_feed) t (after_first_line t)

-- A number with a minus before it, or without.
abbrev pub signed : Bool → ℕ → ℤ
signed false n = pos n
signed true n = neg_ℤ (pos n)

-- The numbers of a text. Of the number that is being read, `minus` says whether a minus came, and n is what its digits say so far. A space or
-- LF ends it.
unfoldable pub numbers_from : Bool → ℕ → List ℕ → List ℤ
numbers_from minus n [] = []
numbers_from minus n (b ∷ t) =
    cond (eqb b space || eqb b line_feed) (signed minus n ∷ numbers_from false 0 t)
    (cond (eqb b 45) (numbers_from true n t) (numbers_from minus (n * 10 + (b - 48)) t))

abbrev pub numbers_in : List ℕ → List ℤ
numbers_in t = numbers_from false 0 t

-- The numbers after the first line.
abbrev pub read_back : List ℕ → List ℤ
read_back t = numbers_in (after_first_line t)
