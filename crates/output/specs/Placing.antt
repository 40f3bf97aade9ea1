-- The literals of a text, of lines in any form and place, and how they are placed into a window of bytes, one for each variable from `low` on: 2 for
-- a variable that is not named yet, else 1 or 0.
use Rattle.std.specs.Prelude.{ℕ, ◌+◌, ◌-◌, List, [], ◌∷◌, ◌++◌, map, cond, ◌||◌, length, get_or, set, ltb, leb, eqb}
use Rattle.text.specs.bytes.Ascii.{ascii}
use Rattle.text.specs.bytes.Bytes.{starts_with, split_on}
use Rattle.output.specs.Lines.{words_of}
use Rattle.output.specs.OutputCall.{is_named}
use Rattle.output.specs.declared.literals.Literal.{Literal}
use Rattle.output.specs.declared.placing.Placing.{Placing}

-- the words of a line that begins with v and a space, each read by `read`, whatever its form
unfoldable pub line_literals : (List ℕ → Literal) → List ℕ → List Literal
line_literals read l = cond (starts_with (ascii "v ") l) (map read (words_of l)) []

-- the parts of a text between its LFs (10): each but the last is a line
unfoldable pub part_literals : (List ℕ → Literal) → List (List ℕ) → List Literal
part_literals read [] = []
part_literals read (l ∷ []) = []
part_literals read (l ∷ m ∷ ps) = line_literals read l ++ part_literals read (m ∷ ps)

-- the whole text
unfoldable pub literals_of : (List ℕ → Literal) → List ℕ → List Literal
literals_of read t = part_literals read (split_on 10 t)

-- how many literals come before the first that names a variable named before, by these or by `named`
unfoldable pub fresh_after : List Literal → List Literal → ℕ
fresh_after named [] = 0
fresh_after named (l ∷ ls) = cond (is_named l.variable named) 0 (fresh_after (named ++ (l ∷ [])) ls + 1)

-- the literals seen, how many are to be seen, and the window
pub record Marking : Type 0 where
  pub seen : ℕ
  pub bound : ℕ
  pub marks : List ℕ

-- the same of the code's numbers and the lent window
abbrev pub marking : Placing → List ℕ → Marking
marking p marks = record { seen = p.seen; bound = p.bound; marks = marks }

-- the literal is seen
abbrev pub seen_in : List ℕ → Marking → Marking
seen_in marks m = record { seen = m.seen + 1; bound = m.bound; marks = marks }

-- one literal more: in the window, it ends the walk if its variable is named there, and else is placed
unfoldable pub placed : ℕ → Marking → Literal → Marking
placed low m l =
    cond (leb m.bound m.seen) m
    (cond (ltb l.variable low || leb (length m.marks) (l.variable - low)) (seen_in m.marks m)
    (cond (eqb (get_or m.marks (l.variable - low) 0) 2)
    (seen_in (set m.marks (l.variable - low) (cond l.bare 1 0)) m)
    (record { seen = m.seen; bound = m.seen; marks = m.marks })))
