-- A text in reading order: each line's form, then its literals from left to right.
use Rattle.std.specs.Prelude.{ℕ, List, [], ◌∷◌, ◌++◌, map, Option, Some, None}
use Rattle.text.specs.bytes.Bytes.{split_on}
use Rattle.output.specs.Lines.{form_of, words_of}
use Rattle.output.specs.declared.lines.LineForm.{LineForm}
use Rattle.output.specs.declared.lines.LineForm.TheVariants.{Comment, Satisfiable, Unsatisfiable, Values}
use Rattle.output.specs.declared.literals.Literal.{Literal}

-- what is judged: a line, by its form, or a literal
pub data Token : Type 0 where
  formed : Option LineForm → Token
  literal : Literal → Token

-- the literals of a line, each read by `read`: only a line of that form has any
abbrev pub literals_by : (List ℕ → Literal) → Option LineForm → List ℕ → List Token
literals_by read None l = []
literals_by read (Some Comment) l = []
literals_by read (Some Satisfiable) l = []
literals_by read (Some Unsatisfiable) l = []
literals_by read (Some Values) l = map (λ w. literal (read w)) (words_of l)

-- a line's form and place are tested before its literals, those left to right
unfoldable pub line_tokens : (List ℕ → Literal) → List ℕ → List Token
line_tokens read l = formed (form_of l) ∷ literals_by read (form_of l) l

-- what follows the last LF: nothing, or a line that is not ended, which has none of the forms
abbrev pub last_tokens : List ℕ → List Token
last_tokens [] = []
last_tokens (b ∷ l) = formed None ∷ []

-- the parts of a text between its LFs (10): each but the last is a line
unfoldable pub part_tokens : (List ℕ → Literal) → List (List ℕ) → List Token
part_tokens read [] = []
part_tokens read (l ∷ []) = last_tokens l
part_tokens read (l ∷ m ∷ ps) = line_tokens read l ++ part_tokens read (m ∷ ps)

-- the whole text
unfoldable pub tokens_of : (List ℕ → Literal) → List ℕ → List Token
tokens_of read t = part_tokens read (split_on 10 t)

-- the literals among tokens
unfoldable pub literals_in : List Token → List Literal
literals_in [] = []
literals_in (formed f ∷ ts) = literals_in ts
literals_in (literal l ∷ ts) = l ∷ literals_in ts
