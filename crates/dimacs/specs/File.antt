-- The DIMACS file of a clause list: the line `p cnf` with variables and clauses, then a line a clause, literals closed by 0, parts one space
-- apart, each line ended by LF.
use mathlib.Core.List.{List, [], ◌∷◌, ◌++◌, flat_map}
use Rattle.std.specs.Prelude.{ℕ, ◌+◌, length}
use Rattle.model.specs.declared.Model.{Model}
use Rattle.model.specs.Automaton.{variables}
use Rattle.list.specs.Clauses.{Literal, bare, negated, Clause, clauses}
use Rattle.text.specs.bytes.Ascii.{ascii}
use Rattle.decimal.specs.Decimal.{digits}

-- Bytes that part numbers and end lines.
abbrev pub space : ℕ
space = 32

abbrev pub line_feed : ℕ
line_feed = 10

-- A literal: its variable's number, with a minus before it where it is negated.
abbrev pub literal_text : Literal → List ℕ
literal_text (bare i) = digits (i + 1)
literal_text (negated i) = ascii "-" ++ digits (i + 1)

-- A clause's line: each literal with a space after it, then 0 and LF.
unfoldable pub clause_line : Clause → List ℕ
clause_line c = flat_map (λ l. literal_text l ++ (space ∷ [])) c ++ ascii "0" ++ (line_feed ∷ [])

-- The lines of clauses, in order.
unfoldable pub lines_of : List Clause → List ℕ
lines_of cs = flat_map clause_line cs

-- The first line: variables and clauses.
unfoldable pub first_line : ℕ → ℕ → List ℕ
first_line v c = ascii "p cnf " ++ digits v ++ (space ∷ []) ++ digits c ++ (line_feed ∷ [])

-- The file of a record and a bound.
unfoldable pub file : Model → ℕ → List ℕ
file m k = first_line (variables m k) (length (clauses m k)) ++ lines_of (clauses m k)
