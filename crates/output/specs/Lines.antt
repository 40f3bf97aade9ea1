-- The forms of a line and their places.
use Rattle.std.specs.Prelude.{ℕ, List, Bool, true, false, cond, ◌&&◌, length, drop, eqb, Option, Some, None}
use Rattle.text.specs.bytes.Ascii.{ascii}
use Rattle.text.specs.bytes.Bytes.{starts_with, split_on}
use Rattle.output.specs.Literals.{are_literals}
use Rattle.output.specs.declared.lines.LineForm.{LineForm}
use Rattle.output.specs.declared.lines.LineForm.TheVariants.{Comment, Satisfiable, Unsatisfiable, Values}
use Rattle.output.specs.declared.lines.Stage.{Stage}
use Rattle.output.specs.declared.lines.Stage.TheVariants.{BeforeStatus, InValues, Closed, Refuted}

-- the line is these bytes
unfoldable pub is_text : List ℕ → List ℕ → Bool
is_text k l = eqb (length l) (length k) && starts_with k l

-- the words of a line of literals: what follows v and a space, parted by single spaces (32)
unfoldable pub words_of : List ℕ → List (List ℕ)
words_of l = split_on 32 (drop 2 l)

-- a line of v and literals, one space apart
unfoldable pub is_values : List ℕ → Bool
is_values l = starts_with (ascii "v ") l && are_literals (words_of l)

-- the form of a line, which its LF has ended
unfoldable pub form_of : List ℕ → Option LineForm
form_of l =
    cond (starts_with (ascii "c ") l) (Some Comment)
    (cond (is_text (ascii "s SATISFIABLE") l) (Some Satisfiable)
    (cond (is_text (ascii "s UNSATISFIABLE") l) (Some Unsatisfiable)
    (cond (is_values l) (Some Values) None)))

-- A form's place: a comment may stand anywhere; one s line comes first; lines of literals follow `s SATISFIABLE` up to the closing 0, nothing
-- follows `s UNSATISFIABLE` or the closing 0.
abbrev pub in_place : Stage → Option LineForm → Bool
in_place s None = false
in_place s (Some Comment) = true
in_place BeforeStatus (Some Satisfiable) = true
in_place InValues (Some Satisfiable) = false
in_place Closed (Some Satisfiable) = false
in_place Refuted (Some Satisfiable) = false
in_place BeforeStatus (Some Unsatisfiable) = true
in_place InValues (Some Unsatisfiable) = false
in_place Closed (Some Unsatisfiable) = false
in_place Refuted (Some Unsatisfiable) = false
in_place BeforeStatus (Some Values) = false
in_place InValues (Some Values) = true
in_place Closed (Some Values) = false
in_place Refuted (Some Values) = false

-- what a line in its place leads to; the closing 0, a literal, ends the lines of literals
abbrev pub stage_after : Stage → Option LineForm → Stage
stage_after s None = s
stage_after s (Some Comment) = s
stage_after s (Some Satisfiable) = InValues
stage_after s (Some Unsatisfiable) = Refuted
stage_after s (Some Values) = s
