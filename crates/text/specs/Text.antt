-- What a model text says.
use Rattle.std.specs.Prelude.{ℕ, List, cond, ltb, eqb, length, Result, Ok, Err}
use Rattle.model.specs.declared.Model.{Model}
use Rattle.model.specs.Record.{blank_model}
use Rattle.text.specs.lines.Progress.{Progress}
use Rattle.text.specs.lines.Sequence.{read_lines}
use Rattle.text.specs.declared.ReadRefusal.{ReadRefusal}
use Rattle.text.specs.declared.ReadRefusal.TheVariants.{TooLong, NotDue, NotOfItsForm, TooManyItems, OutOfRange, NotDeclared, SetTwiceOrNotRising, BytesLeft}

-- ---- the whole text
-- the number of the refusal, or 0; the line, from 1, or 0; the model read, or the blank model
pub record ReadReport : Type 0 where
  pub number : ℕ
  pub line : ℕ
  pub model : Model

abbrev pub read_refused : ℕ → ℕ → ReadReport
read_refused number line = record { number = number; line = line; model = blank_model }

abbrev pub read_accepted : Model → ReadReport
read_accepted m = record { number = 0; line = 0; model = m }

-- after the last line: 8 bytes left, with the line after the last
unfoldable pub read_ended : Progress → ReadReport
read_ended p = cond (eqb p.number 0) (cond (ltb 0 (length p.rest)) (read_refused 8 p.line) (read_accepted p.model)) (read_refused p.number p.line)

-- 1 more than 8,192 bytes (line 0), then the lines, then 8
unfoldable pub read_report : List ℕ → ReadReport
read_report t = cond (ltb 8192 (length t)) (read_refused 1 0) (read_ended (read_lines t))

-- A call on a text. A text that is read: what the call says of the model. A refused text: what is said of its number and line.
unfoldable pub if_read : {A : Type 0} → ReadReport → (Model → A) → (ℕ → ℕ → A) → A
if_read t call refused = cond (eqb t.number 0) (call t.model) (refused t.number t.line)

-- the number and the line of each refusal
abbrev pub outcome_number : ReadRefusal → ℕ
outcome_number TooLong = 1
outcome_number (NotDue line) = 2
outcome_number (NotOfItsForm line) = 3
outcome_number (OutOfRange line) = 4
outcome_number (NotDeclared line) = 5
outcome_number (SetTwiceOrNotRising line) = 6
outcome_number (TooManyItems line) = 7
outcome_number (BytesLeft line) = 8

abbrev pub outcome_line : ReadRefusal → ℕ
outcome_line TooLong = 0
outcome_line (NotDue line) = line
outcome_line (NotOfItsForm line) = line
outcome_line (OutOfRange line) = line
outcome_line (NotDeclared line) = line
outcome_line (SetTwiceOrNotRising line) = line
outcome_line (TooManyItems line) = line
outcome_line (BytesLeft line) = line

-- what the answer to a text says
abbrev pub read_told : Result Model ReadRefusal → ReadReport
read_told (Ok m) = read_accepted m
read_told (Err e) = read_refused (outcome_number e) (outcome_line e)
