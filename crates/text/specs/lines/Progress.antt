-- Reading line after line: how one due line is tried, and what becomes of the reading.
use Rattle.std.specs.Prelude.{ℕ, ◌+◌, List, cond, eqb}
use Rattle.text.specs.bytes.Bytes.{after, is_due, value_of}
use Rattle.text.specs.bytes.Faulty.{line_number}
use Rattle.text.specs.declared.bytes.Faults.{Faults}
use Rattle.model.specs.declared.Model.{Model}
use Rattle.model.specs.Record.{blank_model}

-- A reading in progress: the number of its refusal, or 0; the line that is due next, or the one refused, from 1; the bytes that are not read;
-- what was read so far.
pub record Progress : Type 0 where
  pub number : ℕ
  pub line : ℕ
  pub rest : List ℕ
  pub model : Model

-- nothing is read yet
abbrev pub unread : List ℕ → Progress
unread t = record { number = 0; line = 1; rest = t; model = blank_model }

-- the due line is refused
abbrev pub refused : ℕ → Progress → Progress
refused number p = record { number = number; line = p.line; rest = p.rest; model = p.model }

-- the due line is read, and gives the model m
abbrev pub advanced : Model → Progress → Progress
advanced m p = record { number = 0; line = p.line + 1; rest = after 10 p.rest; model = m }

-- the due line, tried with the result `number`: 0 if all its tests pass
abbrev pub tried : ℕ → Model → Progress → Progress
tried number m p = cond (eqb number 0) (advanced m p) (refused number p)

-- one due line: its key and =, the faults of its value, and the model that it gives; all but the key look at the model read so far. After a
-- refusal nothing more is read.
unfoldable pub read_line : List ℕ → (Model → List ℕ → Faults) → (Model → List ℕ → Model) → Progress → Progress
read_line key faults store p =
    cond (eqb p.number 0)
    (tried (line_number (is_due key p.rest) (faults p.model (value_of key p.rest))) (store p.model (value_of key p.rest)) p)
    p
