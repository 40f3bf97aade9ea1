-- What the call on a solver's output answers, and what it leaves in the assignment buffer.
use Rattle.std.specs.Prelude.{ℕ, ◌+◌, Bool, true, false, cond, ◌&&◌, ◌||◌, length, ltb, eqb, Option, Some, None, Result, Ok, Err}
use mathlib.Core.List.{List, [], ◌∷◌, ◌++◌, foldl}
use Rattle.model.specs.Indexed.{all_below, list_below}
use Rattle.output.specs.Literals.{literal_of}
use Rattle.output.specs.Lines.{in_place, stage_after}
use Rattle.output.specs.Tokens.{Token, formed, literal, tokens_of}
use Rattle.output.specs.declared.lines.LineForm.{LineForm}
use Rattle.output.specs.declared.lines.Stage.{Stage}
use Rattle.output.specs.declared.lines.Stage.TheVariants.{BeforeStatus, InValues, Closed, Refuted}
use Rattle.output.specs.declared.literals.Literal.{Literal}
use Rattle.output.specs.declared.reading.Fault.{Fault}
use Rattle.output.specs.declared.reading.Fault.TheVariants.{OutOfFormOrPlace, AboveOrNamedBefore, Incomplete}
use Rattle.output.specs.declared.Outcome.{Outcome}
use Rattle.output.specs.declared.Outcome.TheVariants as outcome
use Rattle.output.specs.declared.OutputRefusal.{OutputRefusal}
use Rattle.output.specs.declared.OutputRefusal.TheVariants as refusal

-- ---- the variables named so far
unfoldable pub is_named : ℕ → List Literal → Bool
is_named v [] = false
is_named v (l ∷ ls) = eqb l.variable v || is_named v ls

-- each variable from 1 to n is named
unfoldable pub all_named : ℕ → List Literal → Bool
all_named n named = all_below (λ i. is_named (i + 1) named) n

-- ---- judging
-- What was read so far: the first fault; the line that is judged, from 1; what may come next; the literals that named a variable, in order.
pub record Progress : Type 0 where
  pub fault : Option Fault
  pub line : ℕ
  pub stage : Stage
  pub named : List Literal

-- nothing is read yet: an s line is due
abbrev pub start : Progress
start = record { fault = None; line = 0; stage = BeforeStatus; named = [] }

-- the fault f; the next line; a stage; one literal more
abbrev pub faulty : Option Fault → Progress → Progress
faulty f p = record { fault = f; line = p.line; stage = p.stage; named = p.named }

abbrev pub on_next_line : Progress → Progress
on_next_line p = record { fault = None; line = p.line + 1; stage = p.stage; named = p.named }

abbrev pub at_stage : Stage → Progress → Progress
at_stage s p = record { fault = None; line = p.line; stage = s; named = p.named }

abbrev pub with_named : Literal → Progress → Progress
with_named l p = record { fault = None; line = p.line; stage = p.stage; named = p.named ++ (l ∷ []) }

-- 33 when a line is of none of these forms or out of place
abbrev pub judge_line : Option LineForm → Progress → Progress
judge_line f p = cond (in_place p.stage f) (at_stage (stage_after p.stage f) (on_next_line p)) (faulty (Some OutOfFormOrPlace) (on_next_line p))

-- 34 when a literal's variable lies above n or was named before, 35 when the closing 0 comes with a variable unnamed
abbrev pub judge_literal : ℕ → Literal → Progress → Progress
judge_literal n l p =
    cond (eqb l.variable 0) (cond (all_named n p.named) (at_stage Closed p) (faulty (Some Incomplete) p))
    (cond (ltb n l.variable || is_named l.variable p.named) (faulty (Some AboveOrNamedBefore) p) (with_named l p))

-- a line or a literal
abbrev pub judge_token : ℕ → Token → Progress → Progress
judge_token n (formed f) p = judge_line f p
judge_token n (literal l) p = judge_literal n l p

-- nothing was refused so far
abbrev pub is_no_fault : Option Fault → Bool
is_no_fault None = true
is_no_fault (Some f) = false

-- the first fault decides
unfoldable pub judge : ℕ → Progress → Token → Progress
judge n p token = cond (is_no_fault p.fault) (judge_token n token p) p

-- a text, judged for the variables 1 to n
unfoldable pub judged : ℕ → List ℕ → Progress
judged n t = foldl (judge n) start (tokens_of literal_of t)

-- ---- the answer
-- The number of the refusal, or 0; the line of a refusal, or 0; the outcome: 10 satisfiable, 20 unsatisfiable, 0 of a refused text. 10 and 20 are the
-- exit codes of solvers.
pub record OutputReport : Type 0 where
  pub number : ℕ
  pub line : ℕ
  pub outcome : ℕ

-- refused with a number and a line; accepted with an outcome
abbrev pub output_refused : ℕ → ℕ → OutputReport
output_refused number line = record { number = number; line = line; outcome = 0 }

abbrev pub output_accepted : ℕ → OutputReport
output_accepted outcome = record { number = 0; line = 0; outcome = outcome }

-- 35 when the text ends without the closing 0 or without an s line; the line is the one that is missing
abbrev pub end_report : ℕ → Stage → OutputReport
end_report line BeforeStatus = output_refused 35 (line + 1)
end_report line InValues = output_refused 35 (line + 1)
end_report line Closed = output_accepted 10
end_report line Refuted = output_accepted 20

-- the fault, if there is one, else how the text ended
abbrev pub report_of : Option Fault → ℕ → Stage → OutputReport
report_of None line stage = end_report line stage
report_of (Some OutOfFormOrPlace) line stage = output_refused 33 line
report_of (Some AboveOrNamedBefore) line stage = output_refused 34 line
report_of (Some Incomplete) line stage = output_refused 35 line

-- what the call answers on a text, of n variables
unfoldable pub output_report : List ℕ → ℕ → OutputReport
output_report t n = let p = judged n t in report_of p.fault p.line p.stage

-- ---- the assignment buffer
-- a byte for each variable, 1 for a bare literal, 0 for one with a minus
unfoldable pub is_bare : ℕ → List Literal → Bool
is_bare v [] = false
is_bare v (l ∷ ls) = (eqb l.variable v && l.bare) || is_bare v ls

unfoldable pub bytes_of : ℕ → List Literal → List ℕ
bytes_of n named = list_below (λ i. cond (is_bare (i + 1) named) 1 0) n

-- Satisfiable: the assignment. Unsatisfiable or refused: what stood there.
unfoldable pub output_left : List ℕ → List ℕ → List ℕ
output_left t old = cond (eqb (output_report t (length old)).outcome 10) (bytes_of (length old) (judged (length old) t).named) old

-- the number and the values of each case of the answer
abbrev pub output_told : Result Outcome OutputRefusal → OutputReport
output_told (Ok outcome.Satisfiable) = output_accepted 10
output_told (Ok outcome.Unsatisfiable) = output_accepted 20
output_told (Err (refusal.OutOfFormOrPlace l)) = output_refused 33 l
output_told (Err (refusal.AboveOrNamedBefore l)) = output_refused 34 l
output_told (Err (refusal.Incomplete l)) = output_refused 35 l
