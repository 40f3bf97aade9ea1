-- What the calls that take a record answer, all in one place: so that two records which no call tells apart can be named.
use Rattle.std.specs.Prelude.{◌≡◌, Bool, List, ℕ, ℤ}
use Rattle.model.specs.declared.Model.{Model}
use Rattle.model.specs.declared.State.{State}
use Rattle.model.specs.Refusal.{Refusal}
use Rattle.model.specs.Form.{well_formed, state_formed}
use Rattle.model.specs.Run.{is_run}
use Rattle.list.specs.Clauses.{Clause, clauses, words}
use Rattle.list.specs.Labels.{unlabelled}
use Rattle.totals.specs.CeilingCall.{CeilingReport, ceiling_report}
use Rattle.totals.specs.TotalsCall.{TotalsReport, totals_report}
use Rattle.walk.specs.StepCall.{StepReport, step_report}
use Rattle.walk.specs.Walker.{walk_report}
use Rattle.counts.specs.CountsCall.{ListReport, list_report}
use Rattle.emission.specs.EmitCall.{EmitReport, emit_report, emit_left}
use Rattle.dimacs.specs.DimacsCall.{FileReport, file_report, file_left}
use Rattle.dimacs.specs.Pages.{rows_to_print, pages_to_print, page_text}
use Rattle.encode.specs.EncodeCall.{encode_report, encode_left}
use Rattle.decode.specs.DecodeCall.{decode_report, decode_left}

-- The runs of a record, its list for a bound, and of every call on a record the answer and what it leaves in the buffer lent to it: the right-hand sides of
-- the contracts. (The methods of a model and of a state give what these are made of: totals and steps.) Calls that read labels are excepted by name and
-- do not belong here: composing (compose: `compose` and `part_steps`, which take two records) and writing back (Q-13).
pub record Answers : Type 0 where
  -- the runs; the list for a bound, its clauses and its words
  pub runs : List ℕ → Bool
  pub lists : ℕ → List Clause
  pub words : ℕ → List ℤ
  -- whether the record (20), and a state of it (10), is well formed
  pub formed : Bool
  pub states : State → Bool
  -- the ceiling; S, H and N for a bound
  pub ceilings : CeilingReport
  pub totals : ℕ → TotalsReport
  -- one step from a state; the walker on a run
  pub steps : State → ℕ → StepReport
  pub walks : List ℕ → Refusal
  -- the counts of the list for a bound
  pub counts : ℕ → ListReport
  -- emission for a bound, where so many words may be written: the answer, and the buffer after it
  pub emits : ℕ → ℕ → EmitReport
  pub emitted : ℕ → ℕ → List ℤ → List ℤ
  -- the DIMACS file for a bound into a buffer of so many bytes: the answer, and the buffer after it
  pub files : ℕ → ℕ → FileReport
  pub filed : ℕ → List ℕ → List ℕ
  -- the same file printed: its rows, the pages of a row, a page
  pub rows : ℕ → ℕ
  pub pages : ℕ → ℕ → ℕ
  pub page : ℕ → ℕ → ℕ → ℕ → List ℕ
  -- from an assignment for a bound to its run, into a buffer of so many bytes: the answer, and the buffer after it
  pub decodes : ℕ → List ℕ → ℕ → Refusal
  pub decoded : ℕ → List ℕ → List ℕ → List ℕ
  -- from a run to its assignment, likewise
  pub encodes : List ℕ → ℕ → Refusal
  pub encoded : List ℕ → List ℕ → List ℕ

-- The answers for the record m.
abbrev pub answers : Model → Answers
answers m = record {
  runs = is_run m;
  lists = clauses m;
  words = words m;
  formed = well_formed m;
  states = state_formed m;
  ceilings = ceiling_report m;
  totals = totals_report m;
  steps = step_report m;
  walks = walk_report m;
  counts = list_report m;
  emits = emit_report m;
  emitted = emit_left m;
  files = file_report m;
  filed = file_left m;
  rows = rows_to_print m;
  pages = pages_to_print m;
  page = page_text m;
  decodes = decode_report m;
  decoded = decode_left m;
  encodes = encode_report m;
  encoded = encode_left m;
}

-- Two records differ in labels alone: without labels they are the same.
abbrev pub LabelsAlone : Model → Model → Type 0
LabelsAlone m n = unlabelled m ≡ unlabelled n
