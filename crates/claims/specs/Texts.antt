-- The calls for C on a model text: what they answer and leave, as the calls of which the demands are said; that none of them answers 20; what the texts
-- of the small models are read as. What is used of the crates that read a text and of the crate of the calls for C is imported here.
use Rattle.std.specs.Prelude.{◌≡◌, List, ℕ, length}
use Rattle.model.specs.declared.Model.{Model}
use Rattle.model.specs.declared.State.{State}
use Rattle.model.specs.Automaton.{initial_state}
use Rattle.model.specs.Refusal.{refusal}
use Rattle.walk.specs.StepCall.{step_report}
use Rattle.walk.specs.Walker.{walk_report}
use Rattle.encode.specs.EncodeCall.{encode_report, encode_left}
use Rattle.decode.specs.DecodeCall.{decode_report, decode_left}
use Rattle.counts.specs.CountsCall.{list_report}
use Rattle.emission.specs.EmitCall.{EmitReport, emit_reported}
use Rattle.text.specs.bytes.Ascii.{text_of}
use Rattle.text.specs.Text.{read_report, read_accepted, if_read}
use Rattle.sizing.specs.SizeCall.{SizeReport, refused_sizes, text_sizes, text_left, size_report}
use Rattle.dimacs.specs.DimacsCall.{FileReport, file_report, file_reported, file_left}
use Rattle.wirdoku.specs.TextCall.{text_report, counted_sizes, shape_of, refused_shape, file_reply, refused_file, state_answer, zero_state, step_answer}
use Rattle.wirdoku.specs.declared.FileReply.{FileReply}
use Rattle.claims.specs.Calls.{Calls}
use Rattle.claims.specs.RowModels.{clock_relations, clock_relations_text, counter_relations, counter_relations_text}
use Rattle.claims.specs.RowModels.{counter_updates, counter_updates_text, two_of_each, two_of_each_text, raised_then_copied, raised_then_copied_text}
use Rattle.claims.specs.RowModels.{copied_then_raised, copied_then_raised_text, two_orders, two_orders_text}
use Rattle.claims.specs.RowModels.{reset_and_copied, reset_and_copied_text, clocks_swapped, clocks_swapped_text}

-- ---- the calls of which the demands are said
-- The text is read.
abbrev pub IsRead : List ℕ → Type 0
IsRead t = (read_report t).number ≡ 0

-- The model that it is read as.
abbrev pub text_model : List ℕ → Model
text_model t = (read_report t).model

-- Emission's numbers in the five of its answer to C.
abbrev pub counts_in : SizeReport → EmitReport
counts_in s = emit_reported s.number s.variables s.clauses s.words

-- The file call's numbers in the three of its answer to C.
abbrev pub file_in : FileReply → FileReport
file_in r = file_reported r.number r.bytes

-- The right-hand sides of the contracts of wirdoku_emit, wirdoku_dimacs, wirdoku_walk, wirdoku_assignment_to_run and wirdoku_run_to_assignment.
abbrev pub text_calls : List ℕ → Calls
text_calls t = record {
  model = text_model t;
  emits = λ k out. counts_in (text_sizes (read_report t) k (length out));
  emitted = λ k out. text_left (read_report t) k out;
  files = λ k out. file_in (if_read (read_report t) (λ m. file_reply (file_report m k (length out))) refused_file);
  filed = λ k out. if_read (read_report t) (λ m. file_left m k out) (λ n l. out);
  walks = λ r. if_read (read_report t) (λ m. walk_report m r) refusal;
  decodes = λ k a run. if_read (read_report t) (λ m. decode_report m k a (length run)) refusal;
  decoded = λ k a run. if_read (read_report t) (λ m. decode_left m k a run) (λ n l. run);
  encodes = λ r out. if_read (read_report t) (λ m. encode_report m r (length out)) refusal;
  encoded = λ r out. if_read (read_report t) (λ m. encode_left m r out) (λ n l. out);
}

-- ---- the number 20
abbrev pub Not20 : ℕ → Type 0
Not20 n = n ≡ 20 → ⊥

-- No call for C answers 20: a text that is read gives a well-formed record.
pub record Never20 : Type 0 where
  pub read : (t : List ℕ) → Not20 (text_report (read_report t)).number
  pub shape : (t : List ℕ) → Not20 (if_read (read_report t) shape_of refused_shape).number
  pub counts : (t : List ℕ) (k : ℕ) → Not20 (if_read (read_report t) (λ m. counted_sizes (list_report m k)) refused_sizes).number
  pub emit : (t : List ℕ) (k room : ℕ) → Not20 (text_sizes (read_report t) k room).number
  pub dimacs : (t : List ℕ) (k room : ℕ) → Not20 (if_read (read_report t) (λ m. file_reply (file_report m k room)) refused_file).number
  pub size : (input : List ℕ) (room : ℕ) → Not20 (size_report input room).number
  pub initial : (t : List ℕ) → Not20 (if_read (read_report t) (λ m. state_answer 0 0 (initial_state m)) (λ n l. state_answer n l zero_state)).number
  pub step : (t : List ℕ) (s : State) (byte : ℕ)
      → Not20 (if_read (read_report t) (λ m. step_answer (step_report m s byte)) (λ n l. state_answer n l s)).number
  pub walk : (t r : List ℕ) → Not20 (if_read (read_report t) (λ m. walk_report m r) refusal).number
  pub assignment_to_run : (t : List ℕ) (k : ℕ) (a : List ℕ) (room : ℕ)
      → Not20 (if_read (read_report t) (λ m. decode_report m k a room) refusal).number
  pub run_to_assignment : (t r : List ℕ) (room : ℕ) → Not20 (if_read (read_report t) (λ m. encode_report m r room) refusal).number

-- ---- the small models
-- Each text is read as its record.
pub record RowTexts : Type 0 where
  pub clock_relations_lem : read_report (text_of clock_relations_text) ≡ read_accepted clock_relations
  pub counter_relations_lem : read_report (text_of counter_relations_text) ≡ read_accepted counter_relations
  pub counter_updates_lem : read_report (text_of counter_updates_text) ≡ read_accepted counter_updates
  pub two_of_each_lem : read_report (text_of two_of_each_text) ≡ read_accepted two_of_each
  pub raised_then_copied_lem : read_report (text_of raised_then_copied_text) ≡ read_accepted raised_then_copied
  pub copied_then_raised_lem : read_report (text_of copied_then_raised_text) ≡ read_accepted copied_then_raised
  pub two_orders_lem : read_report (text_of two_orders_text) ≡ read_accepted two_orders
  pub reset_and_copied_lem : read_report (text_of reset_and_copied_text) ≡ read_accepted reset_and_copied
  pub clocks_swapped_lem : read_report (text_of clocks_swapped_text) ≡ read_accepted clocks_swapped
