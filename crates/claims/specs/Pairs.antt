-- The calls for C on two model texts: what they answer and leave, as the calls of which the demands are said; that none of them answers 20; what the worked
-- pairs compose.
use Rattle.std.specs.Prelude.{◌≡◌, List, ℕ, length}
use Rattle.model.specs.declared.Model.{Model}
use Rattle.model.specs.declared.State.{State}
use Rattle.model.specs.Automaton.{initial_state}
use Rattle.model.specs.Refusal.{refusal}
use Rattle.walk.specs.StepCall.{step_report}
use Rattle.walk.specs.Walker.{walk_report}
use Rattle.compose.specs.ComposeCall.{compose_report, compose_reported}
use Rattle.compose.specs.Parts.{parts_report}
use Rattle.encode.specs.EncodeCall.{encode_report, encode_left}
use Rattle.decode.specs.DecodeCall.{decode_report, decode_left}
use Rattle.counts.specs.CountsCall.{list_report}
use Rattle.emission.specs.EmitCall.{emit_report, emit_left}
use Rattle.text.specs.bytes.Ascii.{text_of}
use Rattle.text.specs.Text.{read_report, read_accepted}
use Rattle.sizing.specs.SizeCall.{refused_sizes, emitted_sizes}
use Rattle.dimacs.specs.DimacsCall.{file_report, file_left}
use Rattle.wirdoku.specs.TextCall.{counted_sizes, shape_of, refused_shape, file_reply, refused_file, state_answer, zero_state, step_answer}
use Rattle.wirdoku.specs.PairCall.{PairReport, pair_report, if_pair, if_both, parts_answer, refused_parts}
use Rattle.claims.specs.Calls.{Calls}
use Rattle.claims.specs.Texts.{counts_in, file_in, Not20}
use Rattle.claims.specs.RowModels.{labelled_a}
use Rattle.claims.specs.PairModels.{logger_text, watchdog_text, logger, watchdog, logger_and_watchdog, apart_a, paired_a}

-- ---- the calls of which the demands are said
-- What two texts are read and composed as.
abbrev pub pair_of : List ℕ → List ℕ → PairReport
pair_of t u = pair_report (read_report t) (read_report u)

-- Both texts are read and compose a model.
abbrev pub IsPair : List ℕ → List ℕ → Type 0
IsPair t u = (pair_of t u).number ≡ 0

-- That model.
abbrev pub pair_model : List ℕ → List ℕ → Model
pair_model t u = (pair_of t u).model

-- The right-hand sides of the contracts of wirdoku_pair_emit, _dimacs, _walk, _assignment_to_run and _run_to_assignment.
abbrev pub pair_calls : List ℕ → List ℕ → Calls
pair_calls t u = record {
  model = pair_model t u;
  emits = λ k out. counts_in (if_pair (pair_of t u) (λ m. emitted_sizes (emit_report m k (length out))) refused_sizes);
  emitted = λ k out. if_pair (pair_of t u) (λ m. emit_left m k (length out) out) (λ n l. out);
  files = λ k out. file_in (if_pair (pair_of t u) (λ m. file_reply (file_report m k (length out))) refused_file);
  filed = λ k out. if_pair (pair_of t u) (λ m. file_left m k out) (λ n l. out);
  walks = λ r. if_pair (pair_of t u) (λ m. walk_report m r) refusal;
  decodes = λ k a run. if_pair (pair_of t u) (λ m. decode_report m k a (length run)) refusal;
  decoded = λ k a run. if_pair (pair_of t u) (λ m. decode_left m k a run) (λ n l. run);
  encodes = λ r out. if_pair (pair_of t u) (λ m. encode_report m r (length out)) refusal;
  encoded = λ r out. if_pair (pair_of t u) (λ m. encode_left m r out) (λ n l. out);
}

-- ---- the number 20
-- No call for C on two texts answers 20: texts that are read give well-formed records, and these compose a well-formed one.
pub record PairNever20 : Type 0 where
  pub read : (t u : List ℕ) → Not20 (pair_of t u).number
  pub shape : (t u : List ℕ) → Not20 (if_pair (pair_of t u) shape_of refused_shape).number
  pub counts : (t u : List ℕ) (k : ℕ) → Not20 (if_pair (pair_of t u) (λ m. counted_sizes (list_report m k)) refused_sizes).number
  pub emit : (t u : List ℕ) (k room : ℕ) → Not20 (if_pair (pair_of t u) (λ m. emitted_sizes (emit_report m k room)) refused_sizes).number
  pub dimacs : (t u : List ℕ) (k room : ℕ) → Not20 (if_pair (pair_of t u) (λ m. file_reply (file_report m k room)) refused_file).number
  pub initial : (t u : List ℕ) → Not20 (if_pair (pair_of t u) (λ m. state_answer 0 0 (initial_state m)) (λ n l. state_answer n l zero_state)).number
  pub step : (t u : List ℕ) (s : State) (byte : ℕ)
      → Not20 (if_pair (pair_of t u) (λ m. step_answer (step_report m s byte)) (λ n l. state_answer n l s)).number
  pub walk : (t u r : List ℕ) → Not20 (if_pair (pair_of t u) (λ m. walk_report m r) refusal).number
  pub assignment_to_run : (t u : List ℕ) (k : ℕ) (a : List ℕ) (room : ℕ) → Not20 (if_pair (pair_of t u) (λ m. decode_report m k a room) refusal).number
  pub run_to_assignment : (t u r : List ℕ) (room : ℕ) → Not20 (if_pair (pair_of t u) (λ m. encode_report m r room) refusal).number
  pub parts : (t u : List ℕ) (byte : ℕ)
      → Not20 (if_both (read_report t) (read_report u) (λ a b. parts_answer (parts_report a b byte)) (λ text. refused_parts)).number

-- ---- the worked pairs
-- The texts are read as their records, and each pair composes its model.
pub record WorkedPairs : Type 0 where
  pub logger_read : read_report (text_of logger_text) ≡ read_accepted logger
  pub watchdog_read : read_report (text_of watchdog_text) ≡ read_accepted watchdog
  pub logger_watchdog : compose_report logger watchdog ≡ compose_reported 0 logger_and_watchdog
  pub labels_0_0 : compose_report (labelled_a 0 0) (labelled_a 0 0) ≡ compose_reported 0 (apart_a 0 0)
  pub labels_1_1 : compose_report (labelled_a 1 0) (labelled_a 1 0) ≡ compose_reported 0 (paired_a 1)
  pub labels_1_2 : compose_report (labelled_a 1 0) (labelled_a 2 0) ≡ compose_reported 0 (apart_a 1 2)
