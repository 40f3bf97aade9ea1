-- A record whose edges are replaced by others with the same form, step and items (list/proofs/MappedEdges) gets the same answers from every call that takes
-- a record. The calls read a record's edges by its form, ceiling, steps and list alone.
use mathlib.Core.Path.{◌≡◌, refl, sym, ap, ap₂, ◌∙◌}
use mathlib.Core.Bool.{not, cond}
use mathlib.Core.List.{List, [], ◌∷◌, ◌++◌}
use Rattle.std.specs.Prelude.{Option, None, Some}
use Prim.Native.Nat.{ℕ, ◌+◌, ◌-◌}
use lib.Dec.{T, ltb, leb}
use lib.IntN.{ℤ}
use lib.ListN.{length}
use Rattle.model.specs.declared.Edge.{Edge}
use Rattle.model.specs.declared.Model.{Model}
use Rattle.model.specs.declared.State.{State}
use Rattle.model.specs.Indexed.{and_then, maybe}
use Rattle.model.specs.Refusal.{refusal}
use Rattle.model.specs.Automaton.{ceiling, initial_state, invariant_holds, choices, step, state_size, variables}
use Rattle.model.specs.Form.{well_formed, state_formed}
use Rattle.model.specs.Run.{walk, start, ends_in, is_run}
use Rattle.model.proofs.IndexedLaws.{T_true}
use Rattle.list.specs.Clauses.{one_hot_width, clauses_of, words_of, clauses, words}
use Rattle.list.specs.Assignments.{state_bytes, steps_bytes, one_hot, run_of, assignment_of}
use Rattle.list.specs.OtherEdges.{map_edges}
use Rattle.list.specs.SelfCopies.{self_edge, self_model}
use Rattle.list.specs.Labels.{unlabelled_edge, unlabelled}
use Rattle.list.proofs.SelfCopyLaws
use Rattle.list.proofs.LabelLaws
use Rattle.list.proofs.MappedEdges as mapped
use Rattle.list.proofs.MappedEdges.{Keeps}
use Rattle.totals.specs.CeilingCall.{ceiling_report}
use Rattle.totals.specs.TotalsCall.{totals_report}
use Rattle.walk.specs.StepCall.{step_report}
use Rattle.walk.specs.Walker.{walk_steps, walk_report}
use Rattle.counts.specs.CountsCall.{list_report}
use Rattle.emission.specs.EmitCall.{emit_report, emit_left}
use Rattle.dimacs.specs.File.{file}
use Rattle.dimacs.specs.DimacsCall.{file_report, file_left}
use Rattle.dimacs.specs.Pages.{pages_in, page_of, rows_to_print, pages_to_print, page_text}
use Rattle.refute.specs.RefuteCall.{after_emission, refute_report}
use Rattle.encode.specs.EncodeCall.{encode_report, encode_left}
use Rattle.decode.specs.DecodeCall.{decode_report, decode_left}
use Rattle.text.proofs.Laws.Accepted.{accepted_formed}
use Rattle.claims.specs.Texts.{text_model, IsRead}
use Rattle.claims.specs.Answers.{answers, LabelsAlone}
use Rattle.claims.proofs.SamePieces as pieces

module _ (f : Edge → Edge) (keeps : Keeps f) (m : Model) (ok : T (well_formed m)) where
  abbrev n : Model
  n = map_edges f m

  -- ---- form, ceiling, totals, steps, list
  formed_same : well_formed n ≡ well_formed m
  formed_same = (T_true (well_formed n)).0 (mapped.well_formed_lem f keeps m ok) ∙ sym ((T_true (well_formed m)).0 ok)

  top : ceiling n ≡ ceiling m
  top = mapped.ceiling_same f keeps m

  choices_same : choices n ≡ choices m
  unfolding choices
  choices_same = rw top refl

  size_same : state_size n ≡ state_size m
  unfolding state_size
  size_same = rw top refl

  variables_same : (k : ℕ) → variables n k ≡ variables m k
  unfolding variables
  variables_same k = rw (size_same, choices_same) refl

  step_same : (s : State) (b : ℕ) → step n s b ≡ step m s b
  step_same = mapped.same_steps f keeps m ok

  clauses_same : (k : ℕ) → clauses n k ≡ clauses m k
  unfolding clauses
  clauses_same k = ap clauses_of (mapped.same_lists f keeps m ok one_hot_width k)

  words_same : (k : ℕ) → words n k ≡ words m k
  unfolding words
  words_same k = ap words_of (clauses_same k)

  states_same : (s : State) → state_formed n s ≡ state_formed m s
  unfolding state_formed
  states_same s = rw top refl

  ceilings_same : ceiling_report n ≡ ceiling_report m
  unfolding ceiling_report
  ceilings_same = rw (formed_same, top) refl

  totals_same : (k : ℕ) → totals_report n k ≡ totals_report m k
  unfolding totals_report
  totals_same k = rw (formed_same, size_same, choices_same, variables_same k) refl

  -- ---- steps and runs
  steps_same : (s : State) (b : ℕ) → step_report n s b ≡ step_report m s b
  unfolding step_report
  steps_same s b = rw (formed_same, states_same s, choices_same, step_same s b) refl

  start_same : start n ≡ start m
  unfolding start initial_state invariant_holds
  start_same = refl

  walk_same : (s : State) (r : List ℕ) → walk n s r ≡ walk m s r
  unfolding walk
  walk_same s [] = refl
  walk_same s (b ∷ r) = λ i. and_then (step_same s b i) (λ t. walk_same t r i)

  ends_same : (x : Option State) → ends_in n x ≡ ends_in m x
  ends_same None = refl
  ends_same (Some s) = refl

  runs_same : (r : List ℕ) → is_run n r ≡ is_run m r
  unfolding is_run
  runs_same r =
      ends_same (and_then (start n) (λ s. walk n s r)) ∙ (λ i. ends_in m (and_then (start_same i) (λ s. walk_same s r i)))

  walked_same : (t : ℕ) (s : State) (r : List ℕ) → walk_steps n t s r ≡ walk_steps m t s r
  unfolding walk_steps
  walked_same t s [] = refl
  walked_same t s (b ∷ r) = λ i. cond (leb (choices_same i) b) (refusal 27 t) (maybe (step_same s b i) (refusal 28 t) (λ u. walked_same (t + 1) u r i))

  walks_same : (r : List ℕ) → walk_report n r ≡ walk_report m r
  unfolding walk_report
  walks_same r =
      λ i. cond (not (formed_same i)) (refusal 20 0) (cond (ltb 64 (length r)) (refusal 21 0) (maybe (start_same i) (refusal 29 0) (λ s. walked_same 1 s r i)))

  -- ---- counts and emission
  counts_same : (k : ℕ) → list_report n k ≡ list_report m k
  unfolding list_report
  counts_same k = rw (formed_same, variables_same k, clauses_same k, words_same k) refl

  emits_same : (k room : ℕ) → emit_report n k room ≡ emit_report m k room
  unfolding emit_report
  emits_same k room = rw (formed_same, variables_same k, clauses_same k, words_same k) refl

  emitted_same : (k room : ℕ) (out : List ℤ) → emit_left n k room out ≡ emit_left m k room out
  unfolding emit_left
  emitted_same k room out = rw (emits_same k room, words_same k) refl

  pub refutes_same : (k : ℕ) (old : List ℤ) (hints : List ℕ) → refute_report n k old hints ≡ refute_report m k old hints
  unfolding refute_report
  refutes_same k old hints = λ i. after_emission (emits_same k (length old) i) (emitted_same k (length old) old i) hints

  -- ---- from assignment to run, from run to assignment
  run_same : (k : ℕ) (a : List ℕ) → run_of n k a ≡ run_of m k a
  unfolding run_of
  run_same k a = rw (choices_same, top) refl

  decodes_same : (k : ℕ) (a : List ℕ) (room : ℕ) → decode_report n k a room ≡ decode_report m k a room
  unfolding decode_report
  decodes_same k a room = rw (formed_same, variables_same k, clauses_same k) refl

  decoded_same : (k : ℕ) (a old : List ℕ) → decode_left n k a old ≡ decode_left m k a old
  unfolding decode_left
  decoded_same k a old = rw (decodes_same k a (length old), run_same k a) refl

  block_same : (s : State) → state_bytes one_hot n s ≡ state_bytes one_hot m s
  unfolding state_bytes
  block_same s = rw top refl

  blocks_same : (s : State) (r : List ℕ) → steps_bytes one_hot n s r ≡ steps_bytes one_hot m s r
  unfolding steps_bytes
  blocks_same s [] = refl
  blocks_same s (b ∷ r) =
      λ i. maybe (step_same s b i) [] (λ t. one_hot (choices_same i) b ++ (block_same t i ++ blocks_same t r i))

  assignment_same : (r : List ℕ) → assignment_of n r ≡ assignment_of m r
  unfolding assignment_of initial_state
  assignment_same r = ap₂ (λ (a b : List ℕ). a ++ b) (block_same (initial_state m)) (blocks_same (initial_state m) r)

  encodes_same : (r : List ℕ) (room : ℕ) → encode_report n r room ≡ encode_report m r room
  unfolding encode_report
  encodes_same r room = rw (walks_same r, variables_same (length r)) refl

  encoded_same : (r old : List ℕ) → encode_left n r old ≡ encode_left m r old
  unfolding encode_left
  encoded_same r old = rw (encodes_same r (length old), assignment_same r, variables_same (length r)) refl

  -- ---- the DIMACS file
  file_same : (k : ℕ) → file n k ≡ file m k
  unfolding file
  file_same k = rw (variables_same k, clauses_same k) refl

  files_same : (k room : ℕ) → file_report n k room ≡ file_report m k room
  unfolding file_report
  files_same k room = rw (formed_same, file_same k) refl

  filed_same : (k : ℕ) (out : List ℕ) → file_left n k out ≡ file_left m k out
  unfolding file_left
  filed_same k out = rw (files_same k (length out), file_same k) refl

  rows_same : (k : ℕ) → rows_to_print n k ≡ rows_to_print m k
  unfolding rows_to_print
  rows_same k = rw formed_same refl

  pages_same : (k r : ℕ) → pages_to_print n k r ≡ pages_to_print m k r
  unfolding pages_to_print pages_in
  pages_same k r = rw (formed_same, pieces.counts_same f keeps m ok k (r - 1)) refl

  page_same : (k r p room : ℕ) → page_text n k r p room ≡ page_text m k r p room
  unfolding page_text page_of
  page_same k r p room =
      rw (rows_same k, pages_same k r, variables_same k, clauses_same k, pieces.pieces_same f keeps m ok k (r - 1) p) refl

  -- ---- all answers
  pub answers_same : answers n ≡ answers m
  answers_same = λ i. record {
    runs = λ r. runs_same r i;
    lists = λ k. clauses_same k i;
    words = λ k. words_same k i;
    formed = formed_same i;
    states = λ s. states_same s i;
    ceilings = ceilings_same i;
    totals = λ k. totals_same k i;
    steps = λ s b. steps_same s b i;
    walks = λ r. walks_same r i;
    counts = λ k. counts_same k i;
    emits = λ k room. emits_same k room i;
    emitted = λ k room out. emitted_same k room out i;
    files = λ k room. files_same k room i;
    filed = λ k out. filed_same k out i;
    rows = λ k. rows_same k i;
    pages = λ k r. pages_same k r i;
    page = λ k r p room. page_same k r p room i;
    decodes = λ k a room. decodes_same k a room i;
    decoded = λ k a old. decoded_same k a old i;
    encodes = λ r room. encodes_same r room i;
    encoded = λ r old. encoded_same r old i;
  }

-- ---- self-copies and labels
pub self_copies : (m : Model) → T (well_formed m) → answers (self_model m) ≡ answers m
unfolding self_model
self_copies m ok = answers_same self_edge SelfCopyLaws.keeps m ok

pub unlabelled_same : (m : Model) → T (well_formed m) → answers (unlabelled m) ≡ answers m
unfolding unlabelled
unlabelled_same m ok = answers_same unlabelled_edge LabelLaws.keeps m ok

pub labels_alone : (m n : Model) → T (well_formed m) → T (well_formed n) → LabelsAlone m n → answers m ≡ answers n
labels_alone m n ok ok' same = sym (unlabelled_same m ok) ∙ ap answers same ∙ unlabelled_same n ok'

pub text_labels_alone : (t u : List ℕ) → IsRead t → IsRead u → LabelsAlone (text_model t) (text_model u) → answers (text_model t) ≡ answers (text_model u)
text_labels_alone t u z y = labels_alone (text_model t) (text_model u) (accepted_formed t z) (accepted_formed u y)

-- the refuting call, likewise
pub self_copies_refutes : (m : Model) → T (well_formed m) → (k : ℕ) (old : List ℤ) (hints : List ℕ)
    → refute_report (self_model m) k old hints ≡ refute_report m k old hints
unfolding self_model
self_copies_refutes m ok = refutes_same self_edge SelfCopyLaws.keeps m ok

pub unlabelled_refutes : (m : Model) → T (well_formed m) → (k : ℕ) (old : List ℤ) (hints : List ℕ)
    → refute_report (unlabelled m) k old hints ≡ refute_report m k old hints
unfolding unlabelled
unlabelled_refutes m ok = refutes_same unlabelled_edge LabelLaws.keeps m ok

pub labels_alone_refutes : (m n : Model) → T (well_formed m) → T (well_formed n) → LabelsAlone m n → (k : ℕ) (old : List ℤ) (hints : List ℕ)
    → refute_report m k old hints ≡ refute_report n k old hints
labels_alone_refutes m n ok ok' same k old hints =
    sym (unlabelled_refutes m ok k old hints) ∙ ap (λ (x : Model). refute_report x k old hints) same ∙ unlabelled_refutes n ok' k old hints

pub text_labels_alone_refutes : (t u : List ℕ) → IsRead t → IsRead u → LabelsAlone (text_model t) (text_model u) → (k : ℕ) (old : List ℤ) (hints : List ℕ)
    → refute_report (text_model t) k old hints ≡ refute_report (text_model u) k old hints
text_labels_alone_refutes t u z y = labels_alone_refutes (text_model t) (text_model u) (accepted_formed t z) (accepted_formed u y)
