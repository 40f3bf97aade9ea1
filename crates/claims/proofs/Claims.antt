-- What is claimed of the calls, the page to read first: demands 2 and 3 and the corollary on the shortest run, of the words that emission leaves in the lent
-- buffer, of any solver's assignment to them, and of what the conversions and the walker answer and leave; that a list which is refuted means that there is no
-- run; that the DIMACS file has those words; the same of the calls for C on a text; what a solver's output says of the list; that updates happen in their
-- written order; that copies of clocks read the values before the edge; that labels change no answer; that 16 bits are enough for a number; and the rows.
-- specs/Words.antt, Calls.antt, Refuted.antt, Files.antt, Texts.antt, Outputs.antt, Answers.antt and Cases.antt say what the statements mean; each proof is
-- cited.
use mathlib.Core.Path.{◌≡◌}
use mathlib.Core.Logic.{◌↔◌}
use mathlib.Core.List.{List, [], ◌∷◌, ◌++◌}
use mathlib.Core.Bool.{true}
use Rattle.std.specs.Prelude.{Option, Some}
use Prim.Native.Nat.{ℕ, ◌-◌, ◌≤◌, ◌<◌, max}
use lib.Dec.{T}
use lib.IntN.{ℤ}
use lib.ListN.{length, take, get_or}
use Rattle.model.specs.declared.ClockUpdate.TheVariants.{Reset, Copy}
use Rattle.model.specs.declared.Counter.{Counter}
use Rattle.model.specs.declared.Edge.{Edge}
use Rattle.model.specs.declared.Model.{Model}
use Rattle.model.specs.declared.State.{State}
use Rattle.model.specs.Indexed.{each}
use Rattle.model.specs.Record.{update_at, reset_at, edge_at}
use Rattle.model.specs.Automaton.{ceiling, variables, value, counter, clock, initial_state, listed, updated, edge_step}
use Rattle.model.specs.Run.{walk}
use Rattle.model.specs.Form.{well_formed}
use Rattle.model.proofs.FormLaws.{WellFormed, WellFormedEdge}
use Rattle.model.proofs.StepLaws
use Rattle.model.proofs.StepLaws.{Shaped, EdgeBy, NoneEarlier}
use Rattle.compose.specs.Joined.{joined_location}
use Rattle.compose.specs.Composed.{fits, composed}
use Rattle.product.specs.Joint.{Parts, JointState, HasParts, StepsAsParts, WalksAsParts, RunsAsParts}
use Rattle.product.specs.Limits.{ComposesExactly}
use Rattle.product.proofs.ComposedForm
use Rattle.product.proofs.ComposedCeiling
use Rattle.product.proofs.Limits as ProductLimits
use Rattle.product.proofs.Product
use Rattle.list.specs.Lists.{All}
use Rattle.list.specs.Items.{source_items, target_items, guard_items, resets_items, edge_items}
use Rattle.list.specs.Clauses.{clauses, words}
use Rattle.list.specs.Assignments.{satisfied}
use Rattle.emission.specs.EmitCall.{EmitReport}
use Rattle.dimacs.specs.DimacsCall.{FileReport}
use Rattle.refutation.specs.Refutation.{refutes}
use Rattle.refute.specs.RefuteCall.{RefuteReport, refute_report}
use Rattle.dimacs.specs.File.{file}
use Rattle.list.proofs.SourcesBefore
use Rattle.list.proofs.SourcesBefore.{items_from_before}
use Rattle.list.specs.SelfCopies.{self_model, SelfCopies}
use Rattle.list.specs.Labels.{unlabelled}
use Rattle.list.proofs.LabelLaws
use Rattle.list.proofs.SelfCopyLaws
use Rattle.parts.specs.Numbering.{SixteenBits}
use Rattle.parts.proofs.SixteenBits as SixteenLaws
use Rattle.text.specs.bytes.Faulty.{fault_number}
use Rattle.text.specs.declared.updates.SetRead.{SetRead}
use Rattle.text.specs.updates.Sets.{set_faults, update_slots, order_slots}
use Rattle.text.specs.updates.Written.{after_items}
use Rattle.text.proofs.Laws.Written
use Rattle.output.specs.declared.lines.LineForm.TheVariants.{Unsatisfiable}
use Rattle.output.specs.Literals.{literal_of}
use Rattle.output.specs.Tokens.{tokens_of, literals_in}
use Rattle.output.specs.OutputCall.{output_report, output_accepted, output_left, is_bare}
use Rattle.output.specs.Named.{forms_in, is_negated, NamesOnce}
use Rattle.output.specs.Written.{are_bits, output_text}
use Rattle.output.proofs.Claims as OutputClaims
use Rattle.output.proofs.ReadBack as OutputReadBack
use Rattle.samples.specs.Models.{model_b}
use Rattle.claims.specs.Words.{clauses_in, read_back, words_true}
use Rattle.claims.specs.Calls.{Calls, calls_with, record_calls, Emitted, variables_told, clauses_told, words_left, ListSolvable, NamesVariable}
use Rattle.claims.specs.Calls.{EmittedWords, EmittedDemand2, EmittedDemand3, EmittedShortest}
use Rattle.claims.specs.Files.{Filed, bytes_left, FiledBytes}
use Rattle.claims.specs.Texts.{text_model, text_calls, IsRead, Never20, RowTexts}
use Rattle.claims.specs.Pairs.{IsPair, pair_model, pair_calls, PairNever20, WorkedPairs}
use Rattle.claims.specs.Outputs.{SaysSatisfiable, EmittedOutput}
use Rattle.claims.specs.Refuted.{Refuting, record_refutes, text_refutes, pair_refutes, RefutedList, RefutesNever20, NoRun}
use Rattle.claims.specs.Answers.{answers, LabelsAlone}
use Rattle.claims.specs.Cases.{all_rows_hold}
use Rattle.claims.specs.Refutations.{all_refutations_hold}
use Rattle.claims.proofs.Within
use Rattle.claims.proofs.Accepted
use Rattle.claims.proofs.CallProofs
use Rattle.claims.proofs.Copies
use Rattle.claims.proofs.SameAnswers
use Rattle.claims.proofs.Files
use Rattle.claims.proofs.Refuted
use Rattle.claims.proofs.Texts
use Rattle.claims.proofs.Pairs
use Rattle.claims.proofs.Outputs
use Rattle.claims.proofs.Rows
use Rattle.claims.proofs.PairRows
use Rattle.claims.proofs.Sample

-- ---- the words of the list
-- Split at 0, each word its literal, they are the list's clauses: the words decide the list.
pub read_back_lem : (m : Model) (k : ℕ) → read_back (words m k) ≡ clauses m k
read_back_lem = CallProofs.words_back

-- So bytes make them true exactly if they satisfy the list.
pub words_true_lem : (m : Model) (k : ℕ) (a : List ℕ) → words_true a (words m k) ≡ satisfied a (clauses m k)
words_true_lem = CallProofs.words_true_lem

-- Every word of a clause names a variable from 1 to N.
pub words_within : (m : Model) → T (well_formed m) → (k : ℕ) → All (λ c. All (NamesVariable (variables m k)) c) (clauses_in (words m k))
words_within = Within.words_within

-- ---- accepted emissions of the calls on a record; `room n` is the number of words that may be written into a buffer of n
-- A well-formed model, a bound up to 64 and room for the list's words give one: what follows is not empty.
pub emits : (room : ℕ → ℕ) (m : Model) → T (well_formed m) → (k : ℕ) → k ≤ 64 → (old : List ℤ) → length (words m k) ≤ room (length old)
    → Emitted (calls_with room m) k
emits = Accepted.emits

-- What a contract of emission promises of an answer with the number 0 is one, where x is the answer and new is what the buffer holds after the call.
pub from_call : (c : Calls) (k : ℕ) (old new : List ℤ) (x : EmitReport) → x ≡ c.emits k old → new ≡ c.emitted k old → x.number ≡ 0
    → (e : Emitted c k) × (variables_told e ≡ x.variables) × (clauses_told e ≡ x.clauses) × (words_left e ≡ take x.words new)
from_call = Accepted.from_call

-- The words left are whole clauses, as many as told, of the variables told.
pub emitted_words : (room : ℕ → ℕ) (m : Model) (k : ℕ) (e : Emitted (calls_with room m) k) → EmittedWords (calls_with room m) k e
emitted_words = CallProofs.words_are

-- For every accepted model and bound the emitted list can be satisfied exactly if the automaton has a run of k steps that ends in the target location.
-- Each satisfying assignment, from whichever solver, decodes to such a run; each such run has exactly one satisfying assignment, and we can write it.
-- (That the call from assignment to run accepts every satisfying assignment is decode's `decode_accepts`.)
pub emitted_demand_2 : (room : ℕ → ℕ) (m : Model) (k : ℕ) (e : Emitted (calls_with room m) k) → EmittedDemand2 (calls_with room m) k e
emitted_demand_2 = CallProofs.demand_2

-- For every accepted model and all bounds j and k with j at most k at most 64: the list emitted for k begins, word for word, with the list for j less its
-- last clause; every assignment that satisfies the list for j, from whichever solver, goes on, no value changed, to one that satisfies the list for k;
-- and every assignment that satisfies the list for k, cut after step j's state, satisfies the list for j exactly when its run stands in the target after
-- j steps. (That j and k are at most 64 is part of their emissions having been accepted.)
pub emitted_demand_3 : (room : ℕ → ℕ) (m : Model) (j k : ℕ) (d : Emitted (calls_with room m) j) (e : Emitted (calls_with room m) k) → j ≤ k
    → EmittedDemand3 (calls_with room m) j k d e
emitted_demand_3 = CallProofs.demand_3

-- So the smallest bound whose list can be satisfied, if there is one, is the length of a run, and every other run of the model has at least as many
-- steps; if there is none, every run has more than 64.
pub emitted_shortest : (room : ℕ → ℕ) (m : Model) (e : (k : ℕ) → k ≤ 64 → Emitted (calls_with room m) k) → EmittedShortest (calls_with room m) e
emitted_shortest = CallProofs.shortest

-- ---- what a refutation says
-- No bytes make words true that are refuted by the words behind them, as lemmas, and the hints.
pub refuted_false : (ws lemmas : List ℤ) (hints : List ℕ) → T (refutes (ws ++ lemmas) (length ws) hints) → (a : List ℕ) → T (words_true a ws) → ⊥
refuted_false = Refuted.refuted_false

-- What the contract of the call promises of an answer with the outcome 1 is a refuted list.
pub from_refute_call : (c : Refuting) (k : ℕ) (old : List ℤ) (hints : List ℕ) (x : RefuteReport) → x ≡ c k old hints → x.outcome ≡ 1 → RefutedList c k
from_refute_call = Refuted.from_call

-- A list that is refuted for k: the model has no run of k steps or fewer. One refutation, for k, serves every smaller bound; for 64, every run has more
-- than 64 steps.
pub refuted_no_run : (room : ℕ → ℕ) (m : Model) (k : ℕ) → RefutedList (record_refutes m) k → NoRun (calls_with room m) k
refuted_no_run = Refuted.no_run

-- ---- the DIMACS file
-- A well-formed model, a bound up to 64 and a buffer for the file's bytes give an accepted call: what follows is not empty.
pub files : (room : ℕ → ℕ) (m : Model) → T (well_formed m) → (k : ℕ) → k ≤ 64 → (old : List ℕ) → length (file m k) ≤ length old
    → Filed (calls_with room m) k
files = Files.files

-- What the contract of the call promises of an answer with the number 0 is one, where x is the answer and new is what the buffer holds after the call.
pub from_file_call : (c : Calls) (k : ℕ) (old new : List ℕ) (x : FileReport) → x ≡ c.files k old → new ≡ c.filed k old → x.number ≡ 0
    → (f : Filed c k) × (bytes_left f ≡ take x.bytes new)
from_file_call = Files.from_file_call

-- The bytes left, as many as told, read back to exactly the words that an accepted emission leaves; the numbers of the first line are the variables and
-- the clauses that it tells. So all that is claimed of the emitted words holds of the file's.
pub filed_bytes : (room : ℕ → ℕ) (m : Model) (k : ℕ) (f : Filed (calls_with room m) k) (e : Emitted (calls_with room m) k)
    → FiledBytes (calls_with room m) k f e
filed_bytes = Files.filed_bytes

-- ---- the calls for C on a text
-- On a text that is read they answer and leave what the calls on the record read answer and leave.
pub text_calls_lem : (t : List ℕ) → IsRead t → text_calls t ≡ record_calls (text_model t)
text_calls_lem = Texts.read_calls

pub text_refutes_lem : (t : List ℕ) → IsRead t → text_refutes t ≡ record_refutes (text_model t)
text_refutes_lem = Texts.read_refutes

-- A text that is read, a bound up to 64 and a buffer for the list's words give an accepted emission, and only a text that is read gives one.
pub text_emits : (t : List ℕ) → IsRead t → (k : ℕ) → k ≤ 64 → (old : List ℤ) → length (words (text_model t) k) ≤ length old → Emitted (text_calls t) k
text_emits = Texts.text_emits

pub text_read : (t : List ℕ) (k : ℕ) → Emitted (text_calls t) k → IsRead t
text_read = Texts.emitted_read

-- The same of the file.
pub text_files : (t : List ℕ) → IsRead t → (k : ℕ) → k ≤ 64 → (old : List ℕ) → length (file (text_model t) k) ≤ length old → Filed (text_calls t) k
text_files = Texts.text_files

pub text_file_read : (t : List ℕ) (k : ℕ) → Filed (text_calls t) k → IsRead t
text_file_read = Texts.filed_read

-- So all of this holds of every text.
pub text_filed : (t : List ℕ) (k : ℕ) (f : Filed (text_calls t) k) (e : Emitted (text_calls t) k) → FiledBytes (text_calls t) k f e
text_filed = Texts.text_filed

pub text_words : (t : List ℕ) (k : ℕ) (e : Emitted (text_calls t) k) → EmittedWords (text_calls t) k e
text_words = Texts.text_words

pub text_demand_2 : (t : List ℕ) (k : ℕ) (e : Emitted (text_calls t) k) → EmittedDemand2 (text_calls t) k e
text_demand_2 = Texts.text_2

pub text_demand_3 : (t : List ℕ) (j k : ℕ) (d : Emitted (text_calls t) j) (e : Emitted (text_calls t) k) → j ≤ k → EmittedDemand3 (text_calls t) j k d e
text_demand_3 = Texts.text_3

pub text_refuted_read : (t : List ℕ) (k : ℕ) → RefutedList (text_refutes t) k → IsRead t
text_refuted_read = Texts.refuted_read

pub text_no_run : (t : List ℕ) (k : ℕ) → RefutedList (text_refutes t) k → NoRun (text_calls t) k
text_no_run = Texts.text_no_run

pub text_shortest : (t : List ℕ) (e : (k : ℕ) → k ≤ 64 → Emitted (text_calls t) k) → EmittedShortest (text_calls t) e
text_shortest = Texts.text_shortest

-- ---- what a solver says
-- A text is accepted as satisfiable of n variables exactly if, but for comments, it is the line `s SATISFIABLE` and lines of literals of which the last is
-- 0 and the others name each variable from 1 to n once; as unsatisfiable exactly if it is the one line `s UNSATISFIABLE`.
pub output_satisfiable : (n : ℕ) (t : List ℕ) → SaysSatisfiable t n ↔ NamesOnce n t
output_satisfiable = OutputClaims.satisfiable_iff

pub output_unsatisfiable : (n : ℕ) (t : List ℕ) → (output_report t n ≡ output_accepted 20) ↔ (forms_in (tokens_of literal_of t) ≡ Some Unsatisfiable ∷ [])
output_unsatisfiable = OutputClaims.unsatisfiable_iff

-- Accepted, a variable's byte is 1 exactly if its literal is bare, and 0 exactly if it has a minus; else the buffer is what it was.
pub output_byte_one : (t old : List ℕ) → SaysSatisfiable t (length old) → (v : ℕ) → 1 ≤ v → v ≤ length old
    → (get_or (output_left t old) (v - 1) 0 ≡ 1) ↔ (is_bare v (literals_in (tokens_of literal_of t)) ≡ true)
output_byte_one = OutputClaims.byte_one

pub output_byte_zero : (t old : List ℕ) → SaysSatisfiable t (length old) → (v : ℕ) → 1 ≤ v → v ≤ length old
    → (get_or (output_left t old) (v - 1) 0 ≡ 0) ↔ (is_negated v (literals_in (tokens_of literal_of t)) ≡ true)
output_byte_zero = OutputClaims.byte_zero

pub output_untouched : (t old : List ℕ) → ((output_report t (length old)).outcome ≡ 10 → ⊥) → output_left t old ≡ old
output_untouched = OutputClaims.left_same

-- The text that writes an assignment is read back to it.
pub output_back : (a old : List ℕ) → are_bits a ≡ true → length old ≡ length a
    → SaysSatisfiable (output_text a) (length old) × (output_left (output_text a) old ≡ a)
output_back = OutputReadBack.reads_back

-- A solver's output that is accepted as satisfiable of the variables of an emitted list, and whose assignment the call from assignment to run accepts,
-- gives a run of the automaton into the target; that call accepts it exactly if it satisfies the list; and every such run is the run of such a text.
pub solver_output : (room : ℕ → ℕ) (m : Model) (k : ℕ) (e : Emitted (calls_with room m) k) → EmittedOutput (calls_with room m) k e
solver_output room m k e = Outputs.emitted_output (calls_with room m) k e (emitted_demand_2 room m k e)

pub text_output : (t : List ℕ) (k : ℕ) (e : Emitted (text_calls t) k) → EmittedOutput (text_calls t) k e
text_output t k e = Outputs.emitted_output (text_calls t) k e (text_demand_2 t k e)

-- ---- two models as one
-- Two records: 20 exactly if one is not well formed, then 38 exactly if the composed model has more locations, clocks, counters, edges or atoms than a record
-- may hold, each with the blank model; else the composed model.
pub composes_exactly : (a b : Model) → ComposesExactly a b
composes_exactly = ProductLimits.composes_exactly

-- The composed model is well formed, its initial location and its target are the pairs, and its ceiling is the greater one.
pub composed_formed : (a b : Model) → T (well_formed a) → T (well_formed b) → T (fits a b) → T (well_formed (composed a b))
composed_formed = ComposedForm.composed_formed

pub composed_initial : (a b : Model) → (composed a b).initial ≡ joined_location b.locations a.initial b.initial
composed_initial = ComposedForm.composed_initial

pub composed_target : (a b : Model) → (composed a b).target ≡ joined_location b.locations a.target b.target
composed_target = ComposedForm.composed_target

pub composed_ceiling : (a b : Model) → T (well_formed a) → T (well_formed b) → T (fits a b) → ceiling (composed a b) ≡ max (ceiling a) (ceiling b)
composed_ceiling = ComposedCeiling.composed_ceiling

-- Every joint state that meets its invariant has two parts and no others: states of the two models that meet theirs, with clocks cut to the model's own
-- ceiling. The parts of the initial state are the initial states.
pub joint_parts : (a b : Model) → T (well_formed a) → T (well_formed b) → T (fits a b) → (s : State) → JointState a b s → HasParts a b s
joint_parts = Product.has_parts

pub initial_parts : (a b : Model) → T (well_formed a) → T (well_formed b) → T (fits a b)
    → Parts a b (initial_state (composed a b)) (initial_state a) (initial_state b)
initial_parts = Product.initial_are_parts

-- The law of steps: from it a delay is allowed exactly if both parts allow it cut to their ceilings, a pair exactly if both do, a lone edge exactly if its
-- owner does while the other stands still; and the new joint state's parts are the parts' new states.
pub steps_as_parts : (a b : Model) → T (well_formed a) → T (well_formed b) → T (fits a b) → (s x y : State) → JointState a b s → Parts a b s x y
    → StepsAsParts a b s x y
steps_as_parts = Product.steps_are_parts

-- Walks, and runs: cut to a part, each is a walk, or a run, of that part, in which the other's lone edges are left out.
pub walks_as_parts : (a b : Model) → T (well_formed a) → T (well_formed b) → T (fits a b) → (r : List ℕ) (s x y t : State) → JointState a b s
    → Parts a b s x y → walk (composed a b) s r ≡ Some t → WalksAsParts a b r x y t
walks_as_parts = Product.walks_are_parts

pub runs_as_parts : (a b : Model) → T (well_formed a) → T (well_formed b) → T (fits a b) → (r : List ℕ) → RunsAsParts a b r
runs_as_parts = Product.runs_are_parts

-- The calls for C on two texts. Where both are read and compose a model, they answer and leave what the calls on that model answer and leave, and it is well
-- formed. So all that is said of a text holds of two.
pub pair_formed : (t u : List ℕ) → IsPair t u → T (well_formed (pair_model t u))
pair_formed = Pairs.pair_formed

pub pair_calls_lem : (t u : List ℕ) → IsPair t u → pair_calls t u ≡ record_calls (pair_model t u)
pair_calls_lem = Pairs.pair_calls_lem

pub pair_refutes_lem : (t u : List ℕ) → IsPair t u → pair_refutes t u ≡ record_refutes (pair_model t u)
pair_refutes_lem = Pairs.pair_refutes_lem

pub pair_emits : (t u : List ℕ) → IsPair t u → (k : ℕ) → k ≤ 64 → (old : List ℤ) → length (words (pair_model t u) k) ≤ length old → Emitted (pair_calls t u) k
pair_emits = Pairs.pair_emits

pub pair_read : (t u : List ℕ) (k : ℕ) → Emitted (pair_calls t u) k → IsPair t u
pair_read = Pairs.emitted_pair

pub pair_files : (t u : List ℕ) → IsPair t u → (k : ℕ) → k ≤ 64 → (old : List ℕ) → length (file (pair_model t u) k) ≤ length old → Filed (pair_calls t u) k
pair_files = Pairs.pair_files

pub pair_file_read : (t u : List ℕ) (k : ℕ) → Filed (pair_calls t u) k → IsPair t u
pair_file_read = Pairs.filed_pair

pub pair_filed : (t u : List ℕ) (k : ℕ) (f : Filed (pair_calls t u) k) (e : Emitted (pair_calls t u) k) → FiledBytes (pair_calls t u) k f e
pair_filed = Pairs.pair_filed

pub pair_words : (t u : List ℕ) (k : ℕ) (e : Emitted (pair_calls t u) k) → EmittedWords (pair_calls t u) k e
pair_words = Pairs.pair_words

pub pair_demand_2 : (t u : List ℕ) (k : ℕ) (e : Emitted (pair_calls t u) k) → EmittedDemand2 (pair_calls t u) k e
pair_demand_2 = Pairs.pair_2

pub pair_demand_3 :
    (t u : List ℕ) (j k : ℕ) (d : Emitted (pair_calls t u) j) (e : Emitted (pair_calls t u) k) → j ≤ k → EmittedDemand3 (pair_calls t u) j k d e
pair_demand_3 = Pairs.pair_3

pub pair_refuted_read : (t u : List ℕ) (k : ℕ) → RefutedList (pair_refutes t u) k → IsPair t u
pair_refuted_read = Pairs.refuted_pair

pub pair_no_run : (t u : List ℕ) (k : ℕ) → RefutedList (pair_refutes t u) k → NoRun (pair_calls t u) k
pair_no_run = Pairs.pair_no_run

pub pair_shortest : (t u : List ℕ) (e : (k : ℕ) → k ≤ 64 → Emitted (pair_calls t u) k) → EmittedShortest (pair_calls t u) e
pair_shortest = Pairs.pair_shortest

pub pair_output : (t u : List ℕ) (k : ℕ) (e : Emitted (pair_calls t u) k) → EmittedOutput (pair_calls t u) k e
pair_output t u k e = Outputs.emitted_output (pair_calls t u) k e (pair_demand_2 t u k e)

-- ---- the number 20
-- No call for C answers 20, on one text or on two.
pub never_20 : Never20
never_20 = Texts.never_20

pub pair_never_20 : PairNever20
pair_never_20 = Pairs.never_20

pub refutes_never_20 : RefutesNever20
refutes_never_20 = Pairs.refutes_never_20

-- ---- updates in their written order
-- The counters after the updates of an edge are the fold over the items of its set line, as they are written: each reads what those before it left, and
-- the first that leaves its range refuses the edge.
pub written_order : (vars : ℕ) (items : List (Option SetRead)) → vars ≤ 4 → fault_number (set_faults vars items) ≡ 0
    → (x : Edge) → x.updates ≡ update_slots items → x.order ≡ order_slots items
    → (counters : List Counter) (vs : List ℕ) → updated counters x vs (listed x) ≡ after_items counters vs items
written_order = Written.updated_items

-- An edge in which no update reads a counter that is set earlier steps as if all updates read the values from before the edge, and is listed so.
pub no_earlier_steps : (m : Model) → WellFormed m → (e : Edge) → WellFormedEdge m e → (s t : State) → Shaped m s → NoneEarlier m e
    → (edge_step m e s ≡ Some t) ↔ EdgeBy (λ i w. value s (counter w)) m e s t
no_earlier_steps = StepLaws.no_earlier_steps

pub no_earlier_lists : (width : ℕ → ℕ) (m : Model) (o c : ℕ) (e : Edge) → NoneEarlier m e
    → edge_items width m o c e
    ≡ source_items width m o c e ++ target_items width m o c e ++ guard_items width m o c e
    ++ each m.vars (λ i. items_from_before width m o c i (update_at e i))
    ++ resets_items width m o c e
no_earlier_lists = SourcesBefore.no_earlier_lists

-- ---- copies of clocks
-- A clock that an edge makes a copy shows after the edge what its source showed before it, whatever the edge does to the source; also where it resets the
-- source, which then shows 0.
pub copies_read_before : (m : Model) (e : Edge) (s t : State) → edge_step m e s ≡ Some t → (i w : ℕ) → i < 4 → reset_at e i ≡ Copy w
    → value t (clock i) ≡ value s (clock w)
copies_read_before = Copies.copies_read_before

pub copy_beside_reset : (m : Model) (e : Edge) (s t : State) → edge_step m e s ≡ Some t → (i w : ℕ) → i < 4 → w < 4 → reset_at e i ≡ Copy w
    → reset_at e w ≡ Reset → (value t (clock i) ≡ value s (clock w)) × (value t (clock w) ≡ 0)
copy_beside_reset = Copies.copy_beside_reset

-- A well-formed record in which clocks are copied to themselves is another one than that in which they are left unchanged; both have the same steps and
-- the same list.
pub self_copies : (m : Model) → T (well_formed m) → SelfCopies m
self_copies = SelfCopyLaws.self_copies

-- So every call that takes a record answers both alike.
pub self_copies_answered : (m : Model) → T (well_formed m) → answers (self_model m) ≡ answers m
self_copies_answered = SameAnswers.self_copies

-- ---- labels change no answer
-- The record without labels is well formed, and another one than a record with labels: if they are the same, every label is 0.
pub unlabelled_formed : (m : Model) → T (well_formed m) → T (well_formed (unlabelled m))
unlabelled_formed = LabelLaws.unlabelled_formed

pub unlabelled_differs : (m : Model) (e : ℕ) → e < 32 → unlabelled m ≡ m → (edge_at m e).label ≡ 0
unlabelled_differs = LabelLaws.unlabelled_differs

-- A well-formed record and the record without labels have the same runs and the same list, and from every call that takes a record the same answers, refusals
-- and buffers.
pub unlabelled_answered : (m : Model) → T (well_formed m) → answers (unlabelled m) ≡ answers m
unlabelled_answered = SameAnswers.unlabelled_same

-- And so have any two well-formed records that differ in labels alone.
pub labels_alone : (m n : Model) → T (well_formed m) → T (well_formed n) → LabelsAlone m n → answers m ≡ answers n
labels_alone = SameAnswers.labels_alone

-- The refuting call answers the same, too: of self-copies, and where labels alone differ.
pub self_copies_refutes : (m : Model) → T (well_formed m) → (k : ℕ) (old : List ℤ) (hints : List ℕ)
    → refute_report (self_model m) k old hints ≡ refute_report m k old hints
self_copies_refutes = SameAnswers.self_copies_refutes

pub unlabelled_refutes : (m : Model) → T (well_formed m) → (k : ℕ) (old : List ℤ) (hints : List ℕ)
    → refute_report (unlabelled m) k old hints ≡ refute_report m k old hints
unlabelled_refutes = SameAnswers.unlabelled_refutes

pub labels_alone_refutes : (m n : Model) → T (well_formed m) → T (well_formed n) → LabelsAlone m n → (k : ℕ) (old : List ℤ) (hints : List ℕ)
    → refute_report m k old hints ≡ refute_report n k old hints
labels_alone_refutes = SameAnswers.labels_alone_refutes

pub text_labels_alone_refutes : (t u : List ℕ) → IsRead t → IsRead u → LabelsAlone (text_model t) (text_model u) → (k : ℕ) (old : List ℤ) (hints : List ℕ)
    → refute_report (text_model t) k old hints ≡ refute_report (text_model u) k old hints
text_labels_alone_refutes = SameAnswers.text_labels_alone_refutes

-- So do the records of any two texts that are read, if they differ in labels alone. (That emission, file, walker and conversions for C are those on the
-- record read is `text_calls_lem`.)
pub text_labels_alone : (t u : List ℕ) → IsRead t → IsRead u → LabelsAlone (text_model t) (text_model u) → answers (text_model t) ≡ answers (text_model u)
text_labels_alone = SameAnswers.text_labels_alone

-- ---- sixteen bits are enough for a number
-- For every well-formed record, step up to 64 and declared member: the number is that of the list's variable, at most 21,776, and no value on the way to
-- it leaves 16 bits; the members in document 01's order have the numbers 1 to N.
pub sixteen_bits_lem : (m : Model) → T (well_formed m) → SixteenBits m
sixteen_bits_lem = SixteenLaws.sixteen_bits_lem

-- ---- the rows
-- P1 to P10, the lists of the small models, what pairs compose, and numbers of members: every row holds.
pub all_rows : T all_rows_hold
all_rows = Rows.all_rows

-- Refutations of model A's list, and lemmas and hints that are none: the call tells them apart.
pub all_refutations : T all_refutations_hold
all_refutations = Rows.all_refutations

-- The small models are what their texts say.
pub row_texts : RowTexts
row_texts = Texts.row_texts

-- The worked pairs: a logger and a watchdog, and A with itself under three labellings.
pub worked_pairs : WorkedPairs
worked_pairs = PairRows.worked_pairs

-- The theorems are not empty: logger model B is well formed, its list for 3 steps is emitted, and by demand 2 the emitted words can be satisfied.
pub B_formed : T (well_formed model_b)
B_formed = Sample.B_formed

pub B_solvable : (e : Emitted (record_calls model_b) 3) × ListSolvable e
B_solvable = (Sample.B_emitted, Sample.B_solvable)
