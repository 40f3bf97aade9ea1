-- What demands 2 and 3 say of the calls, in the user's words: of the words that emission leaves in the lent buffer, of any solver's assignment to
-- those words, and of what the two conversions and the walker answer and leave. proofs/Claims.antt proves it for every accepted emission. What the DIMACS
-- file says beside such an emission stands in specs/Files.antt.
use Rattle.std.specs.Prelude.{◌≡◌, ◌↔◌, ℕ, ◌≤◌, ◌<◌, min, T, ℤ, nat_abs, length, take}
use mathlib.Core.List.{List, IsPrefix}
use Rattle.model.specs.declared.Model.{Model}
use Rattle.model.specs.Refusal.{Refusal}
use Rattle.model.specs.Run.{is_run}
use Rattle.list.specs.Lists.{All}
use Rattle.list.specs.Clauses.{clauses}
use Rattle.walk.specs.Walker.{walk_report}
use Rattle.encode.specs.EncodeCall.{encode_report, encode_left}
use Rattle.decode.specs.DecodeCall.{decode_report, decode_left}
use Rattle.emission.specs.EmitCall.{EmitReport, emit_report, emit_left}
use Rattle.dimacs.specs.DimacsCall.{FileReport, file_report, file_left}
use Rattle.claims.specs.Words.{clauses_in, joined, read_back, less_last_clause, Solves, Solvable}

-- ---- the calls
-- What five calls answer and what they leave in the buffers lent to them: the right-hand sides of their contracts, for one model. The demands are said
-- of this, so that they stand once for the calls on a record and for the calls for C on a text (specs/Texts.antt).
pub record Calls : Type 0 where
  -- the model that the calls work on
  pub model : Model
  -- emission for a bound into a buffer that holds `out`: the answer, and the buffer after it
  pub emits : ℕ → List ℤ → EmitReport
  pub emitted : ℕ → List ℤ → List ℤ
  -- the DIMACS file for a bound into a buffer of bytes: the answer, and the buffer after it
  pub files : ℕ → List ℕ → FileReport
  pub filed : ℕ → List ℕ → List ℕ
  -- the walker on a run: the answer
  pub walks : List ℕ → Refusal
  -- from an assignment for a bound to its run, into a run buffer: the answer, and the buffer after it
  pub decodes : ℕ → List ℕ → List ℕ → Refusal
  pub decoded : ℕ → List ℕ → List ℕ → List ℕ
  -- from a run to its assignment, into a buffer: the answer, and the buffer after it
  pub encodes : List ℕ → List ℕ → Refusal
  pub encoded : List ℕ → List ℕ → List ℕ

-- The calls on a record, where emission may write `room n` words of a buffer of n.
abbrev pub calls_with : (ℕ → ℕ) → Model → Calls
calls_with room m = record {
  model = m;
  emits = λ k out. emit_report m k (room (length out));
  emitted = λ k out. emit_left m k (room (length out)) out;
  files = λ k out. file_report m k (length out);
  filed = λ k out. file_left m k out;
  walks = λ r. walk_report m r;
  decodes = λ k a run. decode_report m k a (length run);
  decoded = λ k a run. decode_left m k a run;
  encodes = λ r out. encode_report m r (length out);
  encoded = λ r out. encode_left m r out;
}

-- `emit` may write the whole buffer, `emit_within` at most `limit` words of it. The others: `write_file`, `walk`, `assignment_to_run`,
-- `run_to_assignment`.
abbrev pub record_calls : Model → Calls
record_calls m = calls_with (λ n. n) m

abbrev pub limited_calls : ℕ → Model → Calls
limited_calls limit m = calls_with (min limit) m

-- A call accepts if its number is 0.
abbrev pub Accepts : Refusal → Type 0
Accepts x = x.number ≡ 0

-- ---- an accepted emission
-- An accepted emission for the bound k, into a buffer that held `old`.
pub record Emitted (c : Calls) (k : ℕ) : Type 0 where
  pub old : List ℤ
  pub accepts : (c.emits k old).number ≡ 0

-- The numbers of variables and of clauses that it tells, and the words that it leaves: as many as it tells, from the start of the buffer.
module _ {c : Calls} {k : ℕ} where
  abbrev pub variables_told : Emitted c k → ℕ
  variables_told e = (c.emits k e.old).variables

  abbrev pub clauses_told : Emitted c k → ℕ
  clauses_told e = (c.emits k e.old).clauses

  abbrev pub words_left : Emitted c k → List ℤ
  words_left e = take (c.emits k e.old).words (c.emitted k e.old)

  -- a satisfying assignment of the emitted words, from whichever solver
  abbrev pub SolvesList : Emitted c k → List ℕ → Type 0
  SolvesList e a = Solves (variables_told e) (words_left e) a

  -- the emitted words can be satisfied
  abbrev pub ListSolvable : Emitted c k → Type 0
  ListSolvable e = Solvable (variables_told e) (words_left e)

-- ---- runs and assignments
-- A run of k steps that the walker accepts.
pub record WalkedRun (c : Calls) (k : ℕ) (r : List ℕ) : Type 0 where
  pub long : length r ≡ k
  pub walked : Accepts (c.walks r)

-- The k bytes that the call from assignment to run leaves in a buffer that held `run`.
abbrev pub run_left : Calls → ℕ → List ℕ → List ℕ → List ℕ
run_left c k a run = take k (c.decoded k a run)

-- The n bytes that the call from run to assignment leaves in a buffer that held `out`.
abbrev pub assignment_left : Calls → ℕ → List ℕ → List ℕ → List ℕ
assignment_left c n r out = take n (c.encoded r out)

-- ---- the words
-- A word that is no 0 names a variable from 1 to n.
abbrev pub NamesVariable : ℕ → ℤ → Type 0
NamesVariable n w = (1 ≤ nat_abs w) × (nat_abs w ≤ n)

-- What the words of an accepted emission are.
pub record EmittedWords (c : Calls) (k : ℕ) (e : Emitted c k) : Type 0 where
  -- read back, they are the list's clauses
  pub clauses_are : read_back (words_left e) ≡ clauses c.model k
  -- every clause is closed by a 0
  pub closed : joined (clauses_in (words_left e)) ≡ words_left e
  -- there are as many clauses as told
  pub counted : length (clauses_in (words_left e)) ≡ clauses_told e
  -- every word of a clause names a variable from 1 to the number told
  pub within : All (λ words. All (NamesVariable (variables_told e)) words) (clauses_in (words_left e))

-- ---- demand 2 for an accepted emission
pub record EmittedDemand2 (c : Calls) (k : ℕ) (e : Emitted c k) : Type 0 where
  -- the call from assignment to run accepts exactly the satisfying assignments, whatever a long enough run buffer holds
  pub accepts : (a run : List ℕ) → k ≤ length run → SolvesList e a ↔ Accepts (c.decodes k a run)
  -- the walker accepts exactly the runs of document 01's automaton
  pub walks : (r : List ℕ) → length r ≡ k → Accepts (c.walks r) ↔ T (is_run c.model r)
  -- the emitted list can be satisfied exactly if the automaton has a run of k steps that ends in the target
  pub exactly : ListSolvable e ↔ ((r : List ℕ) × WalkedRun c k r)
  -- of the two calls: some assignment is accepted exactly if the walker accepts some run of k bytes
  pub accepts_some : (run : List ℕ) → k ≤ length run → ((a : List ℕ) × Accepts (c.decodes k a run)) ↔ ((r : List ℕ) × WalkedRun c k r)
  -- each satisfying assignment decodes to such a run
  pub decodes : (a run : List ℕ) → SolvesList e a → k ≤ length run → WalkedRun c k (run_left c k a run)
  -- each such run has a satisfying assignment, which we can write, and whose run it is
  pub writes : (r out run : List ℕ) → WalkedRun c k r → variables_told e ≤ length out → k ≤ length run
      → Accepts (c.encodes r out)
      × SolvesList e (assignment_left c (variables_told e) r out)
      × (run_left c k (assignment_left c (variables_told e) r out) run ≡ r)
  -- and any satisfying assignment with that run is that one, byte for byte
  pub only : (a r out run : List ℕ) → SolvesList e a → variables_told e ≤ length out → k ≤ length run → run_left c k a run ≡ r
      → a ≡ assignment_left c (variables_told e) r out
  -- of the calls: each accepted assignment's run is accepted by the walker, and encodes to that assignment
  pub accepted_decodes : (a run out : List ℕ) → Accepts (c.decodes k a run) → k ≤ length run → variables_told e ≤ length out
      → WalkedRun c k (run_left c k a run)
      × Accepts (c.encodes (run_left c k a run) out)
      × (assignment_left c (variables_told e) (run_left c k a run) out ≡ a)
  -- of the calls: each accepted run's assignment is accepted, and decodes to that run
  pub accepted_writes : (r out run : List ℕ) → WalkedRun c k r → variables_told e ≤ length out → k ≤ length run
      → Accepts (c.encodes r out)
      × Accepts (c.decodes k (assignment_left c (variables_told e) r out) run)
      × (run_left c k (assignment_left c (variables_told e) r out) run ≡ r)

-- ---- demand 3 for accepted emissions for j and k
pub record EmittedDemand3 (c : Calls) (j k : ℕ) (d : Emitted c j) (e : Emitted c k) : Type 0 where
  -- the list emitted for k begins, word for word, with the list for j less its last clause
  pub begins : IsPrefix (less_last_clause (words_left d)) (words_left e)
  -- every assignment that satisfies the list for j goes on, no value changed, to one that satisfies the list for k
  pub goes_on : (a : List ℕ) → SolvesList d a → (b : List ℕ) × SolvesList e b × (take (variables_told d) b ≡ a)
  -- every assignment that satisfies the list for k, cut after step j's state, satisfies the list for j exactly when its run stands in the target after
  -- j steps: when the walker accepts the first j bytes of it
  pub cut : (a run : List ℕ) → SolvesList e a → k ≤ length run
      → SolvesList d (take (variables_told d) a) ↔ Accepts (c.walks (take j (run_left c k a run)))
  -- of the calls: an assignment that is accepted for j is the first N(j) bytes of one that is accepted for k
  pub accepted_goes_on : (a short run : List ℕ) → Accepts (c.decodes j a short) → j ≤ length short → k ≤ length run
      → (b : List ℕ) × Accepts (c.decodes k b run) × (take (variables_told d) b ≡ a)
  -- of the calls: one that is accepted for k, cut, is accepted for j exactly if the walker accepts the first j bytes of its run
  pub accepted_cut : (a short run : List ℕ) → Accepts (c.decodes k a run) → j ≤ length short → k ≤ length run
      → Accepts (c.decodes j (take (variables_told d) a) short) ↔ Accepts (c.walks (take j (run_left c k a run)))

-- ---- the shortest run, where a list was emitted for every bound
pub record EmittedShortest (c : Calls) (e : (k : ℕ) → k ≤ 64 → Emitted c k) : Type 0 where
  -- the smallest bound whose list can be satisfied is the length of a run that the walker accepts, and every other run has at least as many steps
  pub smallest : (k : ℕ) (h : k ≤ 64) → ListSolvable (e k h) → ((j : ℕ) (l : j ≤ 64) → j < k → ListSolvable (e j l) → ⊥)
      → ((r : List ℕ) × WalkedRun c k r)
      × ((r : List ℕ) → T (is_run c.model r) → k ≤ length r)
      × ((r : List ℕ) → Accepts (c.walks r) → k ≤ length r)
  -- if there is none up to 64, every run has more than 64 steps, and the walker accepts none
  pub none_up_to_64 : ((k : ℕ) (h : k ≤ 64) → ListSolvable (e k h) → ⊥)
      → ((r : List ℕ) → T (is_run c.model r) → 64 < length r) × ((r : List ℕ) → Accepts (c.walks r) → ⊥)
