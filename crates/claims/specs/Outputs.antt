-- What a solver's output says of an emitted list: it is read into a buffer with a byte for each variable told, and what is left there is the assignment.
use Rattle.std.specs.Prelude.{◌≡◌, ◌↔◌, List, ℕ, ◌≤◌, T, length}
use Rattle.model.specs.Run.{is_run}
use Rattle.output.specs.OutputCall.{output_report, output_accepted, output_left}
use Rattle.output.specs.Written.{output_text}
use Rattle.claims.specs.Calls.{Calls, Accepts, Emitted, variables_told, SolvesList, WalkedRun, run_left, assignment_left}

-- The text says satisfiable of n variables.
abbrev pub SaysSatisfiable : List ℕ → ℕ → Type 0
SaysSatisfiable t n = output_report t n ≡ output_accepted 10

pub record EmittedOutput (c : Calls) (k : ℕ) (e : Emitted c k) : Type 0 where
  -- an accepted text whose assignment the call from assignment to run accepts gives a run of the automaton into the target, which the walker accepts
  pub gives_run : (t old run : List ℕ) → length old ≡ variables_told e → SaysSatisfiable t (length old) → k ≤ length run
      → Accepts (c.decodes k (output_left t old) run)
      → WalkedRun c k (run_left c k (output_left t old) run) × T (is_run c.model (run_left c k (output_left t old) run))
  -- and it accepts exactly if the assignment that the text names satisfies the emitted list
  pub accepts : (t old run : List ℕ) → length old ≡ variables_told e → SaysSatisfiable t (length old) → k ≤ length run
      → SolvesList e (output_left t old) ↔ Accepts (c.decodes k (output_left t old) run)
  -- every run into the target is the run of such a text: the one that writes its assignment
  pub every_run : (r out old run : List ℕ) → WalkedRun c k r → variables_told e ≤ length out → length old ≡ variables_told e → k ≤ length run
      → SaysSatisfiable (output_text (assignment_left c (variables_told e) r out)) (length old)
      × Accepts (c.decodes k (output_left (output_text (assignment_left c (variables_told e) r out)) old) run)
      × (run_left c k (output_left (output_text (assignment_left c (variables_told e) r out)) old) run ≡ r)
