-- What demands 2 and 3 say of a model, in the user's words. proofs/Claims.antt proves them for every well-formed record.
use Rattle.std.specs.Prelude.{◌≡◌, ◌↔◌, ℕ, ◌≤◌, ◌<◌, T, length}
use mathlib.Core.List.{List, drop_last, IsPrefix}
use Rattle.model.specs.declared.Model.{Model}
use Rattle.model.specs.Automaton.{variables}
use Rattle.model.specs.Run.{is_run}
use Rattle.list.specs.Clauses.{clauses, words, words_of}
use Rattle.list.specs.Assignments.{Binary, satisfied, run_of, assignment_of, cut_after, GoesOn, stands_in_target}

-- A satisfying assignment for k: N bytes, each 0 or 1, that satisfy the list for k.
pub record Satisfies (m : Model) (k : ℕ) (a : List ℕ) : Type 0 where
  pub long : length a ≡ variables m k
  pub binary : Binary a
  pub satisfies : T (satisfied a (clauses m k))

-- A run of k steps: k bytes that, walked from the initial state, end in the target.
pub record RunOfSteps (m : Model) (k : ℕ) (r : List ℕ) : Type 0 where
  pub long : length r ≡ k
  pub ends : T (is_run m r)

-- The list for k can be satisfied.
abbrev pub Satisfiable : Model → ℕ → Type 0
Satisfiable m k = (a : List ℕ) × Satisfies m k a

-- The automaton has a run of k steps that ends in the target.
abbrev pub HasRun : Model → ℕ → Type 0
HasRun m k = (r : List ℕ) × RunOfSteps m k r

-- Demand 2 for the bound k.
pub record Demand2 (m : Model) (k : ℕ) : Type 0 where
  -- the list can be satisfied exactly if the automaton has a run of k steps that ends in the target
  pub exactly : Satisfiable m k ↔ HasRun m k
  -- each satisfying assignment decodes to such a run
  pub decodes : (a : List ℕ) → Satisfies m k a → RunOfSteps m k (run_of m k a)
  -- each such run has a satisfying assignment, which we can write, and whose run it is
  pub writes : (r : List ℕ) → RunOfSteps m k r → Satisfies m k (assignment_of m r) × (run_of m k (assignment_of m r) ≡ r)
  -- and any satisfying assignment with that run is that one, byte for byte
  pub only : (a r : List ℕ) → Satisfies m k a → run_of m k a ≡ r → a ≡ assignment_of m r

-- Demand 3 for the bounds j and k.
pub record Demand3 (m : Model) (j k : ℕ) : Type 0 where
  -- the list for k begins, word for word, with the list for j less its last clause
  pub begins : IsPrefix (words_of (drop_last (clauses m j))) (words m k)
  -- every assignment that satisfies the list for j goes on, no value changed, to one that satisfies the list for k
  pub goes_on : (a : List ℕ) → Satisfies m j a → (b : List ℕ) × Satisfies m k b × GoesOn a b
  -- every assignment that satisfies the list for k, cut after step j's state, satisfies the list for j exactly when its run stands in the target after j steps
  pub cut : (a : List ℕ) → Satisfies m k a → Satisfies m j (cut_after m j a) ↔ T (stands_in_target m j (run_of m k a))

-- The shortest run.
pub record Shortest (m : Model) : Type 0 where
  -- the smallest bound whose list can be satisfied is the length of a run, and every other run has at least as many steps
  pub smallest : (k : ℕ) → Satisfiable m k → ((j : ℕ) → j < k → Satisfiable m j → ⊥) → HasRun m k × ((r : List ℕ) → T (is_run m r) → k ≤ length r)
  -- if there is none up to 64, every run has more than 64 steps
  pub none_up_to_64 : ((k : ℕ) → k ≤ 64 → Satisfiable m k → ⊥) → (r : List ℕ) → T (is_run m r) → 64 < length r
