-- Assignments: N bytes of 0 or 1, the first for variable 1. Which clauses one makes true, the run of an assignment, the assignment of a run.
use Rattle.std.specs.Prelude.{Bool, not, cond, ℕ, zero, suc, ◌+◌, ◌<◌, eqb, ltb, length, get_or, take}
use mathlib.Core.List.{List, [], ◌∷◌, ◌++◌, IsPrefix}
use Rattle.std.specs.Prelude.{Option}
use Rattle.model.specs.declared.Model.{Model}
use Rattle.model.specs.declared.State.{State}
use Rattle.model.specs.Indexed.{list_below, only_if, maybe}
use Rattle.model.specs.Automaton.{choices, value, group_size, initial_state, step, variables}
use Rattle.model.specs.Run.{is_run}
use Rattle.list.specs.Lists.{All, all_of, any_of}
use Rattle.list.specs.Items.{over_components, state_width, block_at}
use Rattle.list.specs.Clauses.{Literal, bare, negated, Clause, one_hot_width}

-- An assignment's bytes: each is 0 or 1.
abbrev pub Binary : List ℕ → Type 0
Binary a = All (λ x. x < 2) a

-- ---- truth
-- A variable is true if its byte is 1.
abbrev pub bit : List ℕ → ℕ → Bool
bit a i = eqb (get_or a i 0) 1

-- A negated literal is true if its variable is not.
abbrev pub literal_true : List ℕ → Literal → Bool
literal_true a (bare i) = bit a i
literal_true a (negated i) = not (bit a i)

-- A clause is true if it has a true literal.
abbrev pub clause_true : List ℕ → Clause → Bool
clause_true a c = any_of (literal_true a) c

-- An assignment satisfies a list if every clause has a true literal.
unfoldable pub satisfied : List ℕ → List Clause → Bool
satisfied a cs = all_of (clause_true a) cs

-- How many clauses come before the first false one; all of them where none is false.
unfoldable pub true_before : List ℕ → List Clause → ℕ
true_before a [] = 0
true_before a (c ∷ cs) = cond (clause_true a c) (true_before a cs + 1) 0

-- The index, from 0, of the first false clause (refusal 26).
unfoldable pub first_false : List ℕ → List Clause → Option ℕ
first_false a cs = only_if (ltb (true_before a cs) (length cs)) (true_before a cs)

-- ---- the run of an assignment
-- The place, from 0, of the true member of the group of n members at b.
unfoldable pub place_of_true : List ℕ → ℕ → ℕ → ℕ
place_of_true a b zero = 0
place_of_true a b (suc n) = cond (bit a b) 0 (place_of_true a (b + 1) n + 1)

-- The run of an assignment has as its byte for step t + 1 the place of the true member in the choice block that follows the block of state t.
unfoldable pub run_of : Model → ℕ → List ℕ → List ℕ
run_of m k a = list_below (λ t. place_of_true a (block_at one_hot_width m t + state_width one_hot_width m) (choices m)) k

-- ---- the assignment of a run, where `bytes n d` are the bytes of a group of n members in which member d is true
module _ (bytes : ℕ → ℕ → List ℕ) (m : Model) where
  -- A state block: the bytes of the location, each counter, each clock.
  unfoldable pub state_bytes : State → List ℕ
  state_bytes s = over_components m (λ x. bytes (group_size m x) (value s x))

  -- For each step from a state on: its choice block, and the block of the state that it leads to.
  unfoldable pub steps_bytes : State → List ℕ → List ℕ
  steps_bytes s [] = []
  steps_bytes s (b ∷ r) = maybe (step m s b) [] (λ t. bytes (choices m) b ++ (state_bytes t ++ steps_bytes t r))

-- The first layout: a byte for each member, 1 for member d alone.
abbrev pub one_hot : ℕ → ℕ → List ℕ
one_hot n d = list_below (λ v. cond (eqb v d) 1 0) n

-- The assignment of a run: the block of the initial state, then each step's blocks.
unfoldable pub assignment_of : Model → List ℕ → List ℕ
assignment_of m r = state_bytes one_hot m (initial_state m) ++ steps_bytes one_hot m (initial_state m) r

-- ---- longer bounds
-- Cut after step j's state, an assignment is its first N bytes, N counted for j.
abbrev pub cut_after : Model → ℕ → List ℕ → List ℕ
cut_after m j a = take (variables m j) a

-- An assignment goes on to any assignment that begins with it.
abbrev pub GoesOn : List ℕ → List ℕ → Type 0
GoesOn a b = IsPrefix a b

-- A run stands in the target after j steps if its first j bytes, walked from the initial state, end there.
abbrev pub stands_in_target : Model → ℕ → List ℕ → Bool
stands_in_target m j r = is_run m (take j r)
