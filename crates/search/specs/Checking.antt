-- Checking a piece of the list with a count of the clauses.
use Rattle.std.specs.Prelude.{◌≡◌, Bool, cond, List, ℕ, ◌+◌, ◌≤◌, ltb, length, Result, Ok, Err}
use Rattle.list.specs.Clauses.{Clause}
use Rattle.list.specs.Assignments.{true_before}

-- A piece is checked with a count that stands at i: the count past its last clause if all are true, else the count at the first that is not.
unfoldable pub check_from : List ℕ → List Clause → ℕ → Result ℕ ℕ
check_from a cs i = cond (ltb (true_before a cs) (length cs)) (Err (i + true_before a cs)) (Ok (i + true_before a cs))

-- The count where a check stopped.
abbrev pub stopped_at : Result ℕ ℕ → ℕ
stopped_at (Ok j) = j
stopped_at (Err j) = j

-- r is that answer, and the count rose by n at most.
pub record Checked (a : List ℕ) (cs : List Clause) (i n : ℕ) (r : Result ℕ ℕ) : Type 0 where
  pub is : r ≡ check_from a cs i
  pub most : stopped_at r ≤ i + n

-- The answer of a check of one clause, true or not.
abbrev pub counted : Bool → ℕ → Result ℕ ℕ
counted ok i = cond ok (Ok (i + 1)) (Err i)
