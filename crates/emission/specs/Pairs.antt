-- Parts of a group's clauses.
use Rattle.std.specs.Prelude.{List, [], ◌∷◌, ℕ, ◌+◌, ◌-◌}
use Rattle.model.specs.Indexed.{each}
use Rattle.list.specs.Clauses.{Clause, negated, one}

-- Members i and i + 1 + j, both negated.
abbrev pub pair : ℕ → ℕ → ℕ → List Clause
pair b i j = one (negated (b + i) ∷ negated (b + i + 1 + j) ∷ [])

-- The pairs of member i and each member after it.
abbrev pub pairs_of : ℕ → ℕ → ℕ → List Clause
pairs_of b n i = each (n - (i + 1)) (pair b i)
