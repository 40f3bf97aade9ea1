-- Words of clauses: literals as numbers, opposite literals, the places where clauses begin, the greatest variable.
use Rattle.std.specs.Prelude.{Bool, true, false, cond, List, [], ◌∷◌, ℕ, ◌+◌, ◌-◌, ◌*◌, ◌%◌, eqb, ltb, ℤ, pos, negsuc, nat_abs, get_or}

-- The code of a word: 0 for the word 0 that closes a clause, 2 v for the variable v, 2 v + 1 for its negation.
abbrev pub code_of : ℤ → ℕ
code_of (pos n) = 2 * n
code_of (negsuc n) = 2 * n + 3

-- The word closes a clause.
abbrev pub closes : ℤ → Bool
closes w = eqb (code_of w) 0

-- The code of the opposite literal.
unfoldable pub opposite : ℕ → ℕ
opposite c = cond (eqb (c % 2) 0) (c + 1) (c - 1)

-- A clause begins at place h, before place `at`: at the start, or after a word that closes a clause.
unfoldable pub begins : List ℤ → ℕ → ℕ → Bool
begins ws at h = cond (ltb h at) (cond (eqb h 0) true (closes (get_or ws (h - 1) (pos 0)))) false

-- No word names a variable above 21,776.
unfoldable pub all_within : List ℤ → Bool
all_within [] = true
all_within (w ∷ ws) = cond (ltb 21776 (nat_abs w)) false (all_within ws)
