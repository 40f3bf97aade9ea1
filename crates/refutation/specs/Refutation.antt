-- A refutation with hints: what a clause leaves under the literals that are taken to be false, what the hints of a lemma must leave, and when
-- lemmas and hints refute the clauses before them. The words of the clauses are followed by those of the lemmas; a hint is the place in the words
-- where a clause begins.
use Rattle.std.specs.Prelude.{Bool, true, false, not, cond, ◌&&◌, List, [], ◌∷◌, ℕ, ◌+◌, eqb, ltb, ℤ, length, drop}
use Rattle.refutation.specs.Codes.{code_of, closes, opposite, begins, all_within}

-- A literal is among some.
unfoldable pub is_in : ℕ → List ℕ → Bool
is_in c [] = false
is_in c (d ∷ ds) = cond (eqb c d) true (is_in c ds)

-- u is a literal, and another one than c.
abbrev pub clash : ℕ → ℕ → Bool
clash u c = cond (eqb u 0) false (not (eqb u c))

-- What the clause at the start of the words leaves without the literals that are taken to be false, which f names: 0 for nothing, the literal where
-- only one is left, 1 where more are left or the words end. u is what the words before have left.
unfoldable pub left : (ℕ → Bool) → ℕ → List ℤ → ℕ
left f u [] = 1
left f u (w ∷ ws) = cond (closes w) u (cond (f (code_of w)) (left f u ws) (cond (clash u (code_of w)) 1 (left f (code_of w) ws)))

-- How many words stand before the one that closes the clause.
unfoldable pub span : List ℤ → ℕ
span [] = 0
span (w ∷ ws) = cond (closes w) 0 (span ws + 1)

-- The literals of the clause at the start of the words, put before some.
unfoldable pub literals : List ℤ → List ℕ → List ℕ
literals [] fs = fs
literals (w ∷ ws) fs = cond (closes w) fs (literals ws (code_of w ∷ fs))

-- Where the clause after the one at place `at` begins.
abbrev pub next_at : List ℤ → ℕ → ℕ
next_at ws at = at + span (drop at ws) + 1

-- The hints are followed for the lemma at place `at`, where the literals fs are taken to be false: at first those of the lemma. A hint names a clause
-- that begins before the lemma. Where it leaves one literal, the opposite one is taken to be false too; where it leaves nothing, the lemma is accepted,
-- and the next lemma is due. The empty lemma, accepted, is the refutation.
unfoldable pub follows : List ℤ → ℕ → List ℕ → List ℕ → Bool
follows ws at fs [] = false
follows ws at fs (h ∷ hs) =
    cond (begins ws at h)
    (cond (eqb (left (λ c. is_in c fs) 0 (drop h ws)) 1) false
    (cond (eqb (left (λ c. is_in c fs) 0 (drop h ws)) 0)
    (cond (eqb (span (drop at ws)) 0) true
    (cond (ltb (next_at ws at) (length ws)) (follows ws (next_at ws at) (literals (drop (next_at ws at) ws) []) hs) false))
    (follows ws at (opposite (left (λ c. is_in c fs) 0 (drop h ws)) ∷ fs) hs)))
    false

-- The words from place n on, as lemmas, and the hints refute the clauses before place n. No word names a variable above 21,776.
unfoldable pub refutes : List ℤ → ℕ → List ℕ → Bool
refutes ws n hs = cond (ltb n (length ws)) (all_within ws && follows ws n (literals (drop n ws) []) hs) false
