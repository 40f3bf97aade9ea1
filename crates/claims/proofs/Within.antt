-- Every word of a clause of the list names a variable from 1 to N, since its variable is one of the first N.
use mathlib.Core.Path.{◌≡◌, ap}
use mathlib.Core.List.{List, [], ◌∷◌, map}
use Prim.Native.Nat.{ℕ, suc, ◌+◌, ◌<◌}
use native.Mathlib.Numerals.{add-one}
use native.Mathlib.Omega.{arith}
use lib.Dec.{T}
use lib.IntN.{pos, neg_ℤ, nat_abs}
use Rattle.model.specs.declared.Model.{Model}
use Rattle.model.specs.Automaton.{variables}
use Rattle.model.specs.Form.{well_formed}
use Rattle.list.specs.Lists.{All}
use Rattle.list.specs.Clauses.{Literal, bare, negated, Clause, word, clauses, words}
use Rattle.list.proofs.Within.{index, ClauseInside, clauses_inside}
use Rattle.claims.specs.Words.{clauses_in}
use Rattle.claims.specs.Calls.{NamesVariable}
use Rattle.claims.proofs.ReadBack.{read_list}

module _ (N : ℕ) where
  word_names : (l : Literal) → index l < N → NamesVariable N (word l)
  word_names (bare i) h = (omega arith, omega arith)
  word_names (negated i) h =
      let e : nat_abs (neg_ℤ (pos (i + 1))) ≡ suc i = ap (λ (n : ℕ). nat_abs (neg_ℤ (pos n))) (add-one i) in
      (omega arith, omega arith)

  clause_names : (c : Clause) → ClauseInside N c → All (NamesVariable N) (map word c)
  clause_names [] h = tt
  clause_names (l ∷ c) h = (word_names l h.0, clause_names c h.1)

  list_names : (cs : List Clause) → All (ClauseInside N) cs → All (λ words. All (NamesVariable N) words) (map (map word) cs)
  list_names [] h = tt
  list_names (c ∷ cs) h = (clause_names c h.0, list_names cs h.1)

pub words_within : (m : Model) → T (well_formed m) → (k : ℕ)
    → All (λ words. All (NamesVariable (variables m k)) words) (clauses_in (words m k))
unfolding words
words_within m wf k = rw (read_list (clauses m k)) (list_names (variables m k) (clauses m k) (clauses_inside m wf k))
