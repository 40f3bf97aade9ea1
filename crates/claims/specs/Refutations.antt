-- Refutations of model A's list, and lemmas and hints that are none, which the refuting call tells apart. proofs/Claims.antt has the claim.
use Rattle.std.specs.Prelude.{Bool, List, [], ◌∷◌, ◌++◌, ℕ, eqb, length, replicate, ℤ, pos}
use Rattle.model.specs.declared.Model.{Model}
use Rattle.list.specs.Lists.{all_of}
use Rattle.list.specs.Clauses.{words}
use Rattle.refute.specs.RefuteCall.{refute_report}
use Rattle.samples.specs.Models.{model_a}
use Rattle.claims.specs.RowWords.{neg, end}

-- What a row says: the list for the bound, with these lemmas behind it and these hints, is refuted; it is not.
pub data Refutation : Type 0 where
  is_refuted : Model → ℕ → List ℤ → List ℕ → Refutation
  not_refuted : Model → ℕ → List ℤ → List ℕ → Refutation

-- The outcome of the refuting call on words that have room for the list and hold these lemmas behind it.
abbrev outcome_of : Model → ℕ → List ℤ → List ℕ → ℕ
outcome_of m k lemmas hints = (refute_report m k (replicate (length (words m k)) (pos 0) ++ lemmas) hints).outcome

-- whether a row is true
unfoldable pub tells : Refutation → Bool
tells (is_refuted m k lemmas hints) = eqb (outcome_of m k lemmas hints) 1
tells (not_refuted m k lemmas hints) = eqb (outcome_of m k lemmas hints) 2

unfoldable pub refutations : List Refutation
refutations =
    is_refuted model_a 0 (end ∷ []) (6 ∷ 8 ∷ 3 ∷ []) ∷
    is_refuted model_a 0 (neg 2 ∷ end ∷ end ∷ []) (6 ∷ 3 ∷ 10 ∷ 8 ∷ []) ∷
    not_refuted model_a 0 [] (6 ∷ 8 ∷ 3 ∷ []) ∷
    not_refuted model_a 0 (end ∷ []) (6 ∷ 8 ∷ 4 ∷ []) ∷
    not_refuted model_a 0 (end ∷ []) (6 ∷ 8 ∷ []) ∷
    not_refuted model_a 0 (neg 2 ∷ end ∷ []) (6 ∷ 3 ∷ []) ∷
    not_refuted model_a 0 (end ∷ []) (10 ∷ []) ∷
    not_refuted model_a 1 (end ∷ []) (6 ∷ 49 ∷ 3 ∷ []) ∷
    not_refuted model_a 0 (pos 21777 ∷ end ∷ end ∷ []) (6 ∷ 8 ∷ 3 ∷ 6 ∷ 8 ∷ 3 ∷ []) ∷
    is_refuted model_a 0 (pos 21776 ∷ end ∷ end ∷ []) (6 ∷ 8 ∷ 3 ∷ 6 ∷ 8 ∷ 3 ∷ []) ∷ []

-- Every row is true.
unfoldable pub all_refutations_hold : Bool
all_refutations_hold = all_of tells refutations
