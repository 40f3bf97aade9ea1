-- How many moves there are at most: as many as the other model's locations for a lone edge, as many as its edges for the pairs of an edge.
use mathlib.Core.Bool.{Bool, true, false, cond}
use mathlib.Core.List.{List, [], ◌∷◌}
use Prim.Native.Nat.{ℕ, zero, suc, ◌*◌, ◌≤◌}
use native.Mathlib.Omega.{arith}
use lib.ListN.{length, length-append}
use Rattle.model.specs.declared.Model.{Model}
use Rattle.model.specs.Indexed.{each, list_below}
use Rattle.model.proofs.IndexedLaws.{length_list}
use Rattle.compose.specs.declared.moves.Move.{Move}
use Rattle.compose.specs.declared.moves.Move.TheVariants.{FirstAlone, SecondAlone, Together}
use Rattle.compose.specs.Moves.{label_at, shared, paired, first_alone, second_alone, pair_of, pairs_of}

-- n pieces, each of at most c elements
pub each_most : {A : Type 0} (n c : ℕ) (f : ℕ → List A) → ((i : ℕ) → length (f i) ≤ c) → length (each n f) ≤ n * c
unfolding each
each_most zero c f h = omega arith
each_most (suc n) c f h = omega (arith, length-append (each n f) (f n), each_most n c f h, h n)

-- a list that is there only if a test fails, or holds
unless_most : (t : Bool) (l : List Move) (c : ℕ) → length l ≤ c → length (cond t [] l) ≤ c
unless_most true l c h = omega arith
unless_most false l c h = h

one_most : (t : Bool) (x : Move) → length (cond t (x ∷ []) []) ≤ 1
one_most true x = omega arith
one_most false x = omega arith

module _ (a b : Model) where
  pub first_most : (e : ℕ) → length (first_alone a b e) ≤ b.locations
  unfolding first_alone
  first_most e =
      unless_most (shared a b (label_at a e)) (list_below (λ j. FirstAlone e j) b.locations) b.locations
      (omega (arith, length_list (λ j. FirstAlone e j) b.locations))

  pub second_most : (f : ℕ) → length (second_alone a b f) ≤ a.locations
  unfolding second_alone
  second_most f =
      unless_most (shared a b (label_at b f)) (list_below (λ i. SecondAlone f i) a.locations) a.locations
      (omega (arith, length_list (λ i. SecondAlone f i) a.locations))

  -- the pairs of edge e with the first n edges
  pub some_pairs_most : (e n : ℕ) → length (each n (pair_of a b e)) ≤ n
  some_pairs_most e n = omega (arith, each_most n 1 (pair_of a b e) (λ f. one_most (paired a b e f) (Together e f)))

  pub pairs_most : (e : ℕ) → length (pairs_of a b e) ≤ b.used
  unfolding pairs_of
  pairs_most e = some_pairs_most e b.used
