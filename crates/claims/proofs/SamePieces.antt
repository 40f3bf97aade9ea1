-- The pieces of the list that are written at once (emission/specs/Cut), of a record whose edges are replaced by others with the same items: the same ones.
use mathlib.Core.Path.{◌≡◌, refl, sym, ap, subst, ◌∙◌}
use mathlib.Core.Bool.{Bool, true, false, cond}
use mathlib.Core.List.{[], ◌∷◌}
use Prim.Native.Nat.{ℕ, ◌+◌, ◌-◌, ◌<◌}
use native.Mathlib.Omega.{arith}
use lib.Dec.{T, ltb, leb, eqb, leb→le}
use borrow.Author.Tests.{leb-false}
use Rattle.model.specs.declared.Edge.{Edge}
use Rattle.model.specs.declared.Model.{Model}
use Rattle.model.specs.Record.{edge_at, invariant_at}
use Rattle.model.specs.Automaton.{Component, loc, counter, clock, ceiling, group_size, choices}
use Rattle.model.specs.Form.{well_formed}
use Rattle.model.proofs.FormLaws.{choices_is}
use Rattle.list.specs.Items.{offset, next_block, state_member, block_at, choice_items, delay_items, edge_items, end_items}
use Rattle.list.specs.Clauses.{one_hot_width, group_clauses, clauses_of}
use Rattle.list.specs.OtherEdges.{map_edges}
use Rattle.list.proofs.OtherEdgesLaws as other
use Rattle.list.proofs.MappedEdges as mapped
use Rattle.list.proofs.MappedEdges.{Keeps}
use Rattle.parts.specs.StateBlock.{component_at}
use Rattle.emission.specs.Cut.{group_count, state_count, state_piece, step_piece, row_pieces, piece_of}

module _ (f : Edge → Edge) (keeps : Keeps f) (m : Model) (ok : T (well_formed m)) where
  abbrev n : Model
  n = map_edges f m

  top : ceiling n ≡ ceiling m
  top = mapped.ceiling_same f keeps m

  choices_same : choices n ≡ choices m
  choices_same = other.choices_same one_hot_width m n.edges top

  group_same : (o : ℕ) (x : Component)
      → group_clauses (o + offset one_hot_width n x) (group_size n x) ≡ group_clauses (o + offset one_hot_width m x) (group_size m x)
  group_same o loc = refl
  group_same o (counter i) = refl
  group_same o (clock i) = rw top refl

  state_same : (o p : ℕ) → state_piece n o p ≡ state_piece m o p
  unfolding state_piece
  state_same o p = λ i. cond (ltb p (group_count m)) (group_same o (component_at m p) i) (clauses_of
      (other.atoms_same one_hot_width m n.edges top o (state_member one_hot_width m o loc (p - group_count m) ∷ []) (invariant_at m (p - group_count m)) i))

  -- piece p of a step is edge p - (M + 2), where p is neither a delay's nor one of the state after
  edge_same : (o p : ℕ) → leb p (ceiling m + 1) ≡ false → leb p (choices m) ≡ true → let e = p - (ceiling m + 2) in
      let c = ceiling m + 1 + e in edge_items one_hot_width n o c (edge_at n e) ≡ edge_items one_hot_width m o c (edge_at m e)
  edge_same o p above within =
      let e = p - (ceiling m + 2) in
      let c = ceiling m + 1 + e in
      let used : e < m.used =
      omega (arith, leb-false p (ceiling m + 1) above, leb→le p (choices m) (subst T (sym within) tt), choices_is m) in
      other.edge_same one_hot_width m n.edges top o c (edge_at n e) ∙ mapped.edge_items_lem f keeps m ok one_hot_width e used o c

  step_same : (o p : ℕ) → step_piece n o p ≡ step_piece m o p
  unfolding step_piece
  step_same o p = rw (choices_same, top) (by (eqb p 0) (leb p (ceiling m + 1)) (leb p (choices m)) refl refl)
    where
      e : ℕ
      e = p - (ceiling m + 2)

      after : ℕ
      after = next_block one_hot_width m o

      by : (first delay edge : Bool) → leb p (ceiling m + 1) ≡ delay → leb p (choices m) ≡ edge
          → cond first (clauses_of (choice_items one_hot_width n o)) (cond delay (clauses_of (delay_items one_hot_width n o (p - 1)))
          (cond edge (clauses_of (edge_items one_hot_width n o (ceiling m + 1 + e) (edge_at n e))) (state_piece n after (p - (1 + choices m)))))
          ≡ cond first (clauses_of (choice_items one_hot_width m o)) (cond delay (clauses_of (delay_items one_hot_width m o (p - 1)))
          (cond edge (clauses_of (edge_items one_hot_width m o (ceiling m + 1 + e) (edge_at m e))) (state_piece m after (p - (1 + choices m)))))
      by true delay edge h g = ap clauses_of (other.choice_same one_hot_width m n.edges top o)
      by false true edge h g = ap clauses_of (other.delay_same one_hot_width m n.edges top o (p - 1))
      by false false true h g = ap clauses_of (edge_same o p h g)
      by false false false h g = state_same after (p - (1 + choices m))

  pub counts_same : (k r : ℕ) → row_pieces n k r ≡ row_pieces m k r
  unfolding row_pieces
  counts_same k r = rw choices_same refl

  end_same : (k : ℕ) → end_items one_hot_width n k ≡ end_items one_hot_width m k
  unfolding end_items
  end_same k = rw (choices_same, top) refl

  pub pieces_same : (k r p : ℕ) → piece_of n k r p ≡ piece_of m k r p
  unfolding piece_of
  pieces_same k r p =
      rw (choices_same, top)
      (λ i. cond (eqb r 0) (cond (ltb p (state_count m)) (state_same 0 p i) (clauses_of (other.initial_same one_hot_width m n.edges top i)))
      (cond (leb r k) (step_same (block_at one_hot_width m (r - 1)) p i) (clauses_of (end_same k i))))
