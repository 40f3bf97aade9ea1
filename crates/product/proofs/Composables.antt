-- Two well-formed models that fit together have all that the laws of steps ask of them and of their edges.
use mathlib.Core.Path.{◌≡◌, refl, ap, ◌∙◌}
use Prim.Native.Nat.{ℕ, ◌+◌, ◌≤◌, ◌<◌}
use native.Mathlib.Omega.{arith}
use lib.Dec.{T}
use lib.ListN.{length}
use mathlib.Core.List.{List}
use Rattle.model.specs.declared.Update.{Update}
use Rattle.model.specs.declared.Update.TheVariants.{Keep, Constant, Sum}
use Rattle.model.specs.declared.ClockUpdate.{ClockUpdate}
use Rattle.model.specs.declared.ClockUpdate.TheVariants.{Unchanged, Reset, Copy}
use Rattle.model.specs.declared.Edge.{Edge}
use Rattle.model.specs.declared.Model.{Model}
use Rattle.model.specs.Record.{update_at, reset_at, invariant_at, edge_at}
use Rattle.model.specs.Automaton.{set_earlier}
use Rattle.model.specs.Form.{well_formed}
use Rattle.model.proofs.FormLaws.{WellFormedEdge, formed, edge_formed_lem, edge_parts, invariant_constant, guard_constant}
use Rattle.compose.specs.declared.moves.Move.{Move}
use Rattle.compose.specs.declared.moves.Move.TheVariants.{FirstAlone, SecondAlone, Together}
use Rattle.compose.specs.Joined.{shifted_update, shifted_reset, atom_count, standing, joined_edge}
use Rattle.compose.specs.Moves.{label_at, moves, edge_of, MoveOf}
use Rattle.compose.specs.Composed.{fits, composed}
use Rattle.product.proofs.JoinedForm.{sets_formed, joined_order_lem, update_first, update_second, reset_first, reset_second, earlier_first, earlier_second}
use Rattle.product.proofs.JoinedForm.{filled_atoms, count_le, blank_above, standing_count}
use Rattle.product.proofs.ComposedForm.{composed_used, Fits, fits_of, invariant_at_lem, edge_of_move, counter_first, counter_second}
use Rattle.product.proofs.ComposedForm.{move_formed, composed_formed}
use Rattle.compose.proofs.JoinedLaws.{invariant_formed_at, edge_formed_at}
use Rattle.product.proofs.ComposedCeiling.{composed_ceiling}
use Rattle.product.proofs.PartLaws.{PartAtoms, EdgeIn}
use Rattle.product.proofs.PairSteps.{Composable, Joinable}
use Rattle.product.proofs.Standing.{standing_atoms, standing_ok}
use Rattle.product.proofs.JointSteps.{JoinedEdges}

-- ---- atoms of a part
module _ (m : Model) (ok : T (well_formed m)) where
  invariant_atoms : (l : ℕ) → l < m.locations → PartAtoms m (invariant_at m l)
  invariant_atoms l p = record {
    declared = (formed m ok).invariant_ok l p;
    low = λ k q. invariant_constant m l k (omega (arith, (formed m ok).locations_le)) q;
    past =
        λ k q h. rw (blank_above (invariant_at m l) (filled_atoms m.clocks 0 (invariant_at m l) (invariant_formed_at m ok l p)) k h q) tt;
  }

  guard_atoms : (e : ℕ) → e < m.used → PartAtoms m (edge_at m e).guard
  guard_atoms e p =
      let g = edge_parts m.locations m.clocks m.vars (edge_at m e) (edge_formed_at m ok e p) in
      record {
        declared = ((formed m ok).edge_ok e p).guard_ok;
        low = λ k q. guard_constant m e k (omega (arith, (formed m ok).used_le)) q;
        past = λ k q h. rw (blank_above (edge_at m e).guard (filled_atoms m.clocks m.vars (edge_at m e).guard g.3) k h q) tt;
      }

  guard_count : (e : ℕ) → e < m.used → atom_count (edge_at m e).guard ≤ 4
  guard_count e p =
      let g = edge_parts m.locations m.clocks m.vars (edge_at m e) (edge_formed_at m ok e p) in
      count_le (edge_at m e).guard (filled_atoms m.clocks m.vars (edge_at m e).guard g.3)

-- ---- a shift by nothing
update_none : (u : Update) → u ≡ shifted_update 0 u
update_none Keep = refl
update_none (Constant c) = refl
update_none (Sum w z) = ap (λ (i : ℕ). Sum i z) (omega arith)

reset_none : (u : ClockUpdate) → u ≡ shifted_reset 0 u
reset_none Unchanged = refl
reset_none Reset = refl
reset_none (Copy w) = ap Copy (omega arith)

none_first : (i : ℕ) → 0 + i ≡ i
none_first i = omega arith

-- ---- the joint edge does to each part's slots what the part's edge does
module _ (a b : Model) (v4 : a.vars + b.vars ≤ 4) (c4 : a.clocks + b.clocks ≤ 4) (label : ℕ) (e f : Edge)
    (e-ok : WellFormedEdge a e) (f-ok : WellFormedEdge b f) where
  abbrev joint : Edge
  joint = joined_edge a.clocks a.vars b.locations label e f

  first_edge_in : EdgeIn a 0 0 e joint
  first_edge_in = record {
    updates = λ i l.
        ap (update_at joint) (none_first i) ∙ update_first a.clocks a.vars b.locations label e f i (omega arith) l ∙ update_none (update_at e i);
    earlier = λ i w l p t.
        (λ k. set_earlier (joined_order_lem a.clocks a.vars b.locations label e f k) (none_first w k) (none_first i k))
        ∙ earlier_first a.vars b.vars e f v4 (sets_formed a e e-ok) (sets_formed b f f-ok) w i p l t;
    resets = λ i l.
        ap (reset_at joint) (none_first i) ∙ reset_first a.clocks a.vars b.locations label e f i (omega arith) l ∙ reset_none (reset_at e i);
  }

  second_edge_in : EdgeIn b a.clocks a.vars f joint
  second_edge_in = record {
    updates = λ i l. update_second a.clocks a.vars b.locations label e f i (omega arith);
    earlier = λ i w l p t.
        ap (λ (o : List ℕ). set_earlier o (a.vars + w) (a.vars + i)) (joined_order_lem a.clocks a.vars b.locations label e f)
        ∙ earlier_second a.vars b.vars e f v4 (sets_formed a e e-ok) (sets_formed b f f-ok) w i p l t;
    resets = λ i l. reset_second a.clocks a.vars b.locations label e f i (omega arith);
  }

-- ---- two models
module _ (a b : Model) (a-ok : T (well_formed a)) (b-ok : T (well_formed b)) (fit : T (fits a b)) where
  abbrev few : Fits a b
  few = fits_of a b fit

  pub composable : Composable a b
  composable = record {
    first_ok = formed a a-ok;
    second_ok = formed b b-ok;
    joint_ok = formed (composed a b) (composed_formed a b a-ok b-ok fit);
    ceiling_is = composed_ceiling a b a-ok b-ok fit;
    first_counter = λ i l. counter_first a b i (omega (arith, (formed a a-ok).vars_le)) l;
    second_counter = λ i l. counter_second a b i (omega (arith, few.vars_fit));
    invariant_is = λ i j p q. invariant_at_lem a b i j p q few.locations_fit;
    first_invariant = invariant_atoms a a-ok;
    second_invariant = invariant_atoms b b-ok;
    invariant_four = few.invariants_fit_lem;
  }

  -- the edge of a move is formed
  move_ok : (v : Move) → MoveOf a b v → WellFormedEdge (composed a b) (edge_of a b v)
  unfolding composed
  move_ok v h = edge_formed_lem (composed a b) few.vars_fit few.clocks_fit (edge_of a b v) (move_formed a b a-ok b-ok fit v h)

  joins : (label : ℕ) (e f : Edge) → WellFormedEdge a e → WellFormedEdge b f → PartAtoms a e.guard → PartAtoms b f.guard
      → atom_count e.guard + atom_count f.guard ≤ 4 → WellFormedEdge (composed a b) (joined_edge a.clocks a.vars b.locations label e f)
      → Joinable a b label e f
  joins label e f e-ok f-ok p q four ok = record {
    first_ok = e-ok;
    second_ok = f-ok;
    joint_ok = ok;
    first_guard = p;
    second_guard = q;
    guard_four = four;
    first_in = first_edge_in a b few.vars_fit few.clocks_fit label e f e-ok f-ok;
    second_in = second_edge_in a b few.vars_fit few.clocks_fit label e f e-ok f-ok;
  }

  pub joined_edges : JoinedEdges a b
  joined_edges = record {
    edge_is = λ n l. let l' : n < length (moves a b) = rw (composed_used a b) at l in edge_of_move a b n l' (omega (arith, l', few.moves_fit));
    first_joins = λ e j p q.
        joins (label_at a e) (edge_at a e) (standing j) ((formed a a-ok).edge_ok e p) (standing_ok b (formed b b-ok) j q) (guard_atoms a a-ok e p)
        (standing_atoms b (formed b b-ok) j) (omega (arith, standing_count j, guard_count a a-ok e p)) (move_ok (FirstAlone e j) (p, q));
    second_joins = λ f i p q.
        joins (label_at b f) (standing i) (edge_at b f) (standing_ok a (formed a a-ok) i q) ((formed b b-ok).edge_ok f p) (standing_atoms a (formed a a-ok) i)
        (guard_atoms b b-ok f p) (omega (arith, standing_count i, guard_count b b-ok f p)) (move_ok (SecondAlone f i) (p, q));
    pair_joins = λ e f p q t.
        joins (label_at a e) (edge_at a e) (edge_at b f) ((formed a a-ok).edge_ok e p) ((formed b b-ok).edge_ok f q) (guard_atoms a a-ok e p)
        (guard_atoms b b-ok f q) (few.guards_fit_lem e f p q t) (move_ok (Together e f) (p, q, t));
  }
