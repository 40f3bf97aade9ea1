-- The law of steps: from a joint state that meets its invariant, every step byte of the composed model does what its two parts do.
use mathlib.Core.Path.{◌≡◌, refl, sym, ap, subst, ◌∙◌}
use mathlib.Core.Logic.{◌↔◌}
use Rattle.std.specs.Prelude.{Option, None, Some}
use Prim.Native.Nat.{ℕ, ◌+◌, ◌-◌, ◌<◌}
use native.Mathlib.Omega.{arith}
use lib.Dec.{T, eqb}
use Rattle.model.specs.declared.Edge.{Edge}
use Rattle.model.specs.declared.Model.{Model}
use Rattle.model.specs.declared.State.{State}
use Rattle.model.specs.Record.{edge_at}
use Rattle.model.specs.Automaton.{ceiling, invariant_holds, edge_step, step}
use Rattle.model.proofs.IndexedLaws.{eq_T, some_none, only_if_lem}
use Rattle.model.proofs.FormLaws.{WellFormed}
use Rattle.model.proofs.StepLaws.{Shaped, step_is_edge}
use Rattle.compose.specs.declared.moves.Move.{Move}
use Rattle.compose.specs.declared.moves.Move.TheVariants.{FirstAlone, SecondAlone, Together}
use Rattle.compose.specs.Joined.{standing}
use Rattle.compose.specs.Moves.{label_at, paired, move_at, edge_of, MoveOf}
use Rattle.compose.specs.Composed.{composed}
use Rattle.compose.proofs.MoveLaws.{move_of}
use Rattle.product.specs.Joint.{Parts, StepsTogether, stands_in, StepsAsParts}
use Rattle.product.proofs.ComposedForm.{composed_used}
use Rattle.product.proofs.PairSteps.{Composable, Joinable, SeenBy, parts_seen, invariant_split, delay_together, joined_together}
use Rattle.product.proofs.Standing.{standing_iff}

-- options with the same value are the same
same_option : {A : Type 0} (x y : Option A) → ((z : A) → (x ≡ Some z) ↔ (y ≡ Some z)) → x ≡ y
same_option None None h = refl
same_option None (Some w) h = absurd (some_none ((h w).1 refl))
same_option (Some v) None h = absurd (some_none ((h v).0 refl))
same_option (Some v) (Some w) h = sym ((h v).0 refl)

-- the step byte of edge n
pub step_byte_lem : (m : Model) (s : State) (n : ℕ) → n < m.used → step m s (ceiling m + 1 + n) ≡ edge_step m (edge_at m n) s
step_byte_lem m s n l =
    let e : ceiling m + 1 + n - (ceiling m + 1) ≡ n = omega arith in
    step_is_edge m s (ceiling m + 1 + n) (omega arith) (omega arith) ∙ ap (λ (i : ℕ). edge_step m (edge_at m i) s) e

-- the edges of the composed model
pub record JoinedEdges (a b : Model) : Type 0 where
  pub edge_is : (n : ℕ) → n < (composed a b).used → edge_at (composed a b) n ≡ edge_of a b (move_at a b n)
  pub first_joins : (e j : ℕ) → e < a.used → j < b.locations → Joinable a b (label_at a e) (edge_at a e) (standing j)
  pub second_joins : (f i : ℕ) → f < b.used → i < a.locations → Joinable a b (label_at b f) (standing i) (edge_at b f)
  pub pair_joins : (e f : ℕ) → e < a.used → f < b.used → T (paired a b e f) → Joinable a b (label_at a e) (edge_at a e) (edge_at b f)

module _ (a b : Model) (ok : Composable a b) (es : JoinedEdges a b) (s x y : State) (q : Shaped (composed a b) s) (p : Parts a b s x y)
    (holds : T (invariant_holds (composed a b) s)) where
  abbrev c : Model
  c = composed a b

  seen : SeenBy a b s x y
  seen = parts_seen a b ok s x y p

  -- the parts of a joint state that meets its invariant meet theirs
  both_hold : T (invariant_holds a x) × T (invariant_holds b y)
  both_hold = (invariant_split a b ok s x y seen).0 holds

  stands : (m : Model) → WellFormed m → (z : State) → Shaped m z → T (invariant_holds m z) → (l : ℕ) → l < m.locations
      → edge_step m (standing l) z ≡ stands_in l z
  stands m mok z shape i l h = same_option (edge_step m (standing l) z) (stands_in l z) (λ w. (
    λ e. let g = (standing_iff m mok l h z w shape i).0 e in (only_if_lem (eqb z.location l) z w).1 ((eq_T z.location l).1 g.0, g.1),
    λ e. let g = (only_if_lem (eqb z.location l) z w).0 e in (standing_iff m mok l h z w shape i).1 ((eq_T z.location l).0 g.0, g.1),
  ))

  -- the edge of a move, and of which kind the move is
  edge_step_lem : (n : ℕ) → n < c.used → (v : Move) → move_at a b n ≡ v → step c s (ceiling c + 1 + n) ≡ edge_step c (edge_of a b v) s
  edge_step_lem n l v e = step_byte_lem c s n l ∙ ap (λ (u : Edge). edge_step c u s) (es.edge_is n l ∙ ap (edge_of a b) e)

  of_move : (n : ℕ) → n < c.used → (v : Move) → move_at a b n ≡ v → MoveOf a b v
  of_move n l v e = subst (MoveOf a b) e (move_of a b n (rw (composed_used a b) at l))

  together : {o o' i i' j j' : Option State} → o ≡ o' → i ≡ i' → j ≡ j' → StepsTogether a b o' i' j' → StepsTogether a b o i j
  together {o} {o'} {i} {i'} {j} {j'} d e f h =
      subst (λ (u : Option State). StepsTogether a b u i j) (sym d)
      (subst (λ (u : Option State). StepsTogether a b o' u j) (sym e) (subst (λ (u : Option State). StepsTogether a b o' i' u) (sym f) h))

  pub steps_as_parts : StepsAsParts a b s x y
  steps_as_parts = record { delays = λ d l. delay_together a b ok d s x y q seen l; pairs = pairs; first_alone = first_alone; second_alone = second_alone }
    where
      pairs : (n e f : ℕ) → n < c.used → move_at a b n ≡ Together e f
          → StepsTogether a b (step c s (ceiling c + 1 + n)) (step a x (ceiling a + 1 + e)) (step b y (ceiling b + 1 + f))
      pairs n e f l h =
          let m = of_move n l (Together e f) h in
          together (edge_step_lem n l (Together e f) h) (step_byte_lem a x e m.0) (step_byte_lem b y f m.1)
          (joined_together a b ok (label_at a e) (edge_at a e) (edge_at b f) (es.pair_joins e f m.0 m.1 m.2) s x y q seen)

      first_alone : (n e j : ℕ) → n < c.used → move_at a b n ≡ FirstAlone e j
          → StepsTogether a b (step c s (ceiling c + 1 + n)) (step a x (ceiling a + 1 + e)) (stands_in j y)
      first_alone n e j l h =
          let m = of_move n l (FirstAlone e j) h in
          together (edge_step_lem n l (FirstAlone e j) h) (step_byte_lem a x e m.0) (sym (stands b ok.second_ok y seen.second.shape both_hold.1 j m.1))
          (joined_together a b ok (label_at a e) (edge_at a e) (standing j) (es.first_joins e j m.0 m.1) s x y q seen)

      second_alone : (n f i : ℕ) → n < c.used → move_at a b n ≡ SecondAlone f i
          → StepsTogether a b (step c s (ceiling c + 1 + n)) (stands_in i x) (step b y (ceiling b + 1 + f))
      second_alone n f i l h =
          let m = of_move n l (SecondAlone f i) h in
          together (edge_step_lem n l (SecondAlone f i) h) (sym (stands a ok.first_ok x seen.first.shape both_hold.0 i m.1)) (step_byte_lem b y f m.0)
          (joined_together a b ok (label_at b f) (standing i) (edge_at b f) (es.second_joins f i m.0 m.1) s x y q seen)
