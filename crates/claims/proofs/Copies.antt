-- A copy of a clock reads the values before the edge.
use mathlib.Core.Path.{◌≡◌, ap, ◌∙◌}
use Rattle.std.specs.Prelude.{Some}
use Prim.Native.Nat.{ℕ, ◌<◌}
use Rattle.model.specs.declared.ClockUpdate.{ClockUpdate}
use Rattle.model.specs.declared.ClockUpdate.TheVariants.{Reset, Copy}
use Rattle.model.specs.declared.Edge.{Edge}
use Rattle.model.specs.declared.Model.{Model}
use Rattle.model.specs.declared.State.{State}
use Rattle.model.specs.Record.{reset_at}
use Rattle.model.specs.Automaton.{value, clock, new_clock, edge_step}
use Rattle.model.proofs.StepLaws.{clock_stepped}

module _ (m : Model) (e : Edge) (s t : State) (h : edge_step m e s ≡ Some t) where
  by_update : (i : ℕ) → i < 4 → (u : ClockUpdate) → reset_at e i ≡ u → value t (clock i) ≡ new_clock (λ x. value s (clock x)) (value s (clock i)) u
  by_update i l u c = clock_stepped m e s t h i l ∙ ap (new_clock (λ x. value s (clock x)) (value s (clock i))) c

  pub copies_read_before : (i w : ℕ) → i < 4 → reset_at e i ≡ Copy w → value t (clock i) ≡ value s (clock w)
  copies_read_before i w l c = by_update i l (Copy w) c

  pub copy_beside_reset : (i w : ℕ) → i < 4 → w < 4 → reset_at e i ≡ Copy w → reset_at e w ≡ Reset
      → (value t (clock i) ≡ value s (clock w)) × (value t (clock w) ≡ 0)
  copy_beside_reset i w l k c z = (by_update i l (Copy w) c, by_update w k Reset z)
