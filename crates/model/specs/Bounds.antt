-- What the total questions promise of any record, well formed or not: the answer and numbers that it never passes.
use Rattle.std.specs.Prelude.{ℕ, ◌≤◌, ◌≡◌}
use Rattle.model.specs.declared.Model.{Model}
use Rattle.model.specs.declared.Totals.{Totals}
use Rattle.model.specs.Automaton.{ceiling, totals}

-- r is M. A constant of the record is a byte, so M is at most 256.
pub record Ceiling (m : Model) (r : ℕ) : Type 0 where
  pub is : r ≡ ceiling m
  pub most : r ≤ 256

-- r is M, S and H
pub record KnownTotals (m : Model) (r : Totals) : Type 0 where
  pub is : r ≡ totals m
  pub ceiling_most : r.ceiling ≤ 256
  pub state_most : r.state ≤ 131070
  pub choices_most : r.choices ≤ 512
