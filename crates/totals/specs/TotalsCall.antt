-- What the question for S, H and N answers.
use Rattle.std.specs.Prelude.{ℕ, not, cond, ltb, Result, Ok, Err}
use Rattle.model.specs.declared.Model.{Model}
use Rattle.model.specs.Automaton.{state_size, choices, variables}
use Rattle.model.specs.Form.{well_formed}
use Rattle.form.specs.BoundCheck.{list_refusal_number}
use Rattle.form.specs.declared.ListRefusal.{ListRefusal}
use Rattle.totals.specs.declared.BlockTotals.{BlockTotals}

-- a number of the table of refusals, or 0, and S, H and N, or 0 after a refusal
pub record TotalsReport : Type 0 where
  pub number : ℕ
  pub state : ℕ
  pub choices : ℕ
  pub variables : ℕ

abbrev pub totals_reported : ℕ → ℕ → ℕ → ℕ → TotalsReport
totals_reported n s h v = record { number = n; state = s; choices = h; variables = v }

-- 20, then 21 a bound above 64
unfoldable pub totals_report : Model → ℕ → TotalsReport
totals_report m k =
    cond (not (well_formed m)) (totals_reported 20 0 0 0)
    (cond (ltb 64 k) (totals_reported 21 0 0 0)
    (totals_reported 0 (state_size m) (choices m) (variables m k)))

-- the numbers of each case of the answer
abbrev pub totals_told : Result BlockTotals ListRefusal → TotalsReport
totals_told (Ok t) = totals_reported 0 t.state t.choices t.variables
totals_told (Err e) = totals_reported (list_refusal_number e) 0 0 0
