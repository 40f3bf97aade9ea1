-- What the question for the ceiling M answers.
use Rattle.std.specs.Prelude.{ℕ, not, cond, Result, Ok, Err}
use Rattle.model.specs.declared.Model.{Model}
use Rattle.model.specs.Automaton.{ceiling}
use Rattle.model.specs.Form.{well_formed}
use Rattle.form.specs.BoundCheck.{list_refusal_number}
use Rattle.form.specs.declared.ListRefusal.{ListRefusal}

-- a number of the table of refusals, or 0, and M, or 0 after a refusal
pub record CeilingReport : Type 0 where
  pub number : ℕ
  pub ceiling : ℕ

abbrev pub ceiling_reported : ℕ → ℕ → CeilingReport
ceiling_reported n c = record { number = n; ceiling = c }

-- 20
unfoldable pub ceiling_report : Model → CeilingReport
ceiling_report m = cond (not (well_formed m)) (ceiling_reported 20 0) (ceiling_reported 0 (ceiling m))

-- the numbers of each case of the answer
abbrev pub ceiling_told : Result ℕ ListRefusal → CeilingReport
ceiling_told (Ok c) = ceiling_reported 0 c
ceiling_told (Err e) = ceiling_reported (list_refusal_number e) 0
