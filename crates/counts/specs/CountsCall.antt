-- What the question for the counts of the clause list answers.
use Rattle.std.specs.Prelude.{ℕ, not, cond, ltb, length, Result, Ok, Err}
use Rattle.model.specs.declared.Model.{Model}
use Rattle.model.specs.Automaton.{variables}
use Rattle.model.specs.Form.{well_formed}
use Rattle.list.specs.Clauses.{clauses, words}
use Rattle.form.specs.BoundCheck.{list_refusal_number}
use Rattle.form.specs.declared.ListRefusal.{ListRefusal}
use Rattle.counts.specs.declared.ListCounts.{ListCounts}

-- a number of the table of refusals, or 0, and the counts of the list, or 0 after a refusal
pub record ListReport : Type 0 where
  pub number : ℕ
  pub variables : ℕ
  pub clauses : ℕ
  pub words : ℕ

abbrev pub list_reported : ℕ → ℕ → ℕ → ℕ → ListReport
list_reported n v c w = record { number = n; variables = v; clauses = c; words = w }

-- 20, then 21 a bound above 64
unfoldable pub list_report : Model → ℕ → ListReport
list_report m k =
    cond (not (well_formed m)) (list_reported 20 0 0 0)
    (cond (ltb 64 k) (list_reported 21 0 0 0)
    (list_reported 0 (variables m k) (length (clauses m k)) (length (words m k))))

-- the numbers of each case of the answer
abbrev pub list_told : Result ListCounts ListRefusal → ListReport
list_told (Err e) = list_reported (list_refusal_number e) 0 0 0
list_told (Ok n) = list_reported 0 n.variables n.clauses n.words
