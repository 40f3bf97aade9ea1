-- What emission answers, and what it leaves in the lent buffer.
use Rattle.std.specs.Prelude.{ℕ, not, cond, List, ◌++◌, ltb, eqb, ℤ, length, drop, Result, Ok, Err}
use Rattle.model.specs.declared.Model.{Model}
use Rattle.model.specs.Automaton.{variables}
use Rattle.model.specs.Form.{well_formed}
use Rattle.list.specs.Clauses.{clauses, words}
use Rattle.form.specs.declared.ListRefusal.{ListRefusal}
use Rattle.form.specs.declared.ListRefusal.TheVariants as list
use Rattle.counts.specs.declared.ListCounts.{ListCounts}
use Rattle.emission.specs.declared.EmitRefusal.{EmitRefusal}
use Rattle.emission.specs.declared.EmitRefusal.TheVariants.{NotWellFormed, BoundTooLarge, BufferTooShort}

-- a number of the table of refusals, or 0, and the counts of the list
pub record EmitReport : Type 0 where
  pub number : ℕ
  pub variables : ℕ
  pub clauses : ℕ
  pub words : ℕ

abbrev pub emit_reported : ℕ → ℕ → ℕ → ℕ → EmitReport
emit_reported n v c w = record { number = n; variables = v; clauses = c; words = w }

-- 20; then 21 a bound above 64; then 22 the list is longer than `room`, the number of words that may be written, and then the words needed
-- are told. An accepted emission tells variables, clauses and words.
unfoldable pub emit_report : Model → ℕ → ℕ → EmitReport
emit_report m k room =
    cond (not (well_formed m)) (emit_reported 20 0 0 0)
    (cond (ltb 64 k) (emit_reported 21 0 0 0)
    (cond (ltb room (length (words m k))) (emit_reported 22 0 0 (length (words m k)))
    (emit_reported 0 (variables m k) (length (clauses m k)) (length (words m k)))))

-- An accepted emission leaves exactly the list, from the start, and nothing changed beyond; a refused one leaves the buffer unchanged.
unfoldable pub emit_left : Model → ℕ → ℕ → List ℤ → List ℤ
emit_left m k room out = cond (eqb (emit_report m k room).number 0) (words m k ++ drop (length (words m k)) out) out

-- what a refused record or bound becomes
abbrev pub emit_refusal : ListRefusal → EmitRefusal
emit_refusal list.NotWellFormed = NotWellFormed
emit_refusal list.BoundTooLarge = BoundTooLarge

-- the numbers of each case of the answer
abbrev pub emit_told : Result ListCounts EmitRefusal → EmitReport
emit_told (Err NotWellFormed) = emit_reported 20 0 0 0
emit_told (Err BoundTooLarge) = emit_reported 21 0 0 0
emit_told (Err (BufferTooShort w)) = emit_reported 22 0 0 w
emit_told (Ok n) = emit_reported 0 n.variables n.clauses n.words
