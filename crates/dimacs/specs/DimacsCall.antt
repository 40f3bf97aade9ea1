-- What the call that writes the DIMACS file answers, and what it leaves in the lent buffer.
use Rattle.std.specs.Prelude.{ℕ, not, cond, List, ◌++◌, ltb, eqb, length, drop, Result, Ok, Err}
use Rattle.model.specs.declared.Model.{Model}
use Rattle.model.specs.Form.{well_formed}
use Rattle.dimacs.specs.File.{file}
use Rattle.form.specs.declared.ListRefusal.{ListRefusal}
use Rattle.form.specs.declared.ListRefusal.TheVariants as list
use Rattle.dimacs.specs.declared.FileRefusal.{FileRefusal}
use Rattle.dimacs.specs.declared.FileRefusal.TheVariants.{NotWellFormed, BoundTooLarge, BufferTooShort}

-- a number of the table of refusals, or 0, and the file's bytes
pub record FileReport : Type 0 where
  pub number : ℕ
  pub bytes : ℕ

abbrev pub file_reported : ℕ → ℕ → FileReport
file_reported n b = record { number = n; bytes = b }

-- 20; then 21 a bound above 64; then 32 the file is longer than `room`, the buffer's length. The file's bytes are told for 0 and for 32.
unfoldable pub file_report : Model → ℕ → ℕ → FileReport
file_report m k room =
    cond (not (well_formed m)) (file_reported 20 0)
    (cond (ltb 64 k) (file_reported 21 0)
    (cond (ltb room (length (file m k))) (file_reported 32 (length (file m k)))
    (file_reported 0 (length (file m k)))))

-- An accepted call leaves exactly the file, from the start, and nothing changed beyond; a refused one leaves the buffer unchanged.
unfoldable pub file_left : Model → ℕ → List ℕ → List ℕ
file_left m k out = cond (eqb (file_report m k (length out)).number 0) (file m k ++ drop (length (file m k)) out) out

-- the numbers of each refusal
abbrev pub file_refusal : FileRefusal → FileReport
file_refusal NotWellFormed = file_reported 20 0
file_refusal BoundTooLarge = file_reported 21 0
file_refusal (BufferTooShort b) = file_reported 32 b

-- a refusal of the record or the bound
abbrev pub as_file_refusal : ListRefusal → FileRefusal
as_file_refusal list.NotWellFormed = NotWellFormed
as_file_refusal list.BoundTooLarge = BoundTooLarge

-- the numbers of the answer
abbrev pub file_told : Result ℕ FileRefusal → FileReport
file_told (Ok b) = file_reported 0 b
file_told (Err e) = file_refusal e
