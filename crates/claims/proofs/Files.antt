-- The file of an accepted call on a record: the bytes left are the file, and what is read of it is proved in dimacs. The words and counts beside it are
-- those of an accepted emission.
use mathlib.Core.Path.{◌≡◌, refl, sym, ap, ◌∙◌}
use mathlib.Core.Bool.{Bool, true, false, not, cond}
use mathlib.Core.List.{List, [], ◌∷◌, ◌++◌}
use Prim.Native.Nat.{ℕ, ◌≤◌}
use native.Mathlib.Omega.{arith}
use lib.Dec.{T, ltb}
use lib.IntN.{pos}
use lib.ListN.{length, take, drop}
use lib.Seq.{take-append_seam}
use borrow.Author.Tests.{le-ltb, eq-eqb}
use Rattle.model.specs.declared.Model.{Model}
use Rattle.model.specs.Form.{well_formed}
use Rattle.model.proofs.IndexedLaws.{T_true}
use Rattle.dimacs.specs.File.{file}
use Rattle.dimacs.specs.DimacsCall.{FileReport, file_reported, file_report, file_left}
use Rattle.dimacs.specs.ReadBack.{numbers_in, read_back}
use Rattle.dimacs.proofs.ReadBackLaws.{read_back_lem, first_line_key, first_line_numbers}
use Rattle.claims.specs.Calls.{Calls, calls_with, Emitted}
use Rattle.claims.specs.Files.{Filed, bytes_left, FiledBytes}
use Rattle.claims.proofs.Accepted.{facts}

-- ---- the report
module _ (m : Model) (k : ℕ) where
  -- an accepted call tells the file's bytes
  bytes_told : (room : ℕ) → (file_report m k room).number ≡ 0 → (file_report m k room).bytes ≡ length (file m k)
  unfolding file_report
  bytes_told room = go (well_formed m) (ltb 64 k) (ltb room (length (file m k)))
    where
      report : Bool → Bool → Bool → FileReport
      report w b l =
          cond (not w) (file_reported 20 0)
          (cond b (file_reported 21 0)
          (cond l (file_reported 32 (length (file m k)))
          (file_reported 0 (length (file m k)))))

      go : (w b l : Bool) → (report w b l).number ≡ 0 → (report w b l).bytes ≡ length (file m k)
      go false b l h = absurd (omega arith)
      go true true l h = absurd (omega arith)
      go true false true h = refl
      go true false false h = refl

  -- and leaves the file
  left : (old : List ℕ) → (file_report m k (length old)).number ≡ 0 → file_left m k old ≡ file m k ++ drop (length (file m k)) old
  unfolding file_left
  left old h = rw (eq-eqb (file_report m k (length old)).number 0 h)

-- ---- accepted calls on a record
module _ (room : ℕ → ℕ) (m : Model) (k : ℕ) where
  bytes_are : (f : Filed (calls_with room m) k) → bytes_left f ≡ file m k
  bytes_are f =
      let old : List ℕ = f.old in
      ap (λ (n : ℕ). take n (file_left m k old)) (bytes_told m k (length old) f.accepts) ∙
      ap (take (length (file m k))) (left m k old f.accepts) ∙
      take-append_seam (file m k) (drop (length (file m k)) old)

  pub filed_bytes : (f : Filed (calls_with room m) k) (e : Emitted (calls_with room m) k) → FiledBytes (calls_with room m) k f e
  filed_bytes f e =
      let x = facts room m k e in
      record {
        words_are = ap read_back (bytes_are f) ∙ read_back_lem m k ∙ sym x.words_are;
        key = ap (take 6) (bytes_are f) ∙ first_line_key m k;
        counts_are_lem =
            ap (λ (l : List ℕ). take 2 (numbers_in (drop 6 l))) (bytes_are f) ∙ first_line_numbers m k ∙
            sym (λ i. pos (x.variables_are_lem i) ∷ pos (x.clauses_are i) ∷ []);
      }

-- every well-formed model, bound up to 64 and buffer with room for the file gives one
pub files : (room : ℕ → ℕ) (m : Model) → T (well_formed m) → (k : ℕ) → k ≤ 64 → (old : List ℕ) → length (file m k) ≤ length old
    → Filed (calls_with room m) k
unfolding file_report
files room m ok k h old l =
    record { old = old; accepts = rw ((T_true (well_formed m)).0 ok, le-ltb 64 k h, le-ltb (length old) (length (file m k)) l) }

-- what the contract promises of an answer with the number 0, as an accepted call
pub from_file_call : (c : Calls) (k : ℕ) (old new : List ℕ) (x : FileReport) → x ≡ c.files k old → new ≡ c.filed k old → x.number ≡ 0
    → (f : Filed c k) × (bytes_left f ≡ take x.bytes new)
from_file_call c k old new x told left h = (
  record { old = old; accepts = ap (λ (y : FileReport). y.number) (sym told) ∙ h },
  ap (λ (y : FileReport). take y.bytes (c.filed k old)) (sym told) ∙ ap (take x.bytes) (sym left),
)
