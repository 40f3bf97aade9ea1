-- What is claimed of the DIMACS file: the page to read. It holds for every record and bound where nothing else is said.
use mathlib.Core.Path.{◌≡◌, refl}
use mathlib.Core.Bool.{Bool, true, false, cond}
use mathlib.Core.List.{List, [], ◌∷◌}
use Prim.Native.Nat.{ℕ, ◌≤◌, ◌<◌}
use native.Mathlib.Omega.{arith}
use lib.Dec.{T, eqb, ltb}
use lib.IntN.{pos}
use lib.ListN.{length, take, drop}
use borrow.Author.Tests.{le-leb, ltb-false}
use Rattle.model.specs.declared.Model.{Model}
use Rattle.model.specs.Automaton.{variables}
use Rattle.model.specs.Record.{blank_model}
use Rattle.model.specs.Form.{well_formed}
use Rattle.model.proofs.IndexedLaws.{T_true}
use Rattle.list.specs.Clauses.{clauses, words}
use Rattle.text.specs.bytes.Ascii.{ascii}
use Rattle.text.specs.Bound.{bound_report}
use Rattle.text.specs.Text.{ReadReport, read_report, if_read}
use Rattle.text.proofs.Laws.Accepted.{blank_formed, answer_formed}
use Rattle.text.proofs.Laws.Cutting as text
use Rattle.dimacs.specs.File.{file}
use Rattle.dimacs.specs.ReadBack.{numbers_in, read_back}
use Rattle.dimacs.specs.Pages.{most_page_bytes, row_count, pages_in, page_of, has_file, printed}
use Rattle.dimacs.specs.Request.{RequestReport, request_refused, requested, text_request, request_report}
use Rattle.dimacs.proofs.ReadBackLaws as back
use Rattle.dimacs.proofs.PageLaws as pages
use Rattle.dimacs.proofs.PrintLaws as print

-- Reading the numbers after the first line back gives the word list exactly.
pub read_back_lem : (m : Model) (k : ℕ) → read_back (file m k) ≡ words m k
read_back_lem = back.read_back_lem

-- The first line is `p cnf` and two numbers, the variables and the number of clauses.
pub first_line_key : (m : Model) (k : ℕ) → take 6 (file m k) ≡ ascii "p cnf "
first_line_key = back.first_line_key

pub first_line_numbers : (m : Model) (k : ℕ) → take 2 (numbers_in (drop 6 (file m k))) ≡ pos (variables m k) ∷ pos (length (clauses m k)) ∷ []
first_line_numbers = back.first_line_numbers

-- No page that the program prints is longer than its buffer.
pub page_most : (m : Model) → T (well_formed m) → (k : ℕ) → k ≤ 64 → (r p : ℕ) → r < row_count k → p < pages_in m k r
    → length (page_of m k r p) ≤ most_page_bytes
page_most = pages.page_most

-- The pages that the program prints, one after the other, are the file.
pub printed_is : (m : Model) (k : ℕ) → has_file m k ≡ true → printed m k ≡ file m k
printed_is = print.printed_is

-- Whatever the input, what the program is asked has a file (after a refusal that of the blank model, which is not printed), so that all of an
-- accepted request's file is printed.
abbrev Has : RequestReport → Type 0
Has r = has_file r.model r.bound ≡ true

either : (b : Bool) (x y : RequestReport) → Has x → Has y → Has (cond b x y)
either true x y f g = f
either false x y f g = g

formed_has : (m : Model) (k : ℕ) → T (well_formed m) → k ≤ 64 → has_file m k ≡ true
formed_has m k f h = rw ((T_true (well_formed m)).0 f, le-leb k 64 h)

refused_has : (n l : ℕ) → Has (request_refused n l)
refused_has n l = formed_has blank_model 0 blank_formed (omega arith)

text_has : (r : ReadReport) (k : ℕ) → T (well_formed r.model) → Has (text_request r k)
unfolding if_read
text_has r k f = either (eqb r.number 0) _ _ (go (ltb 64 k) refl) (refused_has r.number r.line)
  where
    go : (b : Bool) → ltb 64 k ≡ b → Has (cond b (request_refused 21 0) (requested k r.model))
    go true e = refused_has 21 0
    go false e = formed_has r.model k f (ltb-false 64 k e)

pub asked_has_file : (t : List ℕ) → has_file (request_report t).model (request_report t).bound ≡ true
unfolding request_report
asked_has_file t =
    let b = bound_report t in
    either (eqb b.number 0) _ _ (text_has (read_report (drop b.next t)) b.bound (answer_formed (drop b.next t))) (refused_has b.number 0)

pub asked_printed : (t : List ℕ) → printed (request_report t).model (request_report t).bound ≡ file (request_report t).model (request_report t).bound
asked_printed t = printed_is (request_report t).model (request_report t).bound (asked_has_file t)

-- A longer input than the program's buffer asks what its part in the buffer asks.
pub cutting : (n : ℕ) (t : List ℕ) → 8202 < n → request_report (take n t) ≡ request_report t
unfolding request_report
cutting n t enough = text.cutting (λ k r. text_request r k) (λ number. request_refused number 0) n t enough
