-- What the program prints: nothing where there is no file, else the file, page by page.
use mathlib.Core.Path.{◌≡◌, refl, ap, ◌∙◌}
use mathlib.Core.Bool.{Bool, true, false, cond, ◌&&◌}
use mathlib.Core.List.{List, []}
use Prim.Native.Nat.{ℕ, ◌≤◌, ◌<◌}
use native.Mathlib.Omega.{arith}
use lib.Dec.{T, ltb, leb}
use lib.ListN.{length}
use borrow.Author.Tests.{lt-ltb, le-ltb, le-leb, lt-leb, leb-true}
use Rattle.std.specs.Prelude.{is_ok}
use Rattle.std.proofs.lemmas.Grind.{common_steps}
use Rattle.form.specs.BoundCheck.{bound_checked}
use Rattle.model.specs.declared.Model.{Model}
use Rattle.model.specs.Indexed.{each}
use Rattle.model.specs.Form.{well_formed}
use Rattle.model.proofs.IndexedLaws.{T_true}
use Rattle.list.proofs.ListLaws.{each_cong}
use Rattle.dimacs.specs.File.{file}
use Rattle.buffer.specs.Buffers.{Room, Wrote}
use Rattle.dimacs.specs.Written.{Printed}
use Rattle.dimacs.specs.Pages.{most_page_bytes, row_count, pages_in, page_of, has_file, rows_to_print, pages_to_print, page_text, printed}
use Rattle.dimacs.proofs.PageLaws.{pages_joined}

module _ (m : Model) (k : ℕ) where
  -- ---- whether there is a file
  pub has_is : is_ok (bound_checked m k) ≡ has_file m k
  unfolding bound_checked
  has_is = grind (arith, common_steps)

  pub file_formed : has_file m k ≡ true → T (well_formed m)
  file_formed e = go (well_formed m) e
    where
      go : (b : Bool) → b && leb k 64 ≡ true → T b
      go true h = tt
      go false h = (T_true _).1 h

  pub file_small : has_file m k ≡ true → k ≤ 64
  file_small e = go (well_formed m) e
    where
      go : (b : Bool) → b && leb k 64 ≡ true → k ≤ 64
      go true h = leb-true k 64 h
      go false h = absurd ((T_true false).1 h)

  -- ---- how much there is to print
  pub rows_none : has_file m k ≡ false → rows_to_print m k ≡ 0
  unfolding rows_to_print
  rows_none e = rw e

  pub rows_are : has_file m k ≡ true → rows_to_print m k ≡ row_count k
  unfolding rows_to_print
  rows_are e = rw e

  pub pages_none : (r : ℕ) → has_file m k ≡ false → pages_to_print m k r ≡ 0
  unfolding pages_to_print
  pages_none r e = rw e

  pub pages_are : (r : ℕ) → has_file m k ≡ true → pages_to_print m k r ≡ pages_in m k r
  unfolding pages_to_print
  pages_are r e = rw e

  -- where there is a row to print there is a file
  pub row_of_file : (r : ℕ) → r < rows_to_print m k → has_file m k ≡ true
  row_of_file r h = go (has_file m k) refl
    where
      go : (b : Bool) → has_file m k ≡ b → has_file m k ≡ true
      go true e = e
      go false e = absurd (omega (arith, rows_none e, h))

  -- ---- a page
  module _ (r p room : ℕ) where
    abbrev page_if : Bool → Bool → Bool → List ℕ
    page_if x y z = cond (x && y && z) (page_of m k r p) []

    pub no_row : rows_to_print m k ≤ r → page_text m k r p room ≡ []
    unfolding page_text
    no_row h = ap (λ (x : Bool). page_if x (ltb p (pages_to_print m k r)) (leb most_page_bytes room)) (le-ltb r (rows_to_print m k) h)

    pub no_page : r < rows_to_print m k → pages_to_print m k r ≤ p → page_text m k r p room ≡ []
    unfolding page_text
    no_page h l = λ i. page_if (lt-ltb r (rows_to_print m k) h i) (le-ltb p (pages_to_print m k r) l i) (leb most_page_bytes room)

    pub no_room : r < rows_to_print m k → p < pages_to_print m k r → room < most_page_bytes → page_text m k r p room ≡ []
    unfolding page_text
    no_room h l s = λ i. page_if (lt-ltb r (rows_to_print m k) h i) (lt-ltb p (pages_to_print m k r) l i) (lt-leb most_page_bytes room s i)

    pub some_page : r < rows_to_print m k → p < pages_to_print m k r → most_page_bytes ≤ room → page_text m k r p room ≡ page_of m k r p
    unfolding page_text
    some_page h l s = λ i. page_if (lt-ltb r (rows_to_print m k) h i) (lt-ltb p (pages_to_print m k r) l i) (le-leb most_page_bytes room s i)

  -- ---- all that is printed is the file
  pub printed_is : has_file m k ≡ true → printed m k ≡ file m k
  unfolding printed
  printed_is e =
      each_cong (rows_to_print m k) (λ r. each (pages_to_print m k r) (λ p. page_text m k r p most_page_bytes))
      (λ r. each (pages_to_print m k r) (page_of m k r))
      (λ r h. each_cong (pages_to_print m k r) (λ p. page_text m k r p most_page_bytes) (page_of m k r)
      (λ p l. some_page r p most_page_bytes h l (omega arith)))
      ∙ each_cong (rows_to_print m k) (λ r. each (pages_to_print m k r) (page_of m k r)) (λ r. each (pages_in m k r) (page_of m k r))
      (λ r h. ap (λ (n : ℕ). each n (page_of m k r)) (pages_are r e))
      ∙ ap (λ (n : ℕ). each n (λ r. each (pages_in m k r) (page_of m k r))) (rows_are e)
      ∙ pages_joined m k

-- ---- what is left of a page
pub printed_none : {text : List ℕ} (l : List ℕ) → text ≡ [] → Printed text l l 0
printed_none l e = rw e (record { bytes = refl; fits = omega arith; left = refl })

pub printed_as : {p q old new : List ℕ} {n : ℕ} → p ≡ q → Printed q old new n → Printed p old new n
printed_as h w = rw h w

pub page_room : {text old : List ℕ} → length text ≤ most_page_bytes → most_page_bytes ≤ length old → Room text old 0
page_room h l = record { room = omega arith }

pub page_printed : {text old new : List ℕ} {n : ℕ} → Wrote text old new 0 n → Printed text old new n
page_printed w = record { bytes = omega (arith, w.ends); fits = w.fits; left = w.list }
