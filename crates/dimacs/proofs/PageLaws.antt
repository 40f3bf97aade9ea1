-- The pages, row after row, are the file, and none is longer than its buffer.
use mathlib.Core.Path.{◌≡◌, refl, sym, ap, ap₂, ◌∙◌}
use mathlib.Core.List.{List, ◌++◌}
use Prim.Native.Nat.{ℕ, zero, suc, ◌+◌, ◌-◌, ◌≤◌, ◌<◌, ◌^◌}
use native.Mathlib.Omega.{arith}
use lib.Dec.{T}
use lib.IntN.{ℤ, nat_abs}
use lib.ListN.{length}
use borrow.Author.Tests.{eq-eqb, ne_eqb}
use Rattle.model.specs.declared.Model.{Model}
use Rattle.model.specs.Indexed.{each}
use Rattle.model.specs.Automaton.{variables}
use Rattle.model.specs.Form.{well_formed}
use Rattle.model.proofs.FormLaws.{formed, variables_le}
use Rattle.list.specs.Lists.{All}
use Rattle.list.specs.Clauses.{Clause, clauses, words_of}
use Rattle.list.proofs.ListLaws.{each_cong, each_cons, all_imp}
use Rattle.counts.specs.declared.ListCounts.{ListCounts}
use Rattle.counts.specs.KnownCounts.{KnownCounts}
use Rattle.counts.proofs.PieceBounds.{list_clauses_most}
use Rattle.emission.specs.Cut.{row_pieces, piece_of}
use Rattle.emission.proofs.CutLaws.{cut_joined, row_pieces_most, piece_words_most, piece_inside}
use Rattle.parts.specs.Numbering.{most_variables}
use Rattle.dimacs.specs.File.{lines_of, first_line, file}
use Rattle.dimacs.specs.Pages.{most_page_bytes, most_pages, row_count, pages_in, page_of}
use Rattle.dimacs.proofs.LineLaws.{lines_each, lines_short, first_line_most}

module _ (m : Model) (k : ℕ) where
  -- ---- a row and a page by its row's number
  pub pages_first : (r : ℕ) → r ≡ 0 → pages_in m k r ≡ 1
  unfolding pages_in
  pages_first r e = rw (eq-eqb r 0 e)

  pub pages_later : (r : ℕ) → (r ≡ 0 → ⊥) → pages_in m k r ≡ row_pieces m k (r - 1)
  unfolding pages_in
  pages_later r e = rw (ne_eqb r 0 e)

  pub page_first : (r p : ℕ) → r ≡ 0 → page_of m k r p ≡ first_line (variables m k) (length (clauses m k))
  unfolding page_of
  page_first r p e = rw (eq-eqb r 0 e)

  pub page_later : (r p : ℕ) → (r ≡ 0 → ⊥) → page_of m k r p ≡ lines_of (piece_of m k (r - 1) p)
  unfolding page_of
  page_later r p e = rw (ne_eqb r 0 e)

  -- ---- the pages of all rows
  abbrev row : ℕ → List ℕ
  row r = each (pages_in m k r) (page_of m k r)

  abbrev pieces : ℕ → List Clause
  pieces r = each (row_pieces m k r) (piece_of m k r)

  first_row : row 0 ≡ first_line (variables m k) (length (clauses m k))
  unfolding each pages_in page_of
  first_row = refl

  abbrev never : (r : ℕ) → suc r ≡ 0 → ⊥
  never r e = omega (arith, e)

  abbrev back : (r : ℕ) → suc r - 1 ≡ r
  back r = omega arith

  pages_suc : (r : ℕ) → pages_in m k (suc r) ≡ row_pieces m k r
  pages_suc r = pages_later (suc r) (never r) ∙ ap (row_pieces m k) (back r)

  page_suc : (r p : ℕ) → page_of m k (suc r) p ≡ lines_of (piece_of m k r p)
  page_suc r p = page_later (suc r) p (never r) ∙ ap (λ (i : ℕ). lines_of (piece_of m k i p)) (back r)

  later_row : (r : ℕ) → row (suc r) ≡ lines_of (pieces r)
  later_row r =
      ap (λ (n : ℕ). each n (page_of m k (suc r))) (pages_suc r)
      ∙ each_cong (row_pieces m k r) (page_of m k (suc r)) (λ p. lines_of (piece_of m k r p)) (λ p l. page_suc r p)
      ∙ sym (lines_each (row_pieces m k r) (piece_of m k r))

  pub pages_joined : each (row_count k) row ≡ file m k
  unfolding file
  pages_joined =
      let n : row_count k ≡ suc (k + 2) = omega arith in
      let rest : each (k + 2) (λ r. row (suc r)) ≡ lines_of (clauses m k) =
      each_cong (k + 2) (λ r. row (suc r)) (λ r. lines_of (pieces r)) (λ r l. later_row r)
      ∙ sym (lines_each (k + 2) pieces) ∙ ap lines_of (sym (cut_joined m k)) in
      ap (λ (i : ℕ). each i row) n ∙ each_cons (k + 2) row ∙ ap₂ (λ (x y : List ℕ). x ++ y) first_row rest

-- ---- how long a page is
pub less_than : (ws : List ℤ) → All (λ w. nat_abs w ≤ most_variables) ws → All (λ w. nat_abs w < 100000) ws
less_than ws h = all_imp ws (λ w l. omega arith) h

module _ (m : Model) (ok : T (well_formed m)) (k : ℕ) (h : k ≤ 64) where
  first_most : length (first_line (variables m k) (length (clauses m k))) ≤ most_page_bytes
  first_most =
      let v : variables m k < 2 ^ 64 = omega (arith, variables_le m (formed m ok) k h) in
      let c : length (clauses m k) < 2 ^ 64 = omega (arith, list_clauses_most m ok k h) in
      omega (arith, first_line_most (variables m k) (length (clauses m k)) v c)

  pub pages_most : (r : ℕ) → pages_in m k r ≤ most_pages
  pages_most zero = omega (arith, pages_first m k 0 refl)
  pages_most (suc r) = omega (arith, pages_suc m k r, row_pieces_most m ok k r)

  -- no piece is longer than a page's buffer
  pub piece_most : (r p : ℕ) → r ≤ k + 1 → p < row_pieces m k r → length (lines_of (piece_of m k r p)) ≤ most_page_bytes
  piece_most r p l q =
      let words = words_of (piece_of m k r p) in
      let short = lines_short (piece_of m k r p) (less_than words (piece_inside m ok k r p h l q)) in
      omega (arith, short, piece_words_most m ok k r p q)

  -- nor is a page
  pub page_most : (r p : ℕ) → r < row_count k → p < pages_in m k r → length (page_of m k r p) ≤ most_page_bytes
  page_most zero p l q = rw (page_first m k 0 p refl) first_most
  page_most (suc r) p l q = rw (page_suc m k r p) (piece_most r p (omega arith) (omega (arith, pages_suc m k r)))

-- ---- the first page, by the counts
pub first_page : (m : Model) (k r p : ℕ) (n : ListCounts) → KnownCounts m k n → r ≡ 0 → first_line n.variables n.clauses ≡ page_of m k r p
first_page m k r p n known e = (λ i. first_line (known.variables i) (known.clauses i)) ∙ sym (page_first m k r p e)
