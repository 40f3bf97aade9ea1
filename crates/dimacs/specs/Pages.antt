-- The file in pages, as the program prints it: row 0 is the first line, row r + 1 is row r of the clause list; a page is a piece of a row.
use Rattle.std.specs.Prelude.{Bool, cond, ◌&&◌, List, [], ℕ, ◌+◌, ◌-◌, eqb, ltb, leb, length}
use Rattle.model.specs.declared.Model.{Model}
use Rattle.model.specs.Indexed.{each}
use Rattle.model.specs.Automaton.{variables}
use Rattle.model.specs.Form.{well_formed}
use Rattle.list.specs.Clauses.{clauses}
use Rattle.emission.specs.Cut.{row_pieces, piece_of}
use Rattle.dimacs.specs.File.{first_line, lines_of}

-- The buffer of a page; no page is longer.
abbrev pub most_page_bytes : ℕ
most_page_bytes = 65536

-- How many rows the file has: the first line; the start, each step and the end.
abbrev pub row_count : ℕ → ℕ
row_count k = k + 3

-- The most rows, for 64 steps; and the most pages of a row: the choice, 64 delays and edges, 9 groups and 16 invariants of a state.
abbrev pub most_rows : ℕ
most_rows = 67

abbrev pub most_pages : ℕ
most_pages = 90

-- How many pages row r has.
unfoldable pub pages_in : Model → ℕ → ℕ → ℕ
pages_in m k r = cond (eqb r 0) 1 (row_pieces m k (r - 1))

-- Page p of row r.
unfoldable pub page_of : Model → ℕ → ℕ → ℕ → List ℕ
page_of m k r p = cond (eqb r 0) (first_line (variables m k) (length (clauses m k))) (lines_of (piece_of m k (r - 1) p))

-- ---- what the program's calls answer, whatever they are asked
-- There is a file: the record is well formed and the bound is at most 64.
abbrev pub has_file : Model → ℕ → Bool
has_file m k = well_formed m && leb k 64

-- How many rows and pages there are to print.
unfoldable pub rows_to_print : Model → ℕ → ℕ
rows_to_print m k = cond (has_file m k) (row_count k) 0

unfoldable pub pages_to_print : Model → ℕ → ℕ → ℕ
pages_to_print m k r = cond (has_file m k) (pages_in m k r) 0

-- What is printed as page p of row r into a buffer of `room` bytes: the page, if there is one to print and the buffer takes every page.
unfoldable pub page_text : Model → ℕ → ℕ → ℕ → ℕ → List ℕ
page_text m k r p room = cond (ltb r (rows_to_print m k) && ltb p (pages_to_print m k r) && leb most_page_bytes room) (page_of m k r p) []

-- All that is printed: the pages of each row, row after row.
unfoldable pub printed : Model → ℕ → List ℕ
printed m k = each (rows_to_print m k) (λ r. each (pages_to_print m k r) (λ p. page_text m k r p most_page_bytes))
