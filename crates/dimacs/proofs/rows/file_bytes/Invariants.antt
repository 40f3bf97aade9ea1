-- file_bytes: the bytes of a row a turn, after those of the first line.
use Rattle.std.proofs.Common.{◌≡◌, ◌+◌, ◌-◌, ◌≤◌, length}
use Rattle.model.specs.Indexed.{each}
use Rattle.model.specs.Automaton.{variables}
use Rattle.list.specs.Clauses.{clauses}
use Rattle.emission.specs.Cut.{row_of}
use Rattle.dimacs.specs.File.{lines_of, first_line}
use Rattle.dimacs.specs.Texts.{entry_count}
use Rattle.dimacs.proofs.rows.file_bytes.Given as goal

abbrev pub invariant-loop-row : goal.invariant-loop-row
invariant-loop-row l =
    (l.bytes ≡ length (first_line (variables l.layout.model l.bound) (length (clauses l.layout.model l.bound)))
    + length (each l.row (λ r. lines_of (row_of l.layout.model l.bound r))))
    × (1 ≤ l.row → l.last ≡ length (lines_of (row_of l.layout.model l.bound (l.row - 1))))
    × (length l.texts ≡ entry_count)
