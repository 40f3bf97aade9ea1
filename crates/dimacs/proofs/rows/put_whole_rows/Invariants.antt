-- put_whole_rows: a row a turn; the words of the row before are there.
use Rattle.std.proofs.Common.{◌≡◌, ◌-◌, ◌≤◌, length}
use Rattle.model.specs.Indexed.{each}
use Rattle.buffer.specs.Buffers.{Wrote}
use Rattle.emission.specs.Cut.{row_of, base_bound, base_row}
use Rattle.dimacs.specs.File.{lines_of}
use Rattle.dimacs.specs.Rows.{Holds}
use Rattle.dimacs.specs.Texts.{entry_count}
use Rattle.dimacs.proofs.rows.put_whole_rows.Given as goal

abbrev pub invariant-loop-row : goal.invariant-loop-row
invariant-loop-row l =
    Wrote (each l.row (λ r. lines_of (row_of l.layout.model l.bound r))) l.initial.out l.out l.at l.end
    × (length l.texts ≡ entry_count)
    × (1 ≤ l.row → Holds (row_of l.layout.model (base_bound l.bound (l.row - 1)) (base_row (l.row - 1))) l.words l.held)
