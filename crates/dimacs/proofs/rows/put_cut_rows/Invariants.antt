-- put_cut_rows: a row a turn, each from where the one before ended.
use Rattle.std.proofs.Common.{◌≡◌, length}
use Rattle.model.specs.Indexed.{each}
use Rattle.buffer.specs.Buffers.{Wrote}
use Rattle.emission.specs.Cut.{row_of}
use Rattle.dimacs.specs.File.{lines_of}
use Rattle.dimacs.specs.Texts.{entry_count}
use Rattle.dimacs.proofs.rows.put_cut_rows.Given as goal

abbrev pub invariant-loop-row : goal.invariant-loop-row
invariant-loop-row l =
    Wrote (each l.row (λ r. lines_of (row_of l.layout.model l.bound r))) l.initial.out l.out l.at l.end
    × (length l.texts ≡ entry_count)
