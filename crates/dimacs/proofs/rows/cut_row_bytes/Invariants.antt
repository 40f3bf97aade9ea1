-- cut_row_bytes: the bytes of a piece a turn.
use Rattle.std.proofs.Common.{◌≡◌, ◌*◌, ◌≤◌, length}
use Rattle.model.specs.Indexed.{each}
use Rattle.emission.specs.Cut.{piece_of}
use Rattle.dimacs.specs.File.{lines_of}
use Rattle.dimacs.specs.Pages.{most_page_bytes}
use Rattle.dimacs.proofs.rows.cut_row_bytes.Given as goal

abbrev pub invariant-loop-piece : goal.invariant-loop-piece
invariant-loop-piece l =
    (l.bytes ≡ length (each l.piece (λ i. lines_of (piece_of l.layout.model l.bound l.row i))))
    × (l.bytes ≤ l.piece * most_page_bytes)
