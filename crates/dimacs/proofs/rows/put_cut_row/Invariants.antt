-- put_cut_row: a piece a turn, each from where the one before ended.
use Rattle.model.specs.Indexed.{each}
use Rattle.buffer.specs.Buffers.{Wrote}
use Rattle.emission.specs.Cut.{piece_of}
use Rattle.dimacs.specs.File.{lines_of}
use Rattle.dimacs.proofs.rows.put_cut_row.Given as goal

abbrev pub invariant-loop-p : goal.invariant-loop-p
invariant-loop-p l =
    Wrote (each l.p (λ i. lines_of (piece_of l.layout.model l.bound l.row i))) l.initial.out l.out l.at l.end
