-- put_base_piece: the piece by the row of its kind at the first block.
use Rattle.std.proofs.Common.{arith, ◌≡◌, ◌∙◌}
use Rattle.emission.specs.Cut.{row_pieces, piece_of, base_bound, base_row}
use Rattle.emission.proofs.CutRaised.{base_pieces}
use Rattle.dimacs.proofs.BaseLaws.{base_bound_most, base_row_first, wrote_holds}
use Rattle.dimacs.proofs.rows.put_base_piece.Goals as goal

pub put_piece-requires : goal.put_piece-requires
put_piece-requires c =
    let a = c.args in
    let pre = c.requires in
    let m = a.layout.now.model in
    let reach = c.base_bound.ensures in
    let near = c.base_row.ensures in
    let pieces : row_pieces m c.base_bound.result c.base_row.result ≡ row_pieces m a.bound a.row =
    (λ i. row_pieces m (reach i) (near i)) ∙ base_pieces m a.bound a.row in
    (omega (arith, reach, base_bound_most a.bound a.row), omega (arith, near, base_row_first a.row), omega (arith, pre.1, pieces), omega arith)

pub returns : goal.returns
returns c =
    let a = c.args in
    let w = rw (c.base_bound.ensures, c.base_row.ensures) at c.put_piece.ensures in
    wrote_holds (piece_of a.layout.now.model (base_bound a.bound a.row) (base_row a.row) a.p) w
