-- fill_row: the numbers of a row have five digits at most.
use Rattle.std.proofs.Common.{arith, ◌-◌}
use Rattle.dimacs.proofs.BaseLaws.{near_most, near_small}
use Rattle.dimacs.proofs.rows.fill_row.Goals as goal

pub fill_texts-requires : goal.fill_texts-requires
fill_texts-requires c =
    let l = c.args.layout.now in
    let w = c.row_width.ensures in
    let small = near_small l.model l.formed (c.args.row - 1) (omega (arith, c.requires.0)) in
    (c.requires.1, omega (arith, w, near_most l.model l.formed), omega (arith, w, c.row_start.ensures, small))

pub returns : goal.returns
returns c =
    rw (c.row_start.ensures, c.row_width.ensures) at c.fill_texts.ensures
