-- row_width: a state after the first block.
use Rattle.std.proofs.Common.{arith}
use Rattle.model.proofs.FormLaws.{formed, state_size_le}
use Rattle.list.proofs.OneHot.{variables_are_lem}
use Rattle.parts.proofs.LayoutLaws.{state_of_layout, totals_of_layout}
use Rattle.parts.proofs.NumberingLaws.{block_most, width_is}
use Rattle.dimacs.proofs.rows.row_width.Goals as goal

pub overflow_add-result : goal.overflow_add-result
overflow_add-result c =
    let l = c.args.layout.now in
    let ok = formed l.model l.formed in
    omega (arith, c.block_start.ensures, block_most l.model ok 1 (omega arith), state_of_layout l, state_size_le l.model ok)

pub returns : goal.returns
returns c =
    let l = c.args.layout.now in
    omega (arith, c.block_start.ensures, variables_are_lem l.model 1, width_is l.model l.totals (totals_of_layout l))
