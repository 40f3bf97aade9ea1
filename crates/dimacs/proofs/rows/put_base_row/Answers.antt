-- put_base_row: the row of its kind at the first block, which is short enough.
use Rattle.std.proofs.Common.{arith, ap, sym, length, List}
use Rattle.list.specs.Clauses.{Clause, words_of}
use Rattle.emission.specs.Cut.{row_of, base_bound, base_row}
use Rattle.emission.proofs.ClauseLaws.{wrote_as}
use Rattle.emission.proofs.CutRaised.{base_row_most}
use Rattle.dimacs.proofs.BaseLaws.{base_bound_most, base_row_first, one_row, wrote_holds}
use Rattle.dimacs.proofs.rows.put_base_row.Goals as goal

pub put_rows-requires : goal.put_rows-requires
put_rows-requires c =
    let a = c.args in
    let l = a.layout.now in
    let reach = c.base_bound.ensures in
    let near = c.base_row.ensures in
    let few = base_row_most l.model a.bound a.row l.formed c.requires.1 in
    let same = ap (λ (cs : List Clause). length (words_of cs)) (one_row l.model a.bound a.row reach near) in (
      omega (arith, reach, base_bound_most a.bound a.row),
      omega (arith, near, base_row_first a.row),
      record { words = record { room = omega (arith, few, same) } },
    )

pub returns : goal.returns
returns c =
    let a = c.args in
    let m = a.layout.now.model in
    let w = wrote_as (sym (one_row m a.bound a.row c.base_bound.ensures c.base_row.ensures)) c.put_rows.ensures in
    wrote_holds (row_of m (base_bound a.bound a.row) (base_row a.row)) w
