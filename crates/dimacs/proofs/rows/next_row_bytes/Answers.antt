-- next_row_bytes: a row that repeats the one before is as long.
use Rattle.std.proofs.Common.{arith, sym, ◌∙◌}
use Rattle.dimacs.proofs.BaseLaws.{repeats_long, repeats_follows}
use Rattle.dimacs.proofs.rows.next_row_bytes.Goals as goal

pub returns-then-repeats_row : goal.returns-then-repeats_row
returns-then-repeats_row c =
    let a = c.args in
    let pre = c.requires in
    let l = a.layout.now in
    let e = sym c.repeats_row.ensures ∙ c.if-repeats_row.true in
    let long = repeats_long l.model l.formed a.bound a.row e in
    (pre.4 (omega (arith, (repeats_follows l.model a.bound a.row e).0)) ∙ sym long, pre.3)
