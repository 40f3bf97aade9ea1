-- put_cut_rows: a row a turn, each from where the one before ended.
use Rattle.std.proofs.Common.{arith, ◌≡◌, ◌+◌}
use Rattle.buffer.proofs.BufferLaws.{wrote_as, wrote_each, wrote_each_none, room_as, room_each}
use Rattle.emission.specs.Cut.{row_of}
use Rattle.dimacs.specs.File.{lines_of}
use Rattle.dimacs.proofs.BaseLaws.{rows_joined}
use Rattle.dimacs.proofs.rows.put_cut_rows.Goals as goal

pub loop-row-init : goal.loop-row-init
loop-row-init c = (wrote_each_none _ _ _ (omega (arith, c.requires.2.room)), c.requires.1)

pub fill_row-requires : goal.fill_row-requires
fill_row-requires c = (omega (arith, c.requires.0, c.loop-row-test.true), c.loop-row.invariant.1)

pub put_cut_row-end-requires : goal.put_cut_row-end-requires
put_cut_row-end-requires c =
    let pre = c.requires in
    let m = c.args.layout.now.model in
    let k = c.args.bound in
    let r = c.loop-row.row in
    let whole = room_as (rows_joined m k) pre.2 in
    let room = room_each (λ i. lines_of (row_of m k i)) r (k + 2) c.loop-row.invariant.0 c.loop-row-test.true whole in
    (pre.0, omega (arith, c.loop-row-test.true), c.fill_row.ensures, room)

pub loop-row-preserved : goal.loop-row-preserved
loop-row-preserved c =
    let wrote = wrote_each (λ i. lines_of (row_of c.args.layout.now.model c.args.bound i)) c.loop-row.row c.loop-row.invariant.0 c.put_cut_row-end.ensures in
    (wrote, c.fill_row.ensures.long)

pub returns : goal.returns
returns c =
    let k = c.args.bound in
    let done : c.loop-row.row ≡ k + 2 = omega (arith, c.loop-row-test.false) in
    wrote_as (rows_joined c.args.layout.now.model k) (rw done at c.loop-row.invariant.0)
