-- `put_number`: a number from 100 on is its hundreds, which fall, and two digits more.
use native.Mathlib.Omega.{arith}
use Rattle.buffer.proofs.BufferLaws.{wrote_then, wrote_as, room_first, room_then, room_as}
use Rattle.decimal.proofs.DecimalLaws.{digits_hundreds}
use Rattle.decimal.proofs.+put_number.Goals as goal

pub put_below_ten_thousand-hundreds-requires : goal.put_below_ten_thousand-hundreds-requires
put_below_ten_thousand-hundreds-requires t c =
    (omega arith, room_first _ (room_as (digits_hundreds c.args.n (omega arith)) c.requires))

pub put_two-requires : goal.put_two-requires
put_two-requires t c =
    (omega arith, room_then c.put_below_ten_thousand-hundreds.ensures (room_as (digits_hundreds c.args.n (omega arith)) c.requires))

pub returns-then-n-lt1000000 : goal.returns-then-n-lt1000000
returns-then-n-lt1000000 t c =
    let n = c.args.n in
    wrote_as (digits_hundreds n (omega arith)) (wrote_then c.put_below_ten_thousand-hundreds.ensures c.put_two.ensures)

pub put_number-hundreds-requires : goal.put_number-hundreds-requires
put_number-hundreds-requires t c =
    (omega arith, room_first _ (room_as (digits_hundreds c.args.n (omega arith)) c.requires))

pub put_two-requires-2 : goal.put_two-requires-2
put_two-requires-2 t c =
    (omega arith, room_then c.put_number-hundreds.ensures (room_as (digits_hundreds c.args.n (omega arith)) c.requires))

pub returns : goal.returns
returns t c =
    let n = c.args.n in
    wrote_as (digits_hundreds n (omega arith)) (wrote_then c.put_number-hundreds.ensures c.put_two-2.ensures)
