-- `put_below_ten_thousand`: a number from 100 on is its hundreds and two digits more.
use native.Mathlib.Omega.{arith}
use Rattle.buffer.proofs.BufferLaws.{wrote_then, wrote_as, room_first, room_then, room_as}
use Rattle.decimal.proofs.DecimalLaws.{digits_hundreds}
use Rattle.decimal.proofs.put_below_ten_thousand.Goals as goal

pub put_below_hundred-hundreds-requires : goal.put_below_hundred-hundreds-requires
put_below_hundred-hundreds-requires c =
    (omega arith, room_first _ (room_as (digits_hundreds c.args.n (omega arith)) c.requires.1))

pub put_two-requires : goal.put_two-requires
put_two-requires c =
    (omega arith, room_then c.put_below_hundred-hundreds.ensures (room_as (digits_hundreds c.args.n (omega arith)) c.requires.1))

pub returns : goal.returns
returns c =
    let n = c.args.n in
    wrote_as (digits_hundreds n (omega arith)) (wrote_then c.put_below_hundred-hundreds.ensures c.put_two.ensures)
