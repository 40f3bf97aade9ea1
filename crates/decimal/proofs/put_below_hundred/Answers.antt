-- `put_below_hundred`: a number below 10 has one digit, and any other below 100 has two.
use native.Mathlib.Omega.{arith}
use Rattle.buffer.proofs.BufferLaws.{wrote_as, room_as}
use Rattle.decimal.proofs.DecimalLaws.{digits_small, digits_two}
use Rattle.decimal.proofs.put_below_hundred.Goals as goal

pub put_byte-requires : goal.put_byte-requires
put_byte-requires c =
    room_as (digits_small c.args.n c.if-n-lt10.true) c.requires.1

pub returns-then-n-lt10 : goal.returns-then-n-lt10
returns-then-n-lt10 c =
    wrote_as (digits_small c.args.n c.if-n-lt10.true) c.put_byte.ensures

pub put_two-requires : goal.put_two-requires
put_two-requires c =
    (c.requires.0, room_as (digits_two c.args.n (omega arith) c.requires.0) c.requires.1)

pub returns : goal.returns
returns c =
    wrote_as (digits_two c.args.n (omega arith) c.requires.0) c.put_two.ensures
