-- `put_first_line`: the line, part after part.
use native.Mathlib.Omega.{arith}
use Rattle.buffer.proofs.BufferLaws.{wrote_then, room_first, room_then}
use Rattle.dimacs.specs.File.{first_line}
use Rattle.dimacs.proofs.LineLaws.{first_line_long}
use Rattle.dimacs.proofs.lines.put_first_line.Goals as goal

pub put_bytes-start-requires : goal.put_bytes-start-requires
unfolding first_line
put_bytes-start-requires c =
    record { room = omega (arith, first_line_long c.args.variables c.args.clauses, c.requires.room) }

pub put_number-first-requires : goal.put_number-first-requires
unfolding first_line
put_number-first-requires c =
    room_then c.put_bytes-start.ensures (room_first _ (room_first _ (room_first _ c.requires)))

pub put_byte-middle-requires : goal.put_byte-middle-requires
unfolding first_line
put_byte-middle-requires c =
    let pre = c.requires in
    room_then (wrote_then c.put_bytes-start.ensures c.put_number-first.ensures) (room_first _ (room_first _ pre))

pub put_number-second-requires : goal.put_number-second-requires
unfolding first_line
put_number-second-requires c =
    let pre = c.requires in
    room_then (wrote_then (wrote_then c.put_bytes-start.ensures c.put_number-first.ensures) c.put_byte-middle.ensures) (room_first _ pre)

pub put_byte-requires : goal.put_byte-requires
unfolding first_line
put_byte-requires c =
    let front = wrote_then (wrote_then c.put_bytes-start.ensures c.put_number-first.ensures) c.put_byte-middle.ensures in
    room_then (wrote_then front c.put_number-second.ensures) c.requires

pub returns : goal.returns
unfolding first_line
returns c =
    let front = wrote_then (wrote_then c.put_bytes-start.ensures c.put_number-first.ensures) c.put_byte-middle.ensures in
    wrote_then (wrote_then front c.put_number-second.ensures) c.put_byte.ensures
