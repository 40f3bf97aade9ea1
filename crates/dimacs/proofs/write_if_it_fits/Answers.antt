-- write_if_it_fits: 32, or the file.
use Rattle.std.proofs.Common.{arith}
use Rattle.dimacs.proofs.FileLaws.{refused_32, has_room, accepted}
use Rattle.model.proofs.IndexedLaws.{T_true}
use Rattle.dimacs.proofs.write_if_it_fits.Goals as goal

pub bytes_needed-needed-requires : goal.bytes_needed-needed-requires
bytes_needed-needed-requires c = (c.list_counts-n.ensures, c.list_counts-one.ensures, c.requires, omega arith)

pub returns-then-out-needed : goal.returns-then-out-needed
returns-then-out-needed c =
    let a = c.args in
    let l = a.layout.now in
    let needed = c.bytes_needed-needed in
    let x = refused_32 l.model a.bound a.out.now ((T_true _).0 l.formed) c.requires needed.result needed.ensures.0 c.if-out-needed.true in
    record { result_value = x.report; out_after = x.left }

pub put_file-requires : goal.put_file-requires
put_file-requires c =
    let a = c.args in
    let l = a.layout.now in
    let needed = c.bytes_needed-needed in
    let room = has_room l.model a.bound a.out.now ((T_true _).0 l.formed) c.requires needed.result needed.ensures.0 c.if-out-needed.false in
    (c.list_counts-n.ensures, c.list_counts-one.ensures, c.requires, needed.ensures.1, room)

pub returns : goal.returns
returns c =
    let a = c.args in
    let l = a.layout.now in
    let needed = c.bytes_needed-needed in
    let x = accepted l.model a.bound a.out.now ((T_true _).0 l.formed) c.requires needed.result needed.ensures.0 c.if-out-needed.false c.put_file.ensures in
    record { result_value = x.report; out_after = x.left }
