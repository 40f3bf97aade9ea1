-- bytes_needed: what fits for certain, or what is counted.
use Rattle.dimacs.proofs.FileLaws.{certain, counted}
use Rattle.dimacs.proofs.bytes_needed.Goals as goal

pub returns-then-n-room : goal.returns-then-n-room
returns-then-n-room c =
    let pre = c.requires in
    let a = c.args in
    let l = a.layout.now in
    (certain l.model a.bound a.room l.formed pre.2 a.n pre.0 c.if-n-room.true, pre.3)

pub returns : goal.returns
returns c =
    let a = c.args in
    let bytes = c.file_bytes.ensures in
    (counted a.layout.now.model a.bound a.room bytes.0, bytes.1)
