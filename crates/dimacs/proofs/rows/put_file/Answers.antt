-- put_file: the first line, then the rows.
use Rattle.std.proofs.Common.{arith}
use Rattle.list.specs.Clauses.{clauses}
use Rattle.buffer.proofs.BufferLaws.{wrote_as, wrote_then, room_as, room_first, room_then}
use Rattle.dimacs.specs.File.{lines_of}
use Rattle.dimacs.specs.Rows.{FewWords}
use Rattle.dimacs.proofs.FileLaws.{file_parts}
use Rattle.dimacs.proofs.rows.put_file.Goals as goal

pub put_first_line-start-requires : goal.put_first_line-start-requires
put_first_line-start-requires c =
    let pre = c.requires in
    let m = c.args.layout.now.model in
    room_first (lines_of (clauses m c.args.bound)) (room_as (file_parts m c.args.bound c.args.n pre.0) pre.4)

pub put_whole_rows-requires : goal.put_whole_rows-requires
put_whole_rows-requires c =
    let pre = c.requires in
    let m = c.args.layout.now.model in
    let few : FewWords m = omega (arith, pre.1.words, c.if-one-le-WORDS.true) in
    let rest = room_then c.put_first_line-start.ensures (room_as (file_parts m c.args.bound c.args.n pre.0) pre.4) in
    (pre.2, few, pre.3, rest)

pub returns-then-one-le-WORDS : goal.returns-then-one-le-WORDS
returns-then-one-le-WORDS c =
    let both = wrote_then c.put_first_line-start.ensures c.put_whole_rows.ensures in
    wrote_as (file_parts c.args.layout.now.model c.args.bound c.args.n c.requires.0) both

pub put_cut_rows-requires : goal.put_cut_rows-requires
put_cut_rows-requires c =
    let pre = c.requires in
    let rest = room_then c.put_first_line-start.ensures (room_as (file_parts c.args.layout.now.model c.args.bound c.args.n pre.0) pre.4) in
    (pre.2, pre.3, rest)

pub returns : goal.returns
returns c =
    let both = wrote_then c.put_first_line-start.ensures c.put_cut_rows.ensures in
    wrote_as (file_parts c.args.layout.now.model c.args.bound c.args.n c.requires.0) both
