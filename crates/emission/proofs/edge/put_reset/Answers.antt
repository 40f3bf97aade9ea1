-- The part of a clock's update, case by case: a row of Keep from the clock itself or from the one copied, or one clause.
use Rattle.emission.proofs.PartRows.{unchanged_row, reset_row, copy_row}
use Rattle.emission.proofs.ClauseLaws.{wrote_as, room_as}
use Rattle.emission.proofs.edge.put_reset.Goals as goal

pub put_row-requires : goal.put_row-requires
put_row-requires c =
    let a = c.args in
    let r = unchanged_row a.b.now a.x a.o a.i c.group-group.ensures c.requires.3 c.in-Unchanged.is in
    (c.requires.0, r.size_le, r.before_in, r.after_in, room_as r.is c.requires.4)

pub put_row-requires-in-Reset : goal.put_row-requires-in-Reset
put_row-requires-in-Reset c =
    let a = c.args in
    let r = reset_row a.b.now a.x a.o a.i c.group-group.ensures c.requires.3 c.in-Reset.is in
    (c.requires.0, r.size_le, r.before_in, r.after_in, room_as r.is c.requires.4)

pub put_row-requires-in-Copy : goal.put_row-requires-in-Copy
put_row-requires-in-Copy c =
    let a = c.args in
    let r = copy_row a.b.now a.x a.o a.i c.group-group.ensures c.requires.3 _ c.in-Copy.is c.group-read.ensures in
    (c.requires.0, r.size_le, r.before_in, r.after_in, room_as r.is c.requires.4)

pub returns-in-Unchanged : goal.returns-in-Unchanged
returns-in-Unchanged c =
    let a = c.args in
    let r = unchanged_row a.b.now a.x a.o a.i c.group-group.ensures c.requires.3 c.in-Unchanged.is in
    wrote_as r.is c.put_row.ensures

pub returns-in-Reset : goal.returns-in-Reset
returns-in-Reset c =
    let a = c.args in
    let r = reset_row a.b.now a.x a.o a.i c.group-group.ensures c.requires.3 c.in-Reset.is in
    wrote_as r.is c.put_row-in-Reset.ensures

pub returns-in-Copy : goal.returns-in-Copy
returns-in-Copy c =
    let a = c.args in
    let r = copy_row a.b.now a.x a.o a.i c.group-group.ensures c.requires.3 _ c.in-Copy.is c.group-read.ensures in
    wrote_as r.is c.put_row-in-Copy.ensures
