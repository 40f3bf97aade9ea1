-- The part of a counter's update, case by case: a row of Keep, Set, Forbid or Shift.
use Rattle.std.proofs.Common.{rules, ◌≡◌, w8, to_z, of_z}
use Rattle.emission.proofs.PartRows.{keep_row, set_row, forbid_row, sum_row}
use Rattle.emission.proofs.ClauseLaws.{wrote_as, room_as}
use Rattle.emission.proofs.edge.put_update.Goals as goal

pub put_row-requires : goal.put_row-requires
put_row-requires c =
    let a = c.args in
    let r = keep_row a.b.now a.x a.o a.order a.i c.group-group.ensures c.requires.2 c.in-Keep.is in
    (c.requires.0, r.size_le, r.before_in, r.after_in, room_as r.is c.requires.3)

pub put_row-requires-then-n-greatest : goal.put_row-requires-then-n-greatest
put_row-requires-then-n-greatest c =
    let a = c.args in
    let r = set_row a.b.now a.x a.o a.order a.i c.group-group.ensures c.requires.2 _ c.in-Constant.is c.if-n-greatest.true in
    (c.requires.0, r.size_le, r.before_in, r.after_in, room_as r.is c.requires.3)

pub put_row-requires-else-n-greatest : goal.put_row-requires-else-n-greatest
put_row-requires-else-n-greatest c =
    let a = c.args in
    let r = forbid_row a.b.now a.x a.o a.order a.i c.group-group.ensures c.requires.2 _ c.in-Constant.is c.if-n-greatest.false in
    (c.requires.0, r.size_le, r.before_in, r.after_in, room_as r.is c.requires.3)

pub put_row-requires-in-Sum : goal.put_row-requires-in-Sum
put_row-requires-in-Sum c =
    let a = c.args in
    let back : to_z w8 (of_z w8 c.in-Sum.offset) ≡ c.in-Sum.offset = search rules in
    let r = sum_row a.b.now a.x a.o a.order a.i c.group-group.ensures c.requires.2 _ _ back c.in-Sum.is c.read_at-from.ensures c.group-read.ensures in
    (c.requires.0, r.size_le, r.before_in, r.after_in, room_as r.is c.requires.3)

pub returns-in-Keep : goal.returns-in-Keep
returns-in-Keep c =
    let a = c.args in
    let r = keep_row a.b.now a.x a.o a.order a.i c.group-group.ensures c.requires.2 c.in-Keep.is in
    wrote_as r.is c.put_row.ensures

pub returns-then-n-greatest : goal.returns-then-n-greatest
returns-then-n-greatest c =
    let a = c.args in
    let r = set_row a.b.now a.x a.o a.order a.i c.group-group.ensures c.requires.2 _ c.in-Constant.is c.if-n-greatest.true in
    wrote_as r.is c.put_row-then-n-greatest.ensures

pub returns-else-n-greatest : goal.returns-else-n-greatest
returns-else-n-greatest c =
    let a = c.args in
    let r = forbid_row a.b.now a.x a.o a.order a.i c.group-group.ensures c.requires.2 _ c.in-Constant.is c.if-n-greatest.false in
    wrote_as r.is c.put_row-else-n-greatest.ensures

pub returns-in-Sum : goal.returns-in-Sum
returns-in-Sum c =
    let a = c.args in
    let back : to_z w8 (of_z w8 c.in-Sum.offset) ≡ c.in-Sum.offset = search rules in
    let r = sum_row a.b.now a.x a.o a.order a.i c.group-group.ensures c.requires.2 _ _ back c.in-Sum.is c.read_at-from.ensures c.group-read.ensures in
    wrote_as r.is c.put_row-in-Sum.ensures
