-- By the test, a row of the rule Keep or of the rule Rise.
use Rattle.emission.proofs.PartRows.{stays_row, rises_row}
use Rattle.emission.proofs.ClauseLaws.{wrote_as, room_as}
use Rattle.emission.proofs.delay.put_delay_group.Goals as goal

pub put_row-requires : goal.put_row-requires
put_row-requires c =
    let a = c.args in
    let r = stays_row a.b.now a.x a.o a.d a.g c.group-group.ensures c.requires.3 c.if-g-b.true in
    (c.requires.0, r.size_le, r.before_in, r.after_in, room_as r.is c.requires.4)

pub returns-then-g-b : goal.returns-then-g-b
returns-then-g-b c =
    let a = c.args in
    let r = stays_row a.b.now a.x a.o a.d a.g c.group-group.ensures c.requires.3 c.if-g-b.true in
    wrote_as r.is c.put_row.ensures

pub put_row-requires-2 : goal.put_row-requires-2
put_row-requires-2 c =
    let a = c.args in
    let r = rises_row a.b.now a.x a.o a.d a.g c.group-group.ensures c.requires.3 c.if-g-b.false in
    (c.requires.0, r.size_le, r.before_in, r.after_in, room_as r.is c.requires.4)

pub returns : goal.returns
returns c =
    let a = c.args in
    let r = rises_row a.b.now a.x a.o a.d a.g c.group-group.ensures c.requires.3 c.if-g-b.false in
    wrote_as r.is c.put_row-2.ensures
