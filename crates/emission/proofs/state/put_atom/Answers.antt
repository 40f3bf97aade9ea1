-- A blank slot writes nothing, any other a row of the rule Exclude.
use Rattle.std.proofs.Common.{arith}
use Rattle.emission.proofs.PartRows.{atom_none, atom_row}
use Rattle.emission.proofs.ClauseLaws.{wrote_none, wrote_as, room_as}
use Rattle.emission.proofs.state.put_atom.Goals as goal

pub put_row-requires : goal.put_row-requires
put_row-requires c =
    let a = c.args in
    let r = atom_row a.b.now a.x a.o a.atom _ c.in-Some.ensures c.group-read.ensures c.requires.2 in
    (c.requires.1, r.size_le, r.before_in, r.after_in, room_as r.is c.requires.3)

pub returns-in-None : goal.returns-in-None
returns-in-None c =
    let a = c.args in
    wrote_as (atom_none a.b.now a.x a.o a.atom c.in-None.ensures) (wrote_none _ _ (omega (arith, c.requires.3.words.room)))

pub returns-in-Some : goal.returns-in-Some
returns-in-Some c =
    let a = c.args in
    let r = atom_row a.b.now a.x a.o a.atom _ c.in-Some.ensures c.group-read.ensures c.requires.2 in
    wrote_as r.is c.put_row.ensures
