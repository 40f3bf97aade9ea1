-- One clause, by the target's number.
use Rattle.std.proofs.Common.{arith}
use Rattle.model.proofs.FormLaws.{formed}
use Rattle.parts.proofs.PartFits.{locations_in}
use Rattle.parts.proofs.LayoutLaws.{state_of_layout}
use Rattle.emission.proofs.ListPieces.{end_is, target_number}
use Rattle.emission.proofs.ClauseLaws.{wrote_as, room_as}
use Rattle.emission.proofs.put_end.Goals as goal

pub variable_number-target-requires : goal.variable_number-target-requires
variable_number-target-requires c =
    let l = c.args.layout.now in
    let f = formed l.model l.formed in
    (c.requires.0, omega (arith, f.target_ok, locations_in l.model f, state_of_layout l))

pub overflow_sub-target : goal.overflow_sub-target
overflow_sub-target c =
    let l = c.args.layout.now in
    (target_number l.model l.formed c.args.k _ c.requires.0 c.variable_number-target.ensures).0

pub put_unit-requires : goal.put_unit-requires
put_unit-requires c =
    let l = c.args.layout.now in
    let n = target_number l.model l.formed c.args.k _ c.requires.0 c.variable_number-target.ensures in
    (omega (arith, n.0, n.1), room_as (end_is l.model c.args.k _ c.variable_number-target.ensures) c.requires.1)

pub returns : goal.returns
returns c = wrote_as (end_is c.args.layout.now.model c.args.k _ c.variable_number-target.ensures) c.put_unit.ensures
