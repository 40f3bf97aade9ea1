-- The start, a step or the end, as the row's number says; the pieces of the row, joined, are what it writes.
use Rattle.std.proofs.Common.{arith}
use Rattle.emission.proofs.CutLaws.{end_joined}
use Rattle.emission.proofs.ListPieces.{start_row, step_row}
use Rattle.emission.proofs.ClauseLaws.{wrote_as, room_as}
use Rattle.emission.proofs.pieces.put_row.Goals as goal

pub put_start-requires : goal.put_start-requires
put_start-requires c =
    let a = c.args in
    let m = a.layout.now.model in
    room_as (start_row m a.bound a.row c.if-row-eq0.true) c.requires.2

pub returns-then-row-eq0 : goal.returns-then-row-eq0
returns-then-row-eq0 c =
    let a = c.args in
    let m = a.layout.now.model in
    wrote_as (start_row m a.bound a.row c.if-row-eq0.true) c.put_start.ensures

pub put_step-requires : goal.put_step-requires
put_step-requires c =
    let a = c.args in
    let m = a.layout.now.model in
    let whole = step_row m a.bound a.row c.if-row-eq0.false c.if-bound-row.false in
    (omega (arith, c.requires.0, c.if-row-eq0.false, c.if-bound-row.false), room_as whole c.requires.2)

pub returns-else-bound-row : goal.returns-else-bound-row
returns-else-bound-row c =
    let a = c.args in
    let m = a.layout.now.model in
    wrote_as (step_row m a.bound a.row c.if-row-eq0.false c.if-bound-row.false) c.put_step.ensures

pub put_end-requires : goal.put_end-requires
put_end-requires c =
    let a = c.args in
    let m = a.layout.now.model in
    (c.requires.0, room_as (end_joined m a.bound a.row c.if-bound-row.true) c.requires.2)

pub returns-then-bound-row : goal.returns-then-bound-row
returns-then-bound-row c =
    let a = c.args in
    let m = a.layout.now.model in
    wrote_as (end_joined m a.bound a.row c.if-bound-row.true) c.put_end.ensures
