-- The group of the table.
use Rattle.std.proofs.Common.{arith, sym, ap, ◌+◌}
use Rattle.parts.specs.declared.Group.{Group}
use Rattle.list.specs.Clauses.{group_clauses}
use Rattle.parts.proofs.KnownLaws.{known_in}
use Rattle.parts.proofs.LayoutLaws.{known_of_layout}
use Rattle.emission.proofs.ClauseLaws.{wrote_as, room_as}
use Rattle.emission.proofs.state.put_group_at.Goals as goal

pub overflow_add-start : goal.overflow_add-start
overflow_add-start c =
    let a = c.args in
    omega (arith, ap (λ (x : Group). x.first) c.group-group.ensures, known_in (known_of_layout a.layout.now) a.g c.requires.1)

pub put_group-requires : goal.put_group-requires
put_group-requires c =
    let a = c.args in
    let e = c.group-group.ensures in
    let clauses = λ (x : Group). group_clauses (a.o + x.first) x.size in (
      omega (arith, ap (λ (x : Group). x.first) e, ap (λ (x : Group). x.size) e, known_in (known_of_layout a.layout.now) a.g c.requires.1),
      room_as (ap clauses (sym e)) c.requires.2,
    )

pub returns : goal.returns
returns c =
    let clauses = λ (x : Group). group_clauses (c.args.o + x.first) x.size in
    wrote_as (ap clauses (sym c.group-group.ensures)) c.put_group.ensures
