-- `edge`: a location of the two is at most 15 * 16 + 15, so it fits a byte.
use Rattle.std.proofs.Common.{arith}
use Rattle.compose.specs.Joined.{joined_edge}
use Rattle.compose.proofs.JoinedLaws.{parts_of, row_most}
use Rattle.compose.proofs.joined.Shift.edge.Goals as goal

pub atoms-requires : goal.atoms-requires
atoms-requires c = (parts_of c.args.f c.requires.1).guard_each

pub updates-requires : goal.updates-requires
updates-requires c = (parts_of c.args.f c.requires.1).updates_ok

pub order-requires : goal.order-requires
order-requires c = (parts_of c.args.f c.requires.1).order_ok

pub resets-requires : goal.resets-requires
resets-requires c = (parts_of c.args.f c.requires.1).resets_ok

pub overflow_mul-result : goal.overflow_mul-result
overflow_mul-result c =
    let a = c.args in
    record { fits = omega (arith, row_most a.e.source a.self.locations (parts_of a.e c.requires.0).source_lt a.self.locations_le) }

pub overflow_add-result : goal.overflow_add-result
overflow_add-result c =
    let a = c.args in
    let row = row_most a.e.source a.self.locations (parts_of a.e c.requires.0).source_lt a.self.locations_le in
    record { fits = omega (arith, row, (parts_of a.f c.requires.1).source_lt) }

pub overflow_mul-result-2 : goal.overflow_mul-result-2
overflow_mul-result-2 c =
    let a = c.args in
    record { fits = omega (arith, row_most a.e.target a.self.locations (parts_of a.e c.requires.0).target_lt a.self.locations_le) }

pub overflow_add-result-2 : goal.overflow_add-result-2
overflow_add-result-2 c =
    let a = c.args in
    let row = row_most a.e.target a.self.locations (parts_of a.e c.requires.0).target_lt a.self.locations_le in
    record { fits = omega (arith, row, (parts_of a.f c.requires.1).target_lt) }

pub returns : goal.returns
unfolding joined_edge
returns c = cc
