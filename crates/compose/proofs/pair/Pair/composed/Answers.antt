-- `composed`: each number is at most 16, 4 or 32, since a record may hold the model.
use Rattle.std.proofs.Common.{arith}
use Rattle.compose.specs.Composed.{composed}
use Rattle.compose.proofs.ComposedLaws.{row_fits, count_in}
use Rattle.compose.proofs.PairLaws.{held_of, first_of, second_of}
use Rattle.compose.proofs.pair.Pair.composed.Goals as goal

pub overflow_mul-result : goal.overflow_mul-result
overflow_mul-result c = record { fits = omega (arith, (held_of c.args.self.now).locations_le) }

pub overflow_mul-result-2 : goal.overflow_mul-result-2
overflow_mul-result-2 c =
    let p = c.args.self.now in
    let row = row_fits p.a.model.initial p.a.model.locations p.b.model.locations (first_of p).initial_ok (held_of p).locations_le in
    record { fits = omega (arith, row) }

pub overflow_add-result : goal.overflow_add-result
overflow_add-result c =
    let p = c.args.self.now in
    let row = row_fits p.a.model.initial p.a.model.locations p.b.model.locations (first_of p).initial_ok (held_of p).locations_le in
    record { fits = omega (arith, row, (second_of p).initial_ok) }

pub overflow_mul-result-3 : goal.overflow_mul-result-3
overflow_mul-result-3 c =
    let p = c.args.self.now in
    let row = row_fits p.a.model.target p.a.model.locations p.b.model.locations (first_of p).target_ok (held_of p).locations_le in
    record { fits = omega (arith, row) }

pub overflow_add-result-2 : goal.overflow_add-result-2
overflow_add-result-2 c =
    let p = c.args.self.now in
    let row = row_fits p.a.model.target p.a.model.locations p.b.model.locations (first_of p).target_ok (held_of p).locations_le in
    record { fits = omega (arith, row, (second_of p).target_ok) }

pub overflow_add-result-3 : goal.overflow_add-result-3
overflow_add-result-3 c = record { fits = omega (arith, (held_of c.args.self.now).clocks_le) }

pub overflow_add-result-4 : goal.overflow_add-result-4
overflow_add-result-4 c = record { fits = omega (arith, (held_of c.args.self.now).vars_le) }

pub overflow_cast-result : goal.overflow_cast-result
overflow_cast-result c =
    let p = c.args.self.now in
    record { fits = omega (arith, (held_of p).moves_le, count_in p.a.model p.b.model p.listed) }

pub returns : goal.returns
unfolding composed
returns c =
    let used-is = count_in c.args.self.now.a.model c.args.self.now.b.model c.args.self.now.listed in
    cc
