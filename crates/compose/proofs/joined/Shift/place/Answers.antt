-- `place`: what is listed is at most 4, and a listed counter is one of 4.
use Rattle.std.proofs.Common.{◌<◌, ◌-◌, arith}
use Rattle.model.proofs.OrderLaws.{listed_le}
use Rattle.compose.proofs.JoinedLaws.{order_below}
use Rattle.compose.proofs.joined.Shift.place.Goals as goal

pub overflow_add-n : goal.overflow_add-n
overflow_add-n c =
    record { fits = omega (arith, c.requires.1, c.requires.2, listed_le c.args.e, listed_le c.args.f) }

pub overflow_add-result : goal.overflow_add-result
overflow_add-result c =
    let a = c.args in
    let below : a.k - a.n < 4 = omega (arith, c.requires.3) in
    record { fits = omega (arith, a.self.vars_le, order_below a.f c.requires.0 (a.k - a.n) (omega (arith, c.requires.2))) }
