-- initial_value: a counter's group stands before those of the clocks.
use Rattle.std.proofs.Common.{arith}
use Rattle.model.proofs.FormLaws.{formed}
use Rattle.search.proofs.pieces.initial_value.Goals as goal

pub bounds-m-g : goal.bounds-m-g
bounds-m-g c = omega (arith, (formed _ c.requires).vars_le, c.if-g-m.true, c.if-g-eq0.false)
