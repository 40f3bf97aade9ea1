-- `group_size`: by the group's number the locations, a counter's values or the ceiling's, as `component_at` says.
use Rattle.std.proofs.Common.{arith, ap, ◌∙◌, ℕ, ◌+◌, ◌-◌, ◌<◌}
use Rattle.model.proofs.FormLaws.{formed}
use Rattle.parts.proofs.GroupLaws.{size_loc, size_counter, size_clock}
use Rattle.parts.proofs.group_size.Goals as goal

pub bounds-m-g : goal.bounds-m-g
bounds-m-g c = omega (arith, (formed _ c.requires.0).vars_le, c.if-g-m.true)

pub returns-then-g-eq0 : goal.returns-then-g-eq0
returns-then-g-eq0 c = (size_loc _ _ c.if-g-eq0.true, omega (arith, (formed _ c.requires.0).locations_le))

pub returns-then-g-m : goal.returns-then-g-m
returns-then-g-m c =
    let here : c.args.g - 1 < c.args.m.now.vars = omega (arith, c.if-g-eq0.false, c.if-g-m.true) in
    (size_counter _ _ c.if-g-eq0.false here, omega (arith, (formed _ c.requires.0).greatest_le _ here))

pub returns-else-g-m : goal.returns-else-g-m
returns-else-g-m c = (
  ap (λ (n : ℕ). n + 1) c.requires.1 ∙ size_clock _ _ c.if-g-eq0.false (omega (arith, c.if-g-m.false)),
  omega (arith, c.requires.1, (formed _ c.requires.0).ceiling_le),
)
