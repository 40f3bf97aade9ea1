-- `order`: slot after slot.
use Rattle.std.proofs.Common.{rules, tests}
use Rattle.compose.specs.Joined.{joined_order, joined_place}
use Rattle.compose.proofs.MadeBelow.{made_below}
use Rattle.compose.proofs.joined.Shift.order.Goals as goal

pub returns : goal.returns
unfolding joined_order
returns c = made_below _ _ (joined_place c.args.self.vars c.args.e c.args.f) 0 4 (λ k y q l h. search (rules, tests)) _ c.from_fn.ensures.items
