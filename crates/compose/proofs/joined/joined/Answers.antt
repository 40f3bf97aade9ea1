-- `joined`: each slot is what the closure of its model gives.
use Rattle.std.proofs.Common.{rules, tests, ltb, cond, ◌-◌}
use Rattle.compose.proofs.MadeBelow.{made_below}
use Rattle.compose.proofs.joined.joined.Goals as goal

pub returns : goal.returns
returns g c f h p q =
    made_below _ _ (λ k. cond (ltb k c.args.from) (f k) (h (k - c.args.from))) (f 0) g.row.N (λ k y s l r. search (rules, tests, p, q)) _
    c.from_fn.ensures.items
