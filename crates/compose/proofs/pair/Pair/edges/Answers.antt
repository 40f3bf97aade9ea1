-- `edges`: slot after slot.
use Rattle.std.proofs.Common.{rules, tests}
use Rattle.model.specs.Record.{past_edge}
use Rattle.compose.specs.Composed.{composed_edge}
use Rattle.compose.proofs.MadeBelow.{made_below}
use Rattle.compose.proofs.pair.Pair.edges.Goals as goal

pub returns : goal.returns
returns c =
    let p = c.args.self.now in
    made_below _ _ (composed_edge p.a.model p.b.model) past_edge 32 (λ k y q h p. search (rules, tests)) _ c.from_fn.ensures.items
