-- `invariants`: slot after slot.
use Rattle.std.proofs.Common.{rules, tests, sym, ◌∙◌, get_or}
use Rattle.model.specs.Record.{blank_invariant}
use Rattle.compose.specs.Composed.{joined_invariants}
use Rattle.compose.proofs.MadeBelow.{made_below}
use Rattle.compose.proofs.PlacedLaws.{placed_list}
use Rattle.compose.proofs.pair.Pair.invariants.Goals as goal

pub returns : goal.returns
returns c =
    let l = joined_invariants c.args.self.now.a.model c.args.self.now.b.model in
    made_below _ _ (λ n. get_or l n blank_invariant) blank_invariant 16 (λ k y q h p. search (rules, tests)) _ c.from_fn.ensures.items
    ∙ sym (placed_list blank_invariant 16 l)
