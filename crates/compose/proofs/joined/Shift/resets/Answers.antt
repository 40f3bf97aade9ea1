-- `resets`: each slot is the first's, or the second's shifted.
use Rattle.std.proofs.Common.{rules, tests}
use Rattle.model.specs.Record.{reset_at}
use Rattle.compose.specs.Joined.{joined_resets, shifted_reset}
use Rattle.compose.proofs.JoinedLaws.{resets_at}
use Rattle.compose.proofs.joined.Shift.resets.Goals as goal

pub joined-requires : goal.joined-requires
joined-requires c = (search rules, (λ k l. search rules, λ k l. search (rules, resets_at c.args.f c.requires k l)))

pub returns : goal.returns
unfolding joined_resets
returns c =
    let a = c.args in
    c.joined.ensures (reset_at a.e) (λ k. shifted_reset a.self.clocks (reset_at a.f k)) (λ k x l h. search (rules, tests)) (λ k x l h. search (rules, tests))
