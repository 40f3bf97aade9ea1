-- `updates`: each slot is the first's, or the second's shifted.
use Rattle.std.proofs.Common.{rules, tests}
use Rattle.model.specs.Record.{update_at}
use Rattle.compose.specs.Joined.{joined_updates, shifted_update}
use Rattle.compose.proofs.JoinedLaws.{updates_at}
use Rattle.compose.proofs.joined.Shift.updates.Goals as goal

pub joined-requires : goal.joined-requires
joined-requires c = (search rules, (λ k l. search rules, λ k l. search (rules, updates_at c.args.f c.requires k l)))

pub returns : goal.returns
unfolding joined_updates
returns c =
    let a = c.args in
    c.joined.ensures (update_at a.e) (λ k. shifted_update a.self.vars (update_at a.f k)) (λ k x l h. search (rules, tests)) (λ k x l h. search (rules, tests))
