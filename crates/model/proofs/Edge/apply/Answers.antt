-- `apply`: within the slots by the new value, past them nothing is set.
use Rattle.std.proofs.Common.{arith, sym, length, ◌≡◌}
use Rattle.model.proofs.NewValues.{past_slots}
use Rattle.model.proofs.Known.{updates_long}
use Rattle.std.proofs.lemmas.Grind.{common_steps}
use Rattle.model.specs.Automaton.{applied}
use Rattle.model.proofs.Edge.apply.Goals as goal

pub returns-in_err-next : goal.returns-in_err-next
unfolding applied
returns-in_err-next c = grind (arith, common_steps)

pub returns-in_ok-next : goal.returns-in_ok-next
unfolding applied
returns-in_ok-next c = grind (arith, common_steps)

pub returns-else-i-lt-COUNTERS : goal.returns-else-i-lt-COUNTERS
returns-else-i-lt-COUNTERS c =
    let a = c.args in
    let long : length a.self.updates ≡ 4 = updates_long a.self _ c.well_formed.0 in
    let short : length a.values ≡ 4 = c.well_formed.1.1.0.1.0.1 in
    sym (past_slots a.counters a.self a.values a.i (omega arith) (omega arith))
