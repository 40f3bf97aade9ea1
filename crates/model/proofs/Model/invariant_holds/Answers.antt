-- `invariant_holds`: the invariant of the location, and none past the last.
use Rattle.std.proofs.Common.{arith, length, ◌≤◌}
use lib.ListN.{get_or-eq_default}
use Rattle.std.proofs.lemmas.Grind.{common_steps}
use Rattle.model.specs.Record.{past_invariant}
use Rattle.model.specs.Indexed.{all_below}
use Rattle.model.specs.Automaton.{all_hold, invariant_holds}
use Rattle.model.proofs.Model.invariant_holds.Goals as goal

pub returns-in-Some : goal.returns-in-Some
unfolding invariant_holds
returns-in-Some c = grind (arith, common_steps, c.in-Some.ensures.lookup)

pub returns-in-None : goal.returns-in-None
unfolding invariant_holds all_hold all_below
returns-in-None c = let m = c.args.self in let h = c.in-None.ensures.lookup in
    let short : length m.invariants ≤ c.args.s.location = omega (arith, h) in
    rw (get_or-eq_default m.invariants past_invariant short)
