-- check_front: the choice's group, then the delays.
use Rattle.std.proofs.Common.{arith}
use Rattle.search.proofs.CheckLaws.{checked_stop, checked_then, passed_check, stopped}
use Rattle.search.specs.Limits.{most_front_clauses}
use Rattle.search.proofs.pieces.check_front.Goals as goal

pub returns-in_err-count : goal.returns-in_err-count
returns-in_err-count c = stopped c.from_residual.ensures.1 (checked_stop _ most_front_clauses c.in_err-count.ensures (omega arith))

pub returns : goal.returns
returns c = checked_then most_front_clauses (passed_check c.in_ok-count.ensures) c.check_delays.ensures (omega (arith, c.in_ok-count.ensures.most))
