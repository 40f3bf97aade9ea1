-- check_start: state 0, then the initial values.
use Rattle.std.proofs.Common.{arith, sym}
use Rattle.list.proofs.PieceClauses.{start_piece}
use Rattle.search.proofs.CheckLaws.{checked_as, checked_stop, checked_then, passed_check, stopped}
use Rattle.search.specs.Limits.{most_start_clauses}
use Rattle.search.proofs.pieces.check_start.Goals as goal

pub returns-in_err-count : goal.returns-in_err-count
returns-in_err-count c =
    stopped c.from_residual.ensures.1
    (checked_as (sym (start_piece c.args.layout.now.model)) (checked_stop _ most_start_clauses c.in_err-count.ensures (omega arith)))

pub returns : goal.returns
returns c =
    checked_as (sym (start_piece c.args.layout.now.model))
    (checked_then most_start_clauses (passed_check c.in_ok-count.ensures) c.check_initial.ensures (omega (arith, c.in_ok-count.ensures.most)))
