-- check_list: the checks of start, steps and end are a check of the whole list.
use Rattle.std.proofs.Common.{arith, ◌*◌, ◌+◌}
use Rattle.model.proofs.FormLaws.{variables_is}
use Rattle.parts.proofs.KnownLaws.{known_locations, wf}
use Rattle.parts.proofs.LayoutLaws.{known_of_layout, state_of_layout}
use Rattle.search.proofs.CheckLaws.{checked_as, checked_one, checked_stop, checked_then, passed_check, passed_then, stopped}
use Rattle.search.proofs.WholeList.{end_in, end_looked, end_numbered, list_is}
use Rattle.search.specs.Limits.{most_counted, most_start_clauses, most_step_clauses}
use Rattle.search.proofs.check_list.Goals as goal

pub check_start-requires : goal.check_start-requires
check_start-requires c = (c.invariant_table-invariants.ensures, omega (arith, c.requires.1, variables_is c.args.layout.now.model c.args.bound))

pub returns-in_err-start : goal.returns-in_err-start
returns-in_err-start c =
    stopped c.from_residual.ensures.1
    (checked_as (list_is (known_of_layout c.args.layout.now) c.args.bound)
    (checked_stop _ most_counted (checked_stop _ most_start_clauses c.in_err-start.ensures (omega arith)) (omega arith)))

pub returns-in_err-count : goal.returns-in_err-count
returns-in_err-count c =
    let start = c.in_ok-start.ensures in
    stopped c.from_residual-in_err-count.ensures.1
    (checked_as (list_is (known_of_layout c.args.layout.now) c.args.bound)
    (checked_stop _ most_counted
    (checked_then (most_start_clauses + 64 * most_step_clauses) (passed_check start) c.in_err-count.ensures (omega (arith, start.most))) (omega arith)))

pub variable_number-end-requires : goal.variable_number-end-requires
variable_number-end-requires c =
    let k = known_of_layout c.args.layout.now in
    (c.requires.0, omega (arith, known_locations k, (wf k).target_ok, state_of_layout c.args.layout.now))

pub overflow_sub-end : goal.overflow_sub-end
overflow_sub-end c = end_numbered (known_of_layout c.args.layout.now) c.args.bound c.variable_number-end.ensures

pub is_true-requires : goal.is_true-requires
is_true-requires c = omega (arith, end_in (known_of_layout c.args.layout.now) c.args.bound c.variable_number-end.ensures, c.requires.1)

pub returns : goal.returns
returns c =
    let k = known_of_layout c.args.layout.now in
    let start = c.in_ok-start.ensures in
    let steps = c.in_ok-count.ensures in
    let seen = end_looked k c.args.bound c.variable_number-end.ensures c.args.a.now c.is_true.ensures in
    checked_as (list_is k c.args.bound)
    (checked_then most_counted (passed_then (passed_check start) (passed_check steps)) (checked_one _ _ _ c.counted.ensures seen)
    (omega (arith, start.most, steps.most)))
