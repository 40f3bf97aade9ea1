-- `assignment_to_run`: the refusals in the report's order, each where its test fails first; then the run.
use Rattle.std.proofs.Common.{arith, ◌∙◌}
use Rattle.std.proofs.lemmas.Grind.{common_steps}
use Rattle.std.proofs.lemmas.Result.{err_from_is_err_and}
use Rattle.form.proofs.BoundLaws.{bound_accepted}
use Rattle.model.proofs.IndexedLaws.{T_true}
use Rattle.decode.specs.DecodeCall.{decode_report, decode_left}
use Rattle.decode.proofs.Reports.{refused_list}
use Rattle.decode.proofs.assignment_to_run.Goals as goal

pub returns-in_err-check_bound : goal.returns-in_err-check_bound
returns-in_err-check_bound c =
    let p = err_from_is_err_and c.from_residual.result c.from_residual.ensures.1 in
    let e = refused_list c.args.m c.args.bound c.args.a.now c.args.run.now c.in_err-check_bound.field-0.0 c.in_err-check_bound.ensures in
    record { result_value = rw (p.1, p.2) e.0; run_after = e.1 }

pub overflow_cast-bound : goal.overflow_cast-bound
overflow_cast-bound c = record { fits = omega (arith, (bound_accepted c.args.m c.args.bound c.in_ok-check_bound.ensures).1) }

pub returns-then-a-variables-clause-result_value : goal.returns-then-a-variables-clause-result_value
unfolding decode_report
returns-then-a-variables-clause-result_value c =
    let w = bound_accepted c.args.m c.args.bound c.in_ok-check_bound.ensures in
    grind (arith, common_steps, w.0, w.1)

pub returns-then-a-variables-clause-run_after : goal.returns-then-a-variables-clause-run_after
unfolding decode_report decode_left
returns-then-a-variables-clause-run_after c =
    let w = bound_accepted c.args.m c.args.bound c.in_ok-check_bound.ensures in
    grind (arith, common_steps, w.0, w.1)

pub returns-in-Some-clause-result_value : goal.returns-in-Some-clause-result_value
unfolding decode_report
returns-in-Some-clause-result_value c =
    let w = bound_accepted c.args.m c.args.bound c.in_ok-check_bound.ensures in
    grind (arith, common_steps, w.0, w.1)

pub returns-in-Some-clause-run_after : goal.returns-in-Some-clause-run_after
unfolding decode_report decode_left
returns-in-Some-clause-run_after c =
    let w = bound_accepted c.args.m c.args.bound c.in_ok-check_bound.ensures in
    grind (arith, common_steps, w.0, w.1)

pub returns-then-run-bound-clause-result_value : goal.returns-then-run-bound-clause-result_value
unfolding decode_report
returns-then-run-bound-clause-result_value c =
    let w = bound_accepted c.args.m c.args.bound c.in_ok-check_bound.ensures in
    grind (arith, common_steps, w.0, w.1)

pub returns-then-run-bound-clause-run_after : goal.returns-then-run-bound-clause-run_after
unfolding decode_report decode_left
returns-then-run-bound-clause-run_after c =
    let w = bound_accepted c.args.m c.args.bound c.in_ok-check_bound.ensures in
    grind (arith, common_steps, w.0, w.1)

pub returns-in-Some-first_false-clause-result_value : goal.returns-in-Some-first_false-clause-result_value
unfolding decode_report
returns-in-Some-first_false-clause-result_value c =
    let w = bound_accepted c.args.m c.args.bound c.in_ok-check_bound.ensures in
    grind (arith, common_steps, w.0, w.1)

pub returns-in-Some-first_false-clause-run_after : goal.returns-in-Some-first_false-clause-run_after
unfolding decode_report decode_left
returns-in-Some-first_false-clause-run_after c =
    let w = bound_accepted c.args.m c.args.bound c.in_ok-check_bound.ensures in
    grind (arith, common_steps, w.0, w.1)

pub first_false-requires : goal.first_false-requires
first_false-requires c =
    let w = bound_accepted c.args.m c.args.bound c.in_ok-check_bound.ensures in
    ((T_true _).1 w.0, w.1, c.if-a-variables.false ∙ c.variables.ensures)

pub put_run-requires : goal.put_run-requires
put_run-requires c =
    let w = bound_accepted c.args.m c.args.bound c.in_ok-check_bound.ensures in
    ((T_true _).1 w.0, w.1, c.if-a-variables.false ∙ c.variables.ensures, c.if-run-bound.false)

pub returns-clause-result_value : goal.returns-clause-result_value
unfolding decode_report
returns-clause-result_value c =
    let w = bound_accepted c.args.m c.args.bound c.in_ok-check_bound.ensures in
    grind (arith, common_steps, w.0, w.1)

pub returns-clause-run_after : goal.returns-clause-run_after
unfolding decode_report decode_left
returns-clause-run_after c =
    let w = bound_accepted c.args.m c.args.bound c.in_ok-check_bound.ensures in
    grind (arith, common_steps, w.0, w.1)
