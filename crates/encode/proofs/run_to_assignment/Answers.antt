-- `run_to_assignment`: the walker's refusal, then 31, then the assignment; a walked run is one that `put_assignment` may write.
use Rattle.std.proofs.Common.{arith, sym, ◌≡◌, ◌≤◌, length}
use Rattle.std.proofs.lemmas.Grind.{common_steps}
use Rattle.std.proofs.lemmas.Result.{err_from_is_err_and}
use Rattle.model.specs.Automaton.{variables}
use Rattle.model.specs.Refusal.{accepted}
use Rattle.encode.specs.EncodeCall.{encode_report, encode_left}
use Rattle.encode.proofs.Reports.{run_refused, accepted_run, walks, room_for, left_written}
use Rattle.encode.proofs.run_to_assignment.Goals as goal

pub returns-in_err-walk-clause-result_value : goal.returns-in_err-walk-clause-result_value
unfolding encode_report
returns-in_err-walk-clause-result_value c =
    let p = err_from_is_err_and c.from_residual.result c.from_residual.ensures.1 in
    rw (p.1, p.2, ← c.in_err-walk.ensures, run_refused c.in_err-walk.field-0.0)

pub returns-in_err-walk-clause-out_after : goal.returns-in_err-walk-clause-out_after
unfolding encode_report encode_left
returns-in_err-walk-clause-out_after c = rw (← c.in_err-walk.ensures, run_refused c.in_err-walk.field-0.0, run_refused c.in_err-walk.field-0.0)

pub overflow_cast-run : goal.overflow_cast-run
overflow_cast-run c = record { fits = omega (arith, (accepted_run c.args.m c.args.run.now c.in_ok-walk.ensures).short) }

pub returns-then-out-variables-clause-result_value : goal.returns-then-out-variables-clause-result_value
unfolding encode_report
returns-then-out-variables-clause-result_value c = grind (arith, common_steps)

pub returns-then-out-variables-clause-out_after : goal.returns-then-out-variables-clause-out_after
unfolding encode_report encode_left
returns-then-out-variables-clause-out_after c = grind (arith, common_steps)

pub put_assignment-requires : goal.put_assignment-requires
put_assignment-requires c =
    let a = accepted_run c.args.m c.args.run.now c.in_ok-walk.ensures in
    let l : variables c.args.m (length c.args.run.now) ≤ length c.args.out.now = omega (arith, c.if-out-variables.false, c.variables.ensures) in
    (a.model_formed, walks a, room_for _ a l)

pub returns : goal.returns
unfolding encode_report
returns c =
    let told : accepted ≡ encode_report c.args.m c.args.run.now (length c.args.out.now) = grind (arith, common_steps) in
    record { result_value = told; out_after = left_written _ _ c.in_ok-walk.ensures (sym told) c.put_assignment.ensures }
