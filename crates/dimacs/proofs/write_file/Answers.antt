-- write_file: the refusals of the tests, then the file if it fits.
use Rattle.std.proofs.Common.{rules, ◌≡◌, Err}
use Rattle.form.proofs.BoundLaws.{bound_accepted}
use Rattle.model.proofs.IndexedLaws.{T_true}
use Rattle.dimacs.specs.DimacsCall.{as_file_refusal}
use Rattle.dimacs.proofs.FileLaws.{refused}
use Rattle.dimacs.proofs.write_file.Goals as goal

pub returns-in_err-check_bound : goal.returns-in_err-check_bound
returns-in_err-check_bound c =
    let e : c.from_residual.result ≡ Err (as_file_refusal c.in_err-check_bound.field-0.0) = search rules in
    let x = refused c.args.m c.args.bound c.args.out.now _ c.in_err-check_bound.ensures in
    rw e (record { result_value = x.report; out_after = x.left })

pub new-requires : goal.new-requires
new-requires c = (T_true _).1 (bound_accepted c.args.m c.args.bound c.in_ok-check_bound.ensures).0

pub write_if_it_fits-requires : goal.write_if_it_fits-requires
write_if_it_fits-requires c = (bound_accepted c.args.m c.args.bound c.in_ok-check_bound.ensures).1
