-- `counts_of`: the refusals of the tests, or the counts by `list_counts`.
use Rattle.std.proofs.Common.{arith, rules, ◌≡◌, Err, ℕ}
use borrow.Author.Tests.{le-ltb}
use Rattle.std.proofs.lemmas.Grind.{common_steps}
use Rattle.model.specs.declared.Model.{Model}
use Rattle.form.specs.BoundCheck.{bound_checked}
use Rattle.form.specs.declared.ListRefusal.{ListRefusal}
use Rattle.form.specs.declared.ListRefusal.TheVariants.{NotWellFormed, BoundTooLarge}
use Rattle.form.proofs.BoundLaws.{bound_accepted, bound_20, bound_21}
use Rattle.model.proofs.IndexedLaws.{T_true}
use Rattle.counts.specs.CountsCall.{list_report, list_reported, list_told}
use Rattle.counts.proofs.counts_of.Goals as goal

-- what the tests refuse, the report refuses with the same number
refused : (m : Model) (k : ℕ) (e : ListRefusal) → Err e ≡ bound_checked m k → list_told (Err e) ≡ list_report m k
unfolding list_report
refused m k NotWellFormed q = let p = bound_20 m k q in grind (arith, common_steps)
refused m k BoundTooLarge q = let p = bound_21 m k q in grind (arith, common_steps)

pub returns-in_err-check_bound : goal.returns-in_err-check_bound
returns-in_err-check_bound c =
    let e : c.from_residual.result ≡ Err c.in_err-check_bound.field-0.0 = search rules in
    rw e (refused c.args.m c.args.bound _ c.in_err-check_bound.ensures)

pub new-requires : goal.new-requires
new-requires c = (T_true _).1 (bound_accepted c.args.m c.args.bound c.in_ok-check_bound.ensures).0

pub list_counts-requires : goal.list_counts-requires
list_counts-requires c = (bound_accepted c.args.m c.args.bound c.in_ok-check_bound.ensures).1

pub returns : goal.returns
unfolding list_report
returns c =
    let p = bound_accepted c.args.m c.args.bound c.in_ok-check_bound.ensures in
    let n = rw c.new.ensures at c.list_counts.ensures in
    rw (p.0, le-ltb 64 c.args.bound p.1) (λ i. list_reported 0 (n.variables i) (n.clauses i) (n.words i))
