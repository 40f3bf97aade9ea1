-- The totals told of a refusal, and of a record and a bound that are accepted.
use Rattle.std.proofs.Common.{ℕ, ◌≡◌, Ok, Err}
use borrow.Author.Tests.{lt-ltb, le-ltb}
use Rattle.model.specs.Automaton.{variables}
use Rattle.model.specs.Bounds.{KnownTotals}
use Rattle.model.specs.declared.Model.{Model}
use Rattle.model.specs.declared.Totals.{Totals}
use Rattle.model.proofs.FormLaws.{state_of_totals, choices_of_totals}
use Rattle.form.specs.BoundCheck.{bound_checked}
use Rattle.form.specs.declared.ListRefusal.{ListRefusal}
use Rattle.form.specs.declared.ListRefusal.TheVariants.{NotWellFormed, BoundTooLarge}
use Rattle.form.proofs.BoundLaws.{bound_accepted, bound_20, bound_21}
use Rattle.totals.specs.TotalsCall.{totals_told, totals_report, totals_reported}

pub told_refused : (m : Model) (k : ℕ) (e : ListRefusal) → Err e ≡ bound_checked m k → totals_told (Err e) ≡ totals_report m k
unfolding totals_report
told_refused m k NotWellFormed e = rw (bound_20 m k e)
told_refused m k BoundTooLarge e = rw ((bound_21 m k e).0, lt-ltb 64 k (bound_21 m k e).1)

pub told_accepted : (m : Model) (k : ℕ) (z : Totals) (n : ℕ) → Ok tt ≡ bound_checked m k → KnownTotals m z → n ≡ variables m k
    → totals_reported 0 z.state z.choices n ≡ totals_report m k
unfolding totals_report
told_accepted m k z n e known is =
    let accepted = bound_accepted m k e in
    rw (accepted.0, le-ltb 64 k accepted.1) (λ i. totals_reported 0 (state_of_totals m z known i) (choices_of_totals m z known i) (is i))
