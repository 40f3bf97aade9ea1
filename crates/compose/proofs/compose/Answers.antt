-- `compose`: what `Pair::new` refuses, else what the pair tells.
use Rattle.std.proofs.Common.{arith, ap, ◌∙◌}
use Rattle.std.proofs.lemmas.Grind.{common_steps}
use Rattle.model.specs.Record.{blank_model}
use Rattle.compose.specs.Composed.{composed}
use Rattle.compose.specs.ComposeCall.{compose_reported, compose_report}
use Rattle.compose.proofs.Answers.{refused, taken}
use Rattle.compose.proofs.compose.Goals as goal

pub returns-in_err-new : goal.returns-in_err-new
unfolding compose_report
returns-in_err-new c =
    let told = refused c.args.a c.args.b (λ n. compose_reported n blank_model) (compose_reported 0 (composed c.args.a c.args.b))
    c.in_err-new.field-0.0 c.in_err-new.ensures.err in
    grind (arith, common_steps, told)

pub returns : goal.returns
unfolding compose_report
returns c =
    let p = c.in_ok-new.field-0 in
    let same = c.in_ok-new.ensures.ok in
    ap (compose_reported 0) c.composed.ensures
    ∙ taken p.a.model p.b.model (λ n. compose_reported n blank_model) _ p.a.formed p.b.formed p.held
    ∙ (λ i. compose_report (same.0 i) (same.1 i))
