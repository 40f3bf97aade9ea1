-- `part_steps`: what `Pair::new` refuses, else what the pair tells.
use Rattle.std.proofs.Common.{arith, ◌∙◌}
use Rattle.std.proofs.lemmas.Grind.{common_steps}
use Rattle.compose.specs.Parts.{parts_reported, steps_report, parts_report}
use Rattle.compose.proofs.Answers.{refused, taken}
use Rattle.compose.proofs.part_steps.Goals as goal

pub returns-in_err-new : goal.returns-in_err-new
unfolding parts_report
returns-in_err-new c =
    let told = refused c.args.a c.args.b (λ n. parts_reported n 0 0) (steps_report c.args.a c.args.b c.args.byte) c.in_err-new.field-0.0
    c.in_err-new.ensures.err in
    grind (arith, common_steps, told)

pub returns : goal.returns
unfolding parts_report
returns c =
    let p = c.in_ok-new.field-0 in
    let same = c.in_ok-new.ensures.ok in
    c.steps.ensures
    ∙ taken p.a.model p.b.model (λ n. parts_reported n 0 0) _ p.a.formed p.b.formed p.held
    ∙ (λ i. parts_report (same.0 i) (same.1 i) c.args.byte)
