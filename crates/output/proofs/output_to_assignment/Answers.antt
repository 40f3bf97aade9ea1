-- `output_to_assignment`: the answer is that of the reading; the assignment is written if and only if it says satisfiable.
use mathlib.Core.Path.{◌≡◌, sym, ap, ◌∙◌}
use lib.ListN.{length}
use borrow.Author.Rules.{rules}
use borrow.Author.Tests.{tests}
use Rattle.std.specs.Prelude.{Result, Ok}
use Rattle.output.specs.OutputCall.{OutputReport, output_told}
use Rattle.output.specs.declared.Outcome.{Outcome}
use Rattle.output.specs.declared.Outcome.TheVariants as outcome
use Rattle.output.specs.declared.OutputRefusal.{OutputRefusal}
use Rattle.output.proofs.CallLaws.{report_is, left_written, left_kept, other_outcome}
use Rattle.output.proofs.output_to_assignment.Goals as goal

pub returns-then-eq : goal.returns-then-eq
returns-then-eq c =
    let text = c.args.text.now in
    let old = c.args.assignment.now in
    let told = c.answer-told.ensures ∙ report_is (length old) text c.read_output.ensures.0 in
    let satisfiable : c.answer-told.result ≡ Ok outcome.Satisfiable = search (rules, tests) in
    let code = ap (λ (a : Result Outcome OutputRefusal). (output_told a).outcome) satisfiable in
    record {
      result_value = told;
      assignment_after = c.write.ensures ∙ left_written text old (sym (ap (λ (r : OutputReport). r.outcome) told) ∙ code);
    }

pub returns-else-eq : goal.returns-else-eq
returns-else-eq c =
    let text = c.args.text.now in
    let old = c.args.assignment.now in
    let told = c.answer-told.ensures ∙ report_is (length old) text c.read_output.ensures.0 in
    let other : c.answer-told.result ≡ Ok outcome.Satisfiable → ⊥ = search (rules, tests) in
    record {
      result_value = told;
      assignment_after = left_kept text old (λ h. other_outcome c.answer-told.result other (ap (λ (r : OutputReport). r.outcome) told ∙ h));
    }
