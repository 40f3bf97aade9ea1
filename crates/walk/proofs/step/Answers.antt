-- `step`: the refusals 20, 10, 27, 28 in the report's order; after all tests the step is the one that `advance` takes.
use Rattle.std.proofs.Common.{arith, sym}
use Rattle.std.proofs.lemmas.Grind.{common_steps}
use Rattle.model.proofs.IndexedLaws.{T_true}
use Rattle.model.proofs.FormLaws.{formed, ceiling_of_totals, choices_of_totals}
use Rattle.walk.specs.StepCall.{step_report}
use Rattle.walk.proofs.step.Goals as goal

pub returns-then-not-well_formed : goal.returns-then-not-well_formed
unfolding step_report
returns-then-not-well_formed c = grind (arith, common_steps)

pub returns-then-not-state_formed : goal.returns-then-not-state_formed
unfolding step_report
returns-then-not-state_formed c = grind (arith, common_steps)

pub returns-then-z-byte : goal.returns-then-z-byte
unfolding step_report
returns-then-z-byte c = grind (arith, common_steps, choices_of_totals _ _ c.totals-z.ensures)

pub overflow_cast-z : goal.overflow_cast-z
overflow_cast-z c =
    record {
      fits = omega (arith, ceiling_of_totals _ _ c.totals-z.ensures, (formed c.args.m ((T_true _).1 (sym (c.if-not-well_formed.ensures)))).ceiling_le);
    }

pub advance-requires : goal.advance-requires
advance-requires c = ((T_true _).1 (sym (c.if-not-well_formed.ensures)), ceiling_of_totals _ _ c.totals-z.ensures)

pub returns : goal.returns
unfolding step_report
returns c = grind (arith, common_steps, choices_of_totals _ _ c.totals-z.ensures)
