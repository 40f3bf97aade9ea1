-- `refute`: emission's refusal, or the outcome for the words that it leaves.
use Rattle.std.proofs.Common.{ap, sym, ◌∙◌, Bool, Ok, Err}
use Rattle.emission.specs.EmitCall.{emit_told}
use Rattle.refute.specs.RefuteCall.{checked_report}
use Rattle.refute.proofs.RefuteLaws.{refused_is, after_is}
use Rattle.refute.proofs.refute.Goals as goal

pub returns-in-Ok : goal.returns-in-Ok
returns-in-Ok c =
    let a = c.args in
    let list = c.in-Ok.list in
    record {
      result_value = after_is a.m a.bound a.words.now _ a.hints.now (Ok list) (ap emit_told (sym c.in-Ok.is) ∙ c.emit.ensures.0) c.emit.ensures.1
          (ap (λ (b : Bool). checked_report b list.words) c.refuted.ensures);
      words_after = c.emit.ensures.1;
    }

pub returns-in-Err : goal.returns-in-Err
returns-in-Err c =
    let a = c.args in
    record {
      result_value = after_is a.m a.bound a.words.now _ a.hints.now (Err c.in-Err.refusal) (ap emit_told (sym c.in-Err.is) ∙ c.emit.ensures.0) c.emit.ensures.1
          (refused_is c.in-Err.refusal _ _);
      words_after = c.emit.ensures.1;
    }
