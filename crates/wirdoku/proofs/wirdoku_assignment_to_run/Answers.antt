-- `wirdoku_assignment_to_run`: what is told of a refusal, or what the call on the model answers and leaves.
use Rattle.std.proofs.Common.{ap, ◌∙◌}
use Rattle.model.specs.declared.Model.{Model}
use Rattle.wirdoku.specs.TextCall.{answer_told}
use Rattle.model.specs.Refusal.{refusal}
use Rattle.decode.specs.DecodeCall.{decode_report, decode_left}
use Rattle.std.proofs.Common.{length}
use Rattle.text.proofs.Calls.{read_text, refused_text}
use Rattle.wirdoku.proofs.wirdoku_assignment_to_run.Goals as goal

pub returns-in-Ok : goal.returns-in-Ok
returns-in-Ok c =
    let a = c.args in
    record {
      result_value = c.decoded.ensures.result_value
          ∙ read_text (λ (m : Model). decode_report m a.bound a.assignment.now (length a.run.now)) refusal c.read_model.result a.text.now
          c.read_model.ensures c.in-Ok.is;
      run_after = c.decoded.ensures.run_after
          ∙ read_text (λ (m : Model). decode_left m a.bound a.assignment.now a.run.now) (λ n l. a.run.now) c.read_model.result a.text.now
          c.read_model.ensures c.in-Ok.is;
    }

pub returns-in-Err : goal.returns-in-Err
returns-in-Err c =
    let a = c.args in
    record {
      result_value = ap answer_told c.told.ensures
          ∙ refused_text (λ (m : Model). decode_report m a.bound a.assignment.now (length a.run.now)) refusal c.read_model.result a.text.now
          c.read_model.ensures c.in-Err.is c.number.ensures c.line.ensures;
      run_after = refused_text (λ (m : Model). decode_left m a.bound a.assignment.now a.run.now) (λ n l. a.run.now) c.read_model.result a.text.now
          c.read_model.ensures c.in-Err.is c.number.ensures c.line.ensures;
    }
