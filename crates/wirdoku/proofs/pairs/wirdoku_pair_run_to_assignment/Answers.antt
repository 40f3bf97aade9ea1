-- `wirdoku_pair_run_to_assignment`: what is told of a refusal, or what the call on the model answers and leaves.
use Rattle.std.proofs.Common.{ap, ◌∙◌}
use Rattle.model.specs.declared.Model.{Model}
use Rattle.wirdoku.specs.TextCall.{answer_told}
use Rattle.model.specs.Refusal.{refusal}
use Rattle.encode.specs.EncodeCall.{encode_report, encode_left}
use Rattle.std.proofs.Common.{length}
use Rattle.wirdoku.proofs.PairLaws.{pair_ok, pair_err}
use Rattle.wirdoku.proofs.pairs.wirdoku_pair_run_to_assignment.Goals as goal

pub returns-in-Ok : goal.returns-in-Ok
returns-in-Ok c =
    let a = c.args in
    record {
      result_value = c.encoded.ensures.result_value
          ∙ pair_ok (λ (m : Model). encode_report m a.run.now (length a.assignment.now)) refusal c.read_pair.result _ c.read_pair.ensures c.in-Ok.is;
      assignment_after = c.encoded.ensures.assignment_after
          ∙ pair_ok (λ (m : Model). encode_left m a.run.now a.assignment.now) (λ n l. a.assignment.now) c.read_pair.result _ c.read_pair.ensures c.in-Ok.is;
    }

pub returns-in-Err : goal.returns-in-Err
returns-in-Err c =
    let a = c.args in
    record {
      result_value = ap answer_told c.told.ensures
          ∙ pair_err (λ (m : Model). encode_report m a.run.now (length a.assignment.now)) refusal c.read_pair.result _ c.read_pair.ensures
          c.in-Err.is c.number.ensures c.line.ensures;
      assignment_after = pair_err (λ (m : Model). encode_left m a.run.now a.assignment.now) (λ n l. a.assignment.now) c.read_pair.result _
          c.read_pair.ensures c.in-Err.is c.number.ensures c.line.ensures;
    }
