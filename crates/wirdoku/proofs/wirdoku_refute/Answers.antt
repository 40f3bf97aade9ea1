-- `wirdoku_refute`: what is told of a refusal, or what the call on the model answers and leaves.
use Rattle.std.proofs.Common.{◌∙◌}
use Rattle.model.specs.declared.Model.{Model}
use Rattle.wirdoku.specs.TextCall.{refute_reply, refused_refute}
use Rattle.refute.specs.RefuteCall.{refute_report}
use Rattle.emission.specs.EmitCall.{emit_left}
use Rattle.std.proofs.Common.{length}
use Rattle.text.proofs.Calls.{read_text, refused_text}
use Rattle.wirdoku.proofs.wirdoku_refute.Goals as goal

pub returns-in-Ok : goal.returns-in-Ok
returns-in-Ok c =
    let a = c.args in
    record {
      value = c.refuted.ensures.result_value
          ∙ read_text (λ (m : Model). refute_reply (refute_report m a.bound a.words.now a.hints.now)) refused_refute c.read_model.result a.text.now
          c.read_model.ensures c.in-Ok.is;
      words_after = c.refuted.ensures.words_after
          ∙ read_text (λ (m : Model). emit_left m a.bound (length a.words.now) a.words.now) (λ n l. a.words.now) c.read_model.result a.text.now
          c.read_model.ensures c.in-Ok.is;
    }

pub returns-in-Err : goal.returns-in-Err
returns-in-Err c =
    let a = c.args in
    record {
      value = c.refused_refute.ensures
          ∙ refused_text (λ (m : Model). refute_reply (refute_report m a.bound a.words.now a.hints.now)) refused_refute c.read_model.result
          a.text.now c.read_model.ensures c.in-Err.is c.number.ensures c.line.ensures;
      words_after = refused_text (λ (m : Model). emit_left m a.bound (length a.words.now) a.words.now) (λ n l. a.words.now) c.read_model.result
          a.text.now c.read_model.ensures c.in-Err.is c.number.ensures c.line.ensures;
    }
