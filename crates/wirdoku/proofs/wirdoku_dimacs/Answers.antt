-- `wirdoku_dimacs`: what is told of a refusal, or what the call on the model answers and leaves.
use Rattle.std.proofs.Common.{◌∙◌}
use Rattle.model.specs.declared.Model.{Model}
use Rattle.wirdoku.specs.TextCall.{file_reply, refused_file}
use Rattle.dimacs.specs.DimacsCall.{file_report, file_left}
use Rattle.std.proofs.Common.{length}
use Rattle.text.proofs.Calls.{read_text, refused_text}
use Rattle.wirdoku.proofs.wirdoku_dimacs.Goals as goal

pub returns-in-Ok : goal.returns-in-Ok
returns-in-Ok c =
    let a = c.args in
    record {
      value = c.filed.ensures.result_value
          ∙ read_text (λ (m : Model). file_reply (file_report m a.bound (length a.out.now))) refused_file c.read_model.result a.text.now
          c.read_model.ensures c.in-Ok.is;
      out_after = c.filed.ensures.out_after
          ∙ read_text (λ (m : Model). file_left m a.bound a.out.now) (λ n l. a.out.now) c.read_model.result a.text.now c.read_model.ensures c.in-Ok.is;
    }

pub returns-in-Err : goal.returns-in-Err
returns-in-Err c =
    let a = c.args in
    record {
      value = c.refused_file.ensures
          ∙ refused_text (λ (m : Model). file_reply (file_report m a.bound (length a.out.now))) refused_file c.read_model.result a.text.now
          c.read_model.ensures c.in-Err.is c.number.ensures c.line.ensures;
      out_after = refused_text (λ (m : Model). file_left m a.bound a.out.now) (λ n l. a.out.now) c.read_model.result a.text.now c.read_model.ensures
          c.in-Err.is c.number.ensures c.line.ensures;
    }
