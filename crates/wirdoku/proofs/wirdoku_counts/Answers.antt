-- `wirdoku_counts`: what is told of a refusal, or what the call on the model answers.
use Rattle.std.proofs.Common.{◌∙◌}
use Rattle.model.specs.declared.Model.{Model}
use Rattle.wirdoku.specs.TextCall.{counted_sizes}
use Rattle.counts.specs.CountsCall.{list_report}
use Rattle.sizing.specs.SizeCall.{refused_sizes}
use Rattle.text.proofs.Calls.{read_text, refused_text}
use Rattle.wirdoku.proofs.wirdoku_counts.Goals as goal

pub returns-in-Ok : goal.returns-in-Ok
returns-in-Ok c =
    let a = c.args in
    c.counted.ensures
    ∙ read_text (λ (m : Model). counted_sizes (list_report m a.bound)) refused_sizes c.read_model.result a.text.now c.read_model.ensures c.in-Ok.is

pub returns-in-Err : goal.returns-in-Err
returns-in-Err c =
    let a = c.args in
    c.refused_sizes.ensures
    ∙ refused_text (λ (m : Model). counted_sizes (list_report m a.bound)) refused_sizes c.read_model.result a.text.now c.read_model.ensures
    c.in-Err.is c.number.ensures c.line.ensures
