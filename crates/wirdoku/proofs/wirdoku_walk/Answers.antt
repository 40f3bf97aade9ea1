-- `wirdoku_walk`: what is told of a refusal, or what the call on the model answers.
use Rattle.std.proofs.Common.{ap, ◌∙◌}
use Rattle.model.specs.declared.Model.{Model}
use Rattle.wirdoku.specs.TextCall.{answer_told}
use Rattle.model.specs.Refusal.{refusal}
use Rattle.walk.specs.Walker.{walk_report}
use Rattle.text.proofs.Calls.{read_text, refused_text}
use Rattle.wirdoku.proofs.wirdoku_walk.Goals as goal

pub returns-in-Ok : goal.returns-in-Ok
returns-in-Ok c =
    let a = c.args in
    c.walked.ensures
    ∙ read_text (λ (m : Model). walk_report m a.run.now) refusal c.read_model.result a.text.now c.read_model.ensures c.in-Ok.is

pub returns-in-Err : goal.returns-in-Err
returns-in-Err c =
    let a = c.args in
    ap answer_told c.told.ensures
    ∙ refused_text (λ (m : Model). walk_report m a.run.now) refusal c.read_model.result a.text.now c.read_model.ensures c.in-Err.is c.number.ensures
    c.line.ensures
