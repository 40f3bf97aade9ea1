-- `wirdoku_step`: what is told of a refusal, or what the call on the model answers.
use Rattle.std.proofs.Common.{◌∙◌}
use Rattle.model.specs.declared.Model.{Model}
use Rattle.wirdoku.specs.TextCall.{state_answer, step_answer}
use Rattle.walk.specs.StepCall.{step_report}
use Rattle.text.proofs.Calls.{read_text, refused_text}
use Rattle.wirdoku.proofs.wirdoku_step.Goals as goal

pub returns-in-Ok : goal.returns-in-Ok
returns-in-Ok c =
    let a = c.args in
    c.stepped.ensures
    ∙ read_text (λ (m : Model). step_answer (step_report m a.state a.byte)) (λ n l. state_answer n l a.state) c.read_model.result a.text.now
    c.read_model.ensures c.in-Ok.is

pub returns-in-Err : goal.returns-in-Err
returns-in-Err c =
    let a = c.args in
    c.state_answer.ensures
    ∙ refused_text (λ (m : Model). step_answer (step_report m a.state a.byte)) (λ n l. state_answer n l a.state) c.read_model.result a.text.now
    c.read_model.ensures c.in-Err.is c.number.ensures c.line.ensures
