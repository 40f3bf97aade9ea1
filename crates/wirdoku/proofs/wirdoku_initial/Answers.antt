-- `wirdoku_initial`: what is told of a refusal, or what the call on the model answers.
use Rattle.std.proofs.Common.{ap, ◌∙◌}
use Rattle.model.specs.declared.Model.{Model}
use Rattle.wirdoku.specs.TextCall.{state_answer, zero_state}
use Rattle.model.specs.Automaton.{initial_state}
use Rattle.text.proofs.Calls.{read_text, refused_text}
use Rattle.wirdoku.proofs.wirdoku_initial.Goals as goal

pub returns-in-Ok : goal.returns-in-Ok
returns-in-Ok c =
    let a = c.args in
    c.state_answer.ensures
    ∙ ap (state_answer 0 0) c.initial_state.ensures
    ∙ read_text (λ (m : Model). state_answer 0 0 (initial_state m)) (λ n l. state_answer n l zero_state) c.read_model.result a.text.now
    c.read_model.ensures c.in-Ok.is

pub returns-in-Err : goal.returns-in-Err
returns-in-Err c =
    let a = c.args in
    c.state_answer-in-Err.ensures
    ∙ ap (state_answer c.number.result c.line.result) c.zero_state.ensures
    ∙ refused_text (λ (m : Model). state_answer 0 0 (initial_state m)) (λ n l. state_answer n l zero_state) c.read_model.result a.text.now
    c.read_model.ensures c.in-Err.is c.number.ensures c.line.ensures
