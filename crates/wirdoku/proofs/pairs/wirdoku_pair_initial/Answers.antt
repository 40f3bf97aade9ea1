-- `wirdoku_pair_initial`: what is told of a refusal, or what the call on the model answers.
use Rattle.std.proofs.Common.{ap, ◌∙◌}
use Rattle.model.specs.declared.Model.{Model}
use Rattle.wirdoku.specs.TextCall.{state_answer, zero_state}
use Rattle.model.specs.Automaton.{initial_state}
use Rattle.wirdoku.proofs.PairLaws.{pair_ok, pair_err}
use Rattle.wirdoku.proofs.pairs.wirdoku_pair_initial.Goals as goal

pub returns-in-Ok : goal.returns-in-Ok
returns-in-Ok c =
    let a = c.args in
    c.state_answer.ensures
    ∙ ap (state_answer 0 0) c.initial_state.ensures
    ∙ pair_ok (λ (m : Model). state_answer 0 0 (initial_state m)) (λ n l. state_answer n l zero_state) c.read_pair.result _ c.read_pair.ensures c.in-Ok.is

pub returns-in-Err : goal.returns-in-Err
returns-in-Err c =
    let a = c.args in
    c.state_answer-in-Err.ensures
    ∙ ap (state_answer c.number.result c.line.result) c.zero_state.ensures
    ∙ pair_err (λ (m : Model). state_answer 0 0 (initial_state m)) (λ n l. state_answer n l zero_state) c.read_pair.result _ c.read_pair.ensures
    c.in-Err.is c.number.ensures c.line.ensures
