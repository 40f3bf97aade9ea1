-- `wirdoku_shape`: what is told of a refusal, or what the call on the model answers.
use Rattle.std.proofs.Common.{◌∙◌}
use Rattle.wirdoku.specs.TextCall.{shape_of, refused_shape}
use Rattle.text.proofs.Calls.{read_text, refused_text}
use Rattle.wirdoku.proofs.wirdoku_shape.Goals as goal

pub returns-in-Ok : goal.returns-in-Ok
returns-in-Ok c = let a = c.args in c.shape_of.ensures ∙ read_text shape_of refused_shape c.read_model.result a.text.now c.read_model.ensures c.in-Ok.is

pub returns-in-Err : goal.returns-in-Err
returns-in-Err c =
    let a = c.args in
    c.refused_shape.ensures
    ∙ refused_text shape_of refused_shape c.read_model.result a.text.now c.read_model.ensures c.in-Err.is c.number.ensures c.line.ensures
