-- `wirdoku_pair_shape`: what is told of a refusal, or what the call on the model answers.
use Rattle.std.proofs.Common.{◌∙◌}
use Rattle.wirdoku.specs.TextCall.{shape_of, refused_shape}
use Rattle.wirdoku.proofs.PairLaws.{pair_ok, pair_err}
use Rattle.wirdoku.proofs.pairs.wirdoku_pair_shape.Goals as goal

pub returns-in-Ok : goal.returns-in-Ok
returns-in-Ok c = let a = c.args in c.shape_of.ensures ∙ pair_ok shape_of refused_shape c.read_pair.result _ c.read_pair.ensures c.in-Ok.is

pub returns-in-Err : goal.returns-in-Err
returns-in-Err c =
    let a = c.args in
    c.refused_shape.ensures
    ∙ pair_err shape_of refused_shape c.read_pair.result _ c.read_pair.ensures c.in-Err.is c.number.ensures c.line.ensures
