-- `wirdoku_pair_counts`: what is told of a refusal, or what the call on the model answers.
use Rattle.std.proofs.Common.{◌∙◌}
use Rattle.model.specs.declared.Model.{Model}
use Rattle.wirdoku.specs.TextCall.{counted_sizes}
use Rattle.counts.specs.CountsCall.{list_report}
use Rattle.sizing.specs.SizeCall.{refused_sizes}
use Rattle.wirdoku.proofs.PairLaws.{pair_ok, pair_err}
use Rattle.wirdoku.proofs.pairs.wirdoku_pair_counts.Goals as goal

pub returns-in-Ok : goal.returns-in-Ok
returns-in-Ok c =
    let a = c.args in
    c.counted.ensures
    ∙ pair_ok (λ (m : Model). counted_sizes (list_report m a.bound)) refused_sizes c.read_pair.result _ c.read_pair.ensures c.in-Ok.is

pub returns-in-Err : goal.returns-in-Err
returns-in-Err c =
    let a = c.args in
    c.refused_sizes.ensures
    ∙ pair_err (λ (m : Model). counted_sizes (list_report m a.bound)) refused_sizes c.read_pair.result _ c.read_pair.ensures c.in-Err.is
    c.number.ensures c.line.ensures
