-- `wirdoku_pair_parts`: a text refused, or what the step byte is in each part.
use Rattle.std.proofs.Common.{◌∙◌}
use Rattle.text.specs.Text.{read_report}
use Rattle.wirdoku.specs.PairCall.{parts_answer, refused_parts}
use Rattle.compose.specs.Parts.{parts_report}
use Rattle.wirdoku.proofs.PairLaws.{both_ok, both_err}
use Rattle.wirdoku.proofs.pairs.wirdoku_pair_parts.Goals as goal

pub returns-in-Ok : goal.returns-in-Ok
returns-in-Ok c =
    let a = c.args in
    c.parts_of.ensures
    ∙ both_ok (λ m n. parts_answer (parts_report m n a.byte)) (λ t. refused_parts) (read_report a.first.now) (read_report a.second.now) c.in-Ok.ensures

pub returns-in-Err : goal.returns-in-Err
returns-in-Err c =
    let a = c.args in
    c.refused_parts.ensures ∙ (λ i. refused_parts (c.number.ensures i) (c.line.ensures i))
    ∙ both_err (λ m n. parts_answer (parts_report m n a.byte)) (λ t. refused_parts) (read_report a.first.now) (read_report a.second.now) c.in-Err.ensures
