-- `read_pair`: a text refused, or what composing the two models says.
use Rattle.std.proofs.Common.{sym, ◌∙◌}
use Rattle.text.specs.Text.{read_report}
use Rattle.compose.specs.ComposeCall.{compose_report}
use Rattle.wirdoku.specs.PairCall.{pair_report, pair_composed, refused_pair}
use Rattle.wirdoku.proofs.PairLaws.{both_ok, both_err, told_is}
use Rattle.wirdoku.proofs.pairs.read_pair.Goals as goal

pub returns-in-Ok : goal.returns-in-Ok
unfolding pair_report
returns-in-Ok c = c.composed.ensures
    ∙ both_ok (λ m n. pair_composed (compose_report m n)) refused_pair (read_report c.args.first.now) (read_report c.args.second.now) c.in-Ok.ensures

pub returns-in-Err : goal.returns-in-Err
unfolding pair_report
returns-in-Err c =
    sym (told_is c.in-Err.refusal)
    ∙ both_err (λ m n. pair_composed (compose_report m n)) refused_pair (read_report c.args.first.now) (read_report c.args.second.now) c.in-Err.ensures
