-- `wirdoku_pair_dimacs`: what is told of a refusal, or what the call on the model answers and leaves.
use Rattle.std.proofs.Common.{◌∙◌}
use Rattle.model.specs.declared.Model.{Model}
use Rattle.wirdoku.specs.TextCall.{file_reply, refused_file}
use Rattle.dimacs.specs.DimacsCall.{file_report, file_left}
use Rattle.std.proofs.Common.{length}
use Rattle.wirdoku.proofs.PairLaws.{pair_ok, pair_err}
use Rattle.wirdoku.proofs.pairs.wirdoku_pair_dimacs.Goals as goal

pub returns-in-Ok : goal.returns-in-Ok
returns-in-Ok c =
    let a = c.args in
    record {
      value = c.filed.ensures.result_value
          ∙ pair_ok (λ (m : Model). file_reply (file_report m a.bound (length a.out.now))) refused_file c.read_pair.result _ c.read_pair.ensures c.in-Ok.is;
      out_after = c.filed.ensures.out_after
          ∙ pair_ok (λ (m : Model). file_left m a.bound a.out.now) (λ n l. a.out.now) c.read_pair.result _ c.read_pair.ensures c.in-Ok.is;
    }

pub returns-in-Err : goal.returns-in-Err
returns-in-Err c =
    let a = c.args in
    record {
      value = c.refused_file.ensures
          ∙ pair_err (λ (m : Model). file_reply (file_report m a.bound (length a.out.now))) refused_file c.read_pair.result _ c.read_pair.ensures
          c.in-Err.is c.number.ensures c.line.ensures;
      out_after = pair_err (λ (m : Model). file_left m a.bound a.out.now) (λ n l. a.out.now) c.read_pair.result _ c.read_pair.ensures c.in-Err.is
          c.number.ensures c.line.ensures;
    }
