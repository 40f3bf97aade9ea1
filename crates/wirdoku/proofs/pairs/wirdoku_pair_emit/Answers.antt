-- `wirdoku_pair_emit`: what is told of a refusal, or what emission answers and leaves.
use Rattle.std.proofs.Common.{ap, ◌∙◌, length}
use Rattle.model.specs.declared.Model.{Model}
use Rattle.emission.specs.EmitCall.{emit_report, emit_left}
use Rattle.sizing.specs.SizeCall.{emitted_sizes, refused_sizes}
use Rattle.wirdoku.proofs.PairLaws.{pair_ok, pair_err}
use Rattle.wirdoku.proofs.pairs.wirdoku_pair_emit.Goals as goal

pub returns-in-Ok : goal.returns-in-Ok
returns-in-Ok c =
    let a = c.args in
    let call = λ (m : Model). emitted_sizes (emit_report m a.bound (length a.out.now)) in
    let left = λ (m : Model). emit_left m a.bound (length a.out.now) a.out.now in
    record {
      result_value = c.emitted.ensures ∙ ap emitted_sizes c.emit.ensures.0 ∙ pair_ok call refused_sizes c.read_pair.result _ c.read_pair.ensures c.in-Ok.is;
      out_after = c.emit.ensures.1 ∙ pair_ok left (λ n l. a.out.now) c.read_pair.result _ c.read_pair.ensures c.in-Ok.is;
    }

pub returns-in-Err : goal.returns-in-Err
returns-in-Err c =
    let a = c.args in
    let call = λ (m : Model). emitted_sizes (emit_report m a.bound (length a.out.now)) in
    let left = λ (m : Model). emit_left m a.bound (length a.out.now) a.out.now in
    record {
      result_value = c.refused_sizes.ensures ∙ pair_err call refused_sizes c.read_pair.result _ c.read_pair.ensures c.in-Err.is c.number.ensures c.line.ensures;
      out_after = pair_err left (λ n l. a.out.now) c.read_pair.result _ c.read_pair.ensures c.in-Err.is c.number.ensures c.line.ensures;
    }
