-- `read_sizes`: the text's refusal, or what emission answers and leaves for the model that was read.
use Rattle.std.proofs.Common.{length, ap, ◌∙◌}
use Rattle.model.specs.declared.Model.{Model}
use Rattle.text.proofs.Calls.{refused_told, read_told_lem}
use Rattle.emission.specs.EmitCall.{emit_report, emit_left}
use Rattle.sizing.specs.SizeCall.{refused_sizes, emitted_sizes}
use Rattle.sizing.proofs.read_sizes.Goals as goal

pub returns-in-Ok : goal.returns-in-Ok
returns-in-Ok c =
    let a = c.args in (
      c.emitted.ensures ∙ ap emitted_sizes c.emit.ensures.0
          ∙ read_told_lem (λ (m : Model). emitted_sizes (emit_report m a.bound (length a.out.now))) refused_sizes a.read c.in-Ok.is,
      c.emit.ensures.1 ∙ read_told_lem (λ (m : Model). emit_left m a.bound (length a.out.now) a.out.now) (λ n l. a.out.now) a.read c.in-Ok.is,
    )

pub returns-in-Err : goal.returns-in-Err
returns-in-Err c =
    let a = c.args in (
      c.refused.ensures
          ∙ refused_told (λ (m : Model). emitted_sizes (emit_report m a.bound (length a.out.now))) refused_sizes a.read c.in-Err.is
          c.number.ensures c.line.ensures,
      refused_told (λ (m : Model). emit_left m a.bound (length a.out.now) a.out.now) (λ n l. a.out.now) a.read c.in-Err.is c.number.ensures c.line.ensures,
    )
