-- `emitted`: emission's refusal, by its number and its words.
use Rattle.std.proofs.Common.{ap, sym, ◌∙◌}
use Rattle.std.specs.Prelude.{Result}
use Rattle.counts.specs.declared.ListCounts.{ListCounts}
use Rattle.emission.specs.EmitCall.{emit_told}
use Rattle.emission.specs.declared.EmitRefusal.{EmitRefusal}
use Rattle.sizing.specs.SizeCall.{emitted_sizes}
use Rattle.sizing.proofs.SizeLaws.{refusal_is}
use Rattle.sizing.proofs.emitted.Goals as goal

pub returns-in-Err : goal.returns-in-Err
returns-in-Err c =
    (λ i. record { number = c.number.ensures i; line = 0; variables = 0; clauses = 0; words = c.words.ensures i }) ∙ refusal_is c.in-Err.refusal
    ∙ ap (λ (x : Result ListCounts EmitRefusal). emitted_sizes (emit_told x)) (sym c.in-Err.is)
