-- What follows emission, by its answer: a refusal, or the outcome of the check.
use Rattle.std.proofs.Common.{ℕ, ◌≡◌, List, length, refl, ◌∙◌, Err}
use Rattle.std.specs.Prelude.{ℤ, Result}
use Rattle.model.specs.declared.Model.{Model}
use Rattle.counts.specs.declared.ListCounts.{ListCounts}
use Rattle.emission.specs.declared.EmitRefusal.{EmitRefusal}
use Rattle.emission.specs.declared.EmitRefusal.TheVariants.{NotWellFormed, BoundTooLarge, BufferTooShort}
use Rattle.emission.specs.EmitCall.{emit_report, emit_left, emit_told}
use Rattle.refute.specs.RefuteCall.{RefuteReport, after_emission, refute_report, refute_told}

-- nothing is checked after a refusal
pub refused_is : (e : EmitRefusal) (left : List ℤ) (hs : List ℕ) → refute_told (Err e) ≡ after_emission (emit_told (Err e)) left hs
refused_is NotWellFormed left hs = refl
refused_is BoundTooLarge left hs = refl
refused_is (BufferTooShort w) left hs = refl

-- emission answered x and left `new`
pub after_is : (m : Model) (k : ℕ) (old new : List ℤ) (hs : List ℕ) (x : Result ListCounts EmitRefusal) → emit_told x ≡ emit_report m k (length old)
    → new ≡ emit_left m k (length old) old → {r : RefuteReport} → r ≡ after_emission (emit_told x) new hs → r ≡ refute_report m k old hs
unfolding refute_report
after_is m k old new hs x told left p = p ∙ (λ i. after_emission (told i) (left i) hs)
