-- emit_within with the whole buffer as the limit.
use Rattle.std.proofs.Common.{ℕ, arith, ap, ◌∙◌, ◌≡◌, min, length}
use Rattle.emission.specs.EmitCall.{emit_report, emit_left}
use Rattle.emission.proofs.emit.Goals as goal

pub returns : goal.returns
returns c =
    let a = c.args in
    let room = length a.out.now in
    let told = c.emit_within.ensures in
    let same : min room room ≡ room = omega arith in
    (told.0 ∙ ap (emit_report a.m a.bound) same, told.1 ∙ ap (λ (r : ℕ). emit_left a.m a.bound r a.out.now) same)
