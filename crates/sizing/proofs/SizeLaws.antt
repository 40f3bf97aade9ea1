-- What is said of an answer is said of the report that it tells; and the program's words.
use Rattle.std.proofs.Common.{ℕ, ◌≡◌, List, length, refl, ap, ◌∙◌, Err}
use Rattle.std.specs.Prelude.{ℤ}
use Rattle.emission.specs.declared.EmitRefusal.{EmitRefusal}
use Rattle.emission.specs.declared.EmitRefusal.TheVariants.{NotWellFormed, BoundTooLarge, BufferTooShort}
use Rattle.emission.specs.EmitCall.{emit_told}
use Rattle.text.specs.Text.{ReadReport}
use Rattle.sizing.specs.SizeCall.{SizeReport, emitted_sizes, text_sizes, text_left, size_report, program_words, program_report}

-- nothing but the number and the words is told of a refusal
pub refusal_is : (e : EmitRefusal) → record
    { number = (emit_told (Err e)).number; line = 0; variables = 0; clauses = 0; words = (emit_told (Err e)).words } ≡ emitted_sizes (emit_told (Err e))
refusal_is NotWellFormed = refl
refusal_is BoundTooLarge = refl
refusal_is (BufferTooShort w) = refl

pub sizes_as : (x y : ReadReport) → x ≡ y → (k : ℕ) (out o : List ℤ) (r : SizeReport) → (r ≡ text_sizes x k (length out)) × (o ≡ text_left x k out)
    → (r ≡ text_sizes y k (length out)) × (o ≡ text_left y k out)
sizes_as x y is k out o r e =
    (e.0 ∙ ap (λ (z : ReadReport). text_sizes z k (length out)) is, e.1 ∙ ap (λ (z : ReadReport). text_left z k out) is)

-- ---- the program
pub program_is : (t : List ℕ) (room : ℕ) → room ≡ program_words → (r : SizeReport) → r ≡ size_report t room → r ≡ program_report t
unfolding program_report
program_is t room h r e = e ∙ ap (size_report t) h
