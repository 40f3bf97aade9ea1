-- `reference`: no number, one that its test refuses, or one that passes.
use Rattle.std.proofs.Common.{rules, ◌≡◌, ◌∙◌, sym, refl, Err, Some, None}
use borrow.Author.Tests.{le-leb, lt-leb}
use Rattle.text.specs.bytes.Bytes.{number_of}
use Rattle.text.specs.bytes.Faulty.{fault_number}
use Rattle.text.specs.declared.bytes.LineFault.TheVariants.{NotOfItsForm}
use Rattle.text.specs.line.Values.{reference_faults}
use Rattle.text.proofs.bytes.Library.{form_refused, form_read}
use Rattle.text.proofs.line.reference.Goals as goal

pub returns-in_err-n : goal.returns-in_err-n
unfolding reference_faults fault_number
returns-in_err-n c =
    let p = form_refused NotOfItsForm c.number.result c.ok_or.ensures.value c.in_err-n.was in
    let e : c.from_residual.result ≡ Err c.in_err-n.field-0.0 = search rules in
    let none : number_of c.args.v.now ≡ None = sym c.number.ensures ∙ p.0 in
    rw (e, none, p.1) refl

pub returns-then-declared-n : goal.returns-then-declared-n
unfolding reference_faults fault_number
returns-then-declared-n c =
    let n : number_of c.args.v.now ≡ Some c.in_ok-n.n = sym c.number.ensures ∙ form_read NotOfItsForm c.number.result c.ok_or.ensures.value c.in_ok-n.was in
    rw (n, (le-leb _ _ c.if-declared-n.true)) refl

pub returns : goal.returns
unfolding reference_faults fault_number
returns c =
    let n : number_of c.args.v.now ≡ Some c.in_ok-n.n = sym c.number.ensures ∙ form_read NotOfItsForm c.number.result c.ok_or.ensures.value c.in_ok-n.was in
    rw (n, (lt-leb _ _ c.if-declared-n.false)) (refl, refl)
