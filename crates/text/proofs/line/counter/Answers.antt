-- `counter`: the value is parted at its first comma, and both parts are read as numbers.
use Rattle.std.proofs.Common.{rules, ◌≡◌, ◌∙◌, sym, ap, refl, subst, Err, Some, None}
use Rattle.text.specs.bytes.Bytes.{number_of, Found}
use Rattle.text.specs.bytes.Faulty.{fault_number}
use Rattle.text.specs.declared.bytes.LineFault.TheVariants.{NotOfItsForm}
use Rattle.text.specs.line.Values.{greatest_of, initial_of, counter_faults}
use Rattle.text.proofs.Laws.Bytewise.{part_to_end}
use Rattle.text.proofs.bytes.Library.{form_refused, form_read}
use Rattle.text.proofs.line.DueLaws.{no_comma, before_comma, after_comma, no_greatest, no_initial}
use Rattle.text.proofs.line.counter.Goals as goal

pub returns-in_err-comma : goal.returns-in_err-comma
returns-in_err-comma c =
    let p = form_refused NotOfItsForm c.find.result c.ok_or.ensures.value c.in_err-comma.was in
    let e : c.from_residual.result ≡ Err c.in_err-comma.field-0.0 = search rules in
    let none : Found 44 0 c.args.v.now None = subst (Found 44 0 c.args.v.now) p.0 c.find.ensures in
    rw (e, p.1) (no_initial _ _ (no_comma c.args.v.now none))

pub returns-in_err-greatest : goal.returns-in_err-greatest
returns-in_err-greatest c =
    let f = subst (Found 44 0 c.args.v.now) (form_read NotOfItsForm c.find.result c.ok_or.ensures.value c.in_ok-comma.was) c.find.ensures in
    let p = form_refused NotOfItsForm c.number.result c.ok_or-2.ensures.value c.in_err-greatest.was in
    let e : c.from_residual-in_err-greatest.result ≡ Err c.in_err-greatest.field-0.0 = search rules in
    let g : greatest_of c.args.v.now ≡ None = before_comma c.args.v.now f.0 ∙ sym c.number.ensures ∙ p.0 in
    rw (e, p.1) (no_greatest _ _ g)

pub returns-in_err-initial : goal.returns-in_err-initial
returns-in_err-initial c =
    let f = subst (Found 44 0 c.args.v.now) (form_read NotOfItsForm c.find.result c.ok_or.ensures.value c.in_ok-comma.was) c.find.ensures in
    let p = form_refused NotOfItsForm c.number-2.result c.ok_or-3.ensures.value c.in_err-initial.was in
    let e : c.from_residual-in_err-initial.result ≡ Err c.in_err-initial.field-0.0 = search rules in
    let i : initial_of c.args.v.now ≡ None = after_comma c.args.v.now f.0 ∙ ap number_of (sym (part_to_end c.args.v.now _)) ∙ sym c.number-2.ensures ∙ p.0 in
    rw (e, p.1) (no_initial _ _ i)

pub returns-then-greatest-initial : goal.returns-then-greatest-initial
unfolding counter_faults fault_number
returns-then-greatest-initial c =
    let f = subst (Found 44 0 c.args.v.now) (form_read NotOfItsForm c.find.result c.ok_or.ensures.value c.in_ok-comma.was) c.find.ensures in
    let g : greatest_of c.args.v.now ≡ Some c.in_ok-greatest.greatest =
    before_comma c.args.v.now f.0 ∙ sym c.number.ensures ∙ form_read NotOfItsForm c.number.result c.ok_or-2.ensures.value c.in_ok-greatest.was in
    let i : initial_of c.args.v.now ≡ Some c.in_ok-initial.initial =
    after_comma c.args.v.now f.0 ∙ ap number_of (sym (part_to_end c.args.v.now _)) ∙ sym c.number-2.ensures
    ∙ form_read NotOfItsForm c.number-2.result c.ok_or-3.ensures.value c.in_ok-initial.was in
    rw (g, i, c.if-greatest-initial.true) refl

pub returns : goal.returns
unfolding counter_faults fault_number
returns c =
    let f = subst (Found 44 0 c.args.v.now) (form_read NotOfItsForm c.find.result c.ok_or.ensures.value c.in_ok-comma.was) c.find.ensures in
    let g : greatest_of c.args.v.now ≡ Some c.in_ok-greatest.greatest =
    before_comma c.args.v.now f.0 ∙ sym c.number.ensures ∙ form_read NotOfItsForm c.number.result c.ok_or-2.ensures.value c.in_ok-greatest.was in
    let i : initial_of c.args.v.now ≡ Some c.in_ok-initial.initial =
    after_comma c.args.v.now f.0 ∙ ap number_of (sym (part_to_end c.args.v.now _)) ∙ sym c.number-2.ensures
    ∙ form_read NotOfItsForm c.number-2.result c.ok_or-3.ensures.value c.in_ok-initial.was in
    rw (g, i, c.if-greatest-initial.false) (refl, refl)
