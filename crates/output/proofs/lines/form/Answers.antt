-- `form`: the tests, one after the other, are those of the definition.
use mathlib.Core.Path.{sym, ◌∙◌}
use Rattle.text.specs.bytes.Ascii.{ascii}
use Rattle.output.specs.Lines.{form_of}
use Rattle.output.proofs.LineLaws.{begins, whole}
use Rattle.output.proofs.lines.form.Goals as goal

pub returns-then-starts_with : goal.returns-then-starts_with
unfolding form_of
returns-then-starts_with c = rw (begins (ascii "c ") c.args.l.now c.starts_with.ensures.value c.if-starts_with.true)

pub returns-then-eq : goal.returns-then-eq
unfolding form_of
returns-then-eq c =
    let l = c.args.l.now in
    rw (
      begins (ascii "c ") l c.starts_with.ensures.value c.if-starts_with.false,
      whole (ascii "s SATISFIABLE") l c.as_slice.ensures c.eq.ensures c.if-eq.true,
    )

pub returns-then-eq-2 : goal.returns-then-eq-2
unfolding form_of
returns-then-eq-2 c =
    let l = c.args.l.now in
    rw (
      begins (ascii "c ") l c.starts_with.ensures.value c.if-starts_with.false,
      whole (ascii "s SATISFIABLE") l c.as_slice.ensures c.eq.ensures c.if-eq.false,
      whole (ascii "s UNSATISFIABLE") l c.as_slice-else-eq.ensures c.eq-else-eq.ensures c.if-eq-2.true,
    )

pub returns-then-is_values : goal.returns-then-is_values
unfolding form_of
returns-then-is_values c =
    let l = c.args.l.now in
    rw (
      begins (ascii "c ") l c.starts_with.ensures.value c.if-starts_with.false,
      whole (ascii "s SATISFIABLE") l c.as_slice.ensures c.eq.ensures c.if-eq.false,
      whole (ascii "s UNSATISFIABLE") l c.as_slice-else-eq.ensures c.eq-else-eq.ensures c.if-eq-2.false,
      sym c.is_values.ensures ∙ c.if-is_values.true,
    )

pub returns-else-is_values : goal.returns-else-is_values
unfolding form_of
returns-else-is_values c =
    let l = c.args.l.now in
    rw (
      begins (ascii "c ") l c.starts_with.ensures.value c.if-starts_with.false,
      whole (ascii "s SATISFIABLE") l c.as_slice.ensures c.eq.ensures c.if-eq.false,
      whole (ascii "s UNSATISFIABLE") l c.as_slice-else-eq.ensures c.eq-else-eq.ensures c.if-eq-2.false,
      sym c.is_values.ensures ∙ c.if-is_values.false,
    )
