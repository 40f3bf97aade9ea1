-- `read_edge`: the lines one after the other; the first that is refused makes the answer.
use Rattle.std.proofs.Common.{rules, ◌≡◌, Err}
use Rattle.text.specs.lines.Lines.{from_line, to_line, label_line, when_line, set_line, reset_line}
use Rattle.text.specs.lines.Sequence.{read_edge}
use Rattle.text.proofs.lines.Turns.{stop, after_from, after_to, after_label, after_when, reset_stays}
use Rattle.text.proofs.edges.read_edge.Goals as goal

pub returns-in_err-a : goal.returns-in_err-a
unfolding read_edge
returns-in_err-a c =
    let e : c.from_residual.result ≡ Err c.in_err-a.field-0.0 = search rules in
    rw e (stop (from_line c.args.e) (λ p. reset_line c.args.e (set_line c.args.e (when_line c.args.e (label_line c.args.e (to_line c.args.e p)))))
    c.args.text.now c.args.r _ c.in_err-a.ensures (after_from c.args.e))

pub returns-in_err-b : goal.returns-in_err-b
unfolding read_edge
returns-in_err-b c =
    let e : c.from_residual-in_err-b.result ≡ Err c.in_err-b.field-0.0 = search rules in
    rw (e, ← c.in_ok-a.ensures.is) (stop (to_line c.args.e)
    (λ p. reset_line c.args.e (set_line c.args.e (when_line c.args.e (label_line c.args.e p)))) c.args.text.now c.in_ok-a.a _ c.in_err-b.ensures
    (after_to c.args.e))

pub returns-in_err-c : goal.returns-in_err-c
unfolding read_edge
returns-in_err-c c =
    let e : c.from_residual-in_err-c.result ≡ Err c.in_err-c.field-0.0 = search rules in
    rw (e, ← c.in_ok-a.ensures.is, ← c.in_ok-b.ensures.is)
    (stop (label_line c.args.e) (λ p. reset_line c.args.e (set_line c.args.e (when_line c.args.e p))) c.args.text.now c.in_ok-b.b _
    c.in_err-c.ensures (after_label c.args.e))

pub returns-in_err-d : goal.returns-in_err-d
unfolding read_edge
returns-in_err-d c =
    let e : c.from_residual-in_err-d.result ≡ Err c.in_err-d.field-0.0 = search rules in
    rw (e, ← c.in_ok-a.ensures.is, ← c.in_ok-b.ensures.is, ← c.in_ok-c.ensures.is)
    (stop (when_line c.args.e) (λ p. reset_line c.args.e (set_line c.args.e p)) c.args.text.now c.in_ok-c.c _ c.in_err-d.ensures (after_when c.args.e))

pub returns-in_err-f : goal.returns-in_err-f
unfolding read_edge
returns-in_err-f c =
    let e : c.from_residual-in_err-f.result ≡ Err c.in_err-f.field-0.0 = search rules in
    rw (e, ← c.in_ok-a.ensures.is, ← c.in_ok-b.ensures.is, ← c.in_ok-c.ensures.is, ← c.in_ok-d.ensures.is)
    (stop (set_line c.args.e) (λ p. reset_line c.args.e p) c.args.text.now c.in_ok-d.d _ c.in_err-f.ensures (reset_stays c.args.e))

pub returns : goal.returns
unfolding read_edge
returns c = rw (← c.in_ok-a.ensures.is, ← c.in_ok-b.ensures.is, ← c.in_ok-c.ensures.is, ← c.in_ok-d.ensures.is, ← c.in_ok-f.ensures.is) c.reset_line.ensures
