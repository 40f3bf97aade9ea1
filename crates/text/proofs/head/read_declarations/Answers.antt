-- `read_declarations`: the lines one after the other; the first that is refused makes the answer.
use Rattle.std.proofs.Common.{rules, ◌≡◌, Err}
use Rattle.text.specs.lines.Lines.{edges_line}
use Rattle.text.specs.lines.Sequence.{read_head, read_counters, read_invariants}
use Rattle.text.proofs.lines.Turns.{stop, after_head, after_counters, edges_line_stays}
use Rattle.text.proofs.head.read_declarations.Goals as goal

pub returns-in_err-a : goal.returns-in_err-a
returns-in_err-a c =
    let e : c.from_residual.result ≡ Err c.in_err-a.field-0.0 = search rules in
    rw e (stop read_head (λ p. edges_line (read_invariants (read_counters p))) c.args.text.now c.args.r _ c.in_err-a.ensures after_head)

pub returns-in_err-b : goal.returns-in_err-b
returns-in_err-b c =
    let e : c.from_residual-in_err-b.result ≡ Err c.in_err-b.field-0.0 = search rules in
    rw (e, ← c.in_ok-a.ensures.is) (stop read_counters (λ p. edges_line (read_invariants p)) c.args.text.now c.in_ok-a.a _ c.in_err-b.ensures after_counters)

pub returns-in_err-c : goal.returns-in_err-c
returns-in_err-c c =
    let e : c.from_residual-in_err-c.result ≡ Err c.in_err-c.field-0.0 = search rules in
    rw (e, ← c.in_ok-a.ensures.is, ← c.in_ok-b.ensures.is)
    (stop read_invariants (λ p. edges_line p) c.args.text.now c.in_ok-b.b _ c.in_err-c.ensures edges_line_stays)

pub returns : goal.returns
returns c = rw (← c.in_ok-a.ensures.is, ← c.in_ok-b.ensures.is, ← c.in_ok-c.ensures.is) c.edges_line.ensures
