-- `read_head`: the lines one after the other; the first that is refused makes the answer.
use Rattle.std.proofs.Common.{rules, ◌≡◌, Err}
use Rattle.text.specs.lines.Lines.{locations_line, init_line, target_line, clocks_line, vars_line}
use Rattle.text.specs.lines.Sequence.{read_head}
use Rattle.text.proofs.lines.Turns.{stop, after_locations, after_init, after_target, vars_stays}
use Rattle.text.proofs.head.read_head.Goals as goal

pub returns-in_err-a : goal.returns-in_err-a
unfolding read_head
returns-in_err-a c =
    let e : c.from_residual.result ≡ Err c.in_err-a.field-0.0 = search rules in
    rw e (stop locations_line (λ p. vars_line (clocks_line (target_line (init_line p)))) c.args.text.now c.args.r _ c.in_err-a.ensures after_locations)

pub returns-in_err-b : goal.returns-in_err-b
unfolding read_head
returns-in_err-b c =
    let e : c.from_residual-in_err-b.result ≡ Err c.in_err-b.field-0.0 = search rules in
    rw (e, ← c.in_ok-a.ensures.is) (stop init_line (λ p. vars_line (clocks_line (target_line p))) c.args.text.now c.in_ok-a.a _ c.in_err-b.ensures after_init)

pub returns-in_err-c : goal.returns-in_err-c
unfolding read_head
returns-in_err-c c =
    let e : c.from_residual-in_err-c.result ≡ Err c.in_err-c.field-0.0 = search rules in
    rw (e, ← c.in_ok-a.ensures.is, ← c.in_ok-b.ensures.is)
    (stop target_line (λ p. vars_line (clocks_line p)) c.args.text.now c.in_ok-b.b _ c.in_err-c.ensures after_target)

pub returns-in_err-d : goal.returns-in_err-d
unfolding read_head
returns-in_err-d c =
    let e : c.from_residual-in_err-d.result ≡ Err c.in_err-d.field-0.0 = search rules in
    rw (e, ← c.in_ok-a.ensures.is, ← c.in_ok-b.ensures.is, ← c.in_ok-c.ensures.is)
    (stop clocks_line (λ p. vars_line p) c.args.text.now c.in_ok-c.c _ c.in_err-d.ensures vars_stays)

pub returns : goal.returns
unfolding read_head
returns c = rw (← c.in_ok-a.ensures.is, ← c.in_ok-b.ensures.is, ← c.in_ok-c.ensures.is, ← c.in_ok-d.ensures.is) c.vars_line.ensures
