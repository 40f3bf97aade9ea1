-- `advance`: a byte up to the ceiling is a delay, one below the number of choices an edge, any other no step.
use Rattle.std.proofs.Common.{ℕ, ◌+◌, ◌-◌, ◌<◌, ◌≤◌, arith, sym, ap, ◌∙◌}
use Rattle.model.proofs.StepLaws.{step_is_delay, step_is_edge, step_is_none}
use Rattle.model.proofs.FormLaws.{formed, choices_is}
use Rattle.model.specs.Automaton.{ceiling, delay_step, edge_step}
use Rattle.model.specs.Record.{edge_at}
use Rattle.walk.proofs.advance.Goals as goal

pub returns-then-byte-top : goal.returns-then-byte-top
returns-then-byte-top c =
    let a = c.args in
    let top = c.requires.1 in
    let p : a.byte ≤ ceiling a.m = omega (arith, c.if-byte-top.true, top) in
    c.delay.ensures ∙ ap (λ (t : ℕ). delay_step a.m t a.byte a.s) top ∙ sym (step_is_delay a.m a.s a.byte p)

pub bounds-m-e : goal.bounds-m-e
bounds-m-e c = omega (arith, (formed c.args.m c.requires.0).used_le)

pub returns-then-e-m : goal.returns-then-e-m
returns-then-e-m c =
    let a = c.args in
    let top = c.requires.1 in
    let p : ceiling a.m < a.byte = omega (arith, c.if-byte-top.false, top) in
    let q : a.byte - (ceiling a.m + 1) < a.m.used = omega (arith, c.if-e-m.true, top) in
    c.edge.ensures ∙ ap (λ (t : ℕ). edge_step a.m (edge_at a.m (a.byte - (t + 1))) a.s) top ∙ sym (step_is_edge a.m a.s a.byte p q)

pub returns-else-e-m : goal.returns-else-e-m
returns-else-e-m c =
    let a = c.args in
    sym (step_is_none a.m a.s a.byte (omega (arith, choices_is a.m, c.if-byte-top.false, c.if-e-m.false, c.requires.1)))
