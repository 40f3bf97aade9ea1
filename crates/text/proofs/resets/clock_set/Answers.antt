-- `clock_set`: a clock and the one that it becomes a copy of, or a clock alone; each part is read, or not.
use Rattle.std.proofs.Common.{◌≡◌, ◌∙◌, sym, drop, true, false, None, Some}
use Rattle.text.specs.bytes.Bytes.{number_of, leading, following, assigns}
use Rattle.text.specs.resets.Resets.{source_of, clock_set}
use Rattle.text.proofs.resets.clock_set.Goals as goal

pub returns-in_err-clock : goal.returns-in_err-clock
unfolding clock_set
returns-in_err-clock c =
    let named : assigns (following c.args.s.now) ≡ true = rw (← c.leading-clock.ensures.1, ← c.assigns.ensures) c.if-assigns.true in
    let clock : leading c.args.s.now ≡ None = sym c.leading-clock.ensures.0 ∙ c.in_err-clock.was in
    rw (c.from_residual.ensures, named, clock)

pub returns-in_err-source : goal.returns-in_err-source
unfolding clock_set
returns-in_err-source c =
    let named : assigns (following c.args.s.now) ≡ true = rw (← c.leading-clock.ensures.1, ← c.assigns.ensures) c.if-assigns.true in
    let clock : leading c.args.s.now ≡ Some c.in_ok-clock.clock = sym c.leading-clock.ensures.0 ∙ c.in_ok-clock.was in
    let source : source_of (drop 2 (following c.args.s.now)) ≡ None = rw (← c.leading-clock.ensures.1, ← c.tail.ensures, ← c.source.ensures)
    c.in_err-source.was in
    rw (c.from_residual-in_err-source.ensures, named, clock, source)

pub returns-in_err-number : goal.returns-in_err-number
unfolding clock_set
returns-in_err-number c =
    let alone : assigns (following c.args.s.now) ≡ false = rw (← c.leading-clock.ensures.1, ← c.assigns.ensures) c.if-assigns.false in
    let n : number_of c.args.s.now ≡ None = sym c.number.ensures ∙ c.in_err-number.was in
    rw (c.from_residual-in_err-number.ensures, alone, n)

pub returns-in_ok-source : goal.returns-in_ok-source
unfolding clock_set
returns-in_ok-source c =
    let named : assigns (following c.args.s.now) ≡ true = rw (← c.leading-clock.ensures.1, ← c.assigns.ensures) c.if-assigns.true in
    let clock : leading c.args.s.now ≡ Some c.in_ok-clock.clock = sym c.leading-clock.ensures.0 ∙ c.in_ok-clock.was in
    let source : source_of (drop 2 (following c.args.s.now)) ≡ Some c.in_ok-source.source = rw
    (← c.leading-clock.ensures.1, ← c.tail.ensures, ← c.source.ensures) c.in_ok-source.was in
    rw (named, clock, source)

pub returns-in_ok-number : goal.returns-in_ok-number
unfolding clock_set
returns-in_ok-number c =
    let alone : assigns (following c.args.s.now) ≡ false = rw (← c.leading-clock.ensures.1, ← c.assigns.ensures) c.if-assigns.false in
    let n : number_of c.args.s.now ≡ Some c.in_ok-number.field-0 = sym c.number.ensures ∙ c.in_ok-number.was in
    rw (alone, n)
