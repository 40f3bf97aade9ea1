-- `walk_from`: the report from the start equals the report of the bytes left from the state reached, turn by turn.
use Rattle.std.proofs.Common.{ℕ, ◌≡◌, ◌+◌, ◌<◌, List, ◌∷◌, length, drop, drop_of_length-le, get_or, arith, sym, ap, ◌∙◌}
use borrow.Author.Tests.{le-leb, lt-leb, eq-eqb, ne_eqb}
use Rattle.std.proofs.Math.Seq.{drop-cons}
use native.Mathlib.Numerals.{add-one}
use Rattle.model.specs.declared.Model.{Model}
use Rattle.model.specs.declared.State.{State}
use Rattle.model.specs.Refusal.{Refusal}
use Rattle.model.proofs.FormLaws.{formed, ceiling_of_totals, choices_of_totals}
use Rattle.walk.specs.Walker.{walk_steps}
use Rattle.walk.proofs.Reports.{end_30, end_0, at_27, at_28, goes_on}
use Rattle.walk.proofs.walk_from.Goals as goal

-- the bytes that are left begin with the one that is read
left : (m : Model) (run : List ℕ) (t : ℕ) (s : State) (x : Refusal) → t < length run → x ≡ walk_steps m (t + 1) s (drop t run)
    → x ≡ walk_steps m (t + 1) s (get_or run t 0 ∷ drop (t + 1) run)
left m run t s x l e = e ∙ ap (walk_steps m (t + 1) s) (drop-cons run t 0 l ∙ ap (λ (n : ℕ). get_or run t 0 ∷ drop n run) (sym (add-one t)))

pub returns-then-z-byte : goal.returns-then-z-byte
returns-then-z-byte c =
    let h = left _ _ _ _ _ c.loop-t-test.true c.loop-t.invariant in
    let z = choices_of_totals _ _ c.totals-z.ensures in
    let b = at_27 c.args.m (c.loop-t.t + 1) c.loop-t.s (get_or c.args.run.now c.loop-t.t 0) (drop (c.loop-t.t + 1) c.args.run.now)
    (le-leb _ _ (omega (arith, z, c.if-z-byte.true))) in
    sym (h ∙ b)

pub overflow_cast-z : goal.overflow_cast-z
overflow_cast-z c = record { fits = omega (arith, ceiling_of_totals _ _ c.totals-z.ensures, (formed c.args.m c.requires.0).ceiling_le) }

pub advance-requires : goal.advance-requires
advance-requires c = (c.requires.0, ceiling_of_totals _ _ c.totals-z.ensures)

pub returns-in_default : goal.returns-in_default
returns-in_default c =
    let h = left _ _ _ _ _ c.loop-t-test.true c.loop-t.invariant in
    let z = choices_of_totals _ _ c.totals-z.ensures in
    let b = at_28 c.args.m (c.loop-t.t + 1) c.loop-t.s (get_or c.args.run.now c.loop-t.t 0) (drop (c.loop-t.t + 1) c.args.run.now)
    (lt-leb _ _ (omega (arith, z, c.if-z-byte.false))) (sym c.in_default.ensures) in
    sym (h ∙ b)

pub loop-t-preserved : goal.loop-t-preserved
loop-t-preserved c =
    let h = left _ _ _ _ _ c.loop-t-test.true c.loop-t.invariant in
    let z = choices_of_totals _ _ c.totals-z.ensures in
    h ∙ goes_on c.args.m (c.loop-t.t + 1) c.loop-t.s (get_or c.args.run.now c.loop-t.t 0) (drop (c.loop-t.t + 1) c.args.run.now)
    (lt-leb _ _ (omega (arith, z, c.if-z-byte.false))) (sym c.in-Some.ensures)

pub returns-then-s-m : goal.returns-then-s-m
returns-then-s-m c = sym (c.loop-t.invariant
    ∙ ap (walk_steps _ _ _) (drop_of_length-le c.args.run.now {i = c.loop-t.t} c.loop-t-test.false)
    ∙ end_30 _ _ _ (ne_eqb _ _ c.if-s-m.true))

pub returns : goal.returns
returns c = sym (c.loop-t.invariant
    ∙ ap (walk_steps _ _ _) (drop_of_length-le c.args.run.now {i = c.loop-t.t} c.loop-t-test.false)
    ∙ end_0 _ _ _ (eq-eqb _ _ c.if-s-m.false))
