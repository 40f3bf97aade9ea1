-- `updated`: the counters after the listed updates so far; the first that leaves its range makes the answer.
use Rattle.std.proofs.Common.{◌+◌, arith, sym, ap, ◌∙◌, ◌≡◌, ◌<◌, length, take, ℕ}
use Rattle.std.proofs.lemmas.List.{get_or-take, length-take-le}
use Rattle.model.specs.declared.Edge.{Edge}
use Rattle.model.specs.Automaton.{listed, applied}
use Rattle.model.proofs.Known.{order_long}
use Rattle.model.proofs.OrderLaws.{listed_le}
use Rattle.model.proofs.NewValues.{updated_first, updated_next, updated_stays}
use Rattle.model.proofs.Edge.updated.Goals as goal

within : (e : Edge) (n : ℕ) → n ≡ listed e → length e.order ≡ 4 → length (take n e.order) ≡ n
within e n p q = length-take-le n e.order (omega (arith, listed_le e))

pub shared_ref_as_front-order : goal.shared_ref_as_front-order
shared_ref_as_front-order c = omega (arith, c.listed.ensures, listed_le c.args.self)

pub slice_bounds-order-end : goal.slice_bounds-order-end
slice_bounds-order-end c = sym (within c.args.self _ c.listed.ensures (order_long c.args.self _ c.well_formed.0))

pub loop-counter-init : goal.loop-counter-init
loop-counter-init c = updated_first _ _ _

pub loop-counter-preserved : goal.loop-counter-preserved
loop-counter-preserved c =
    let a = c.args in
    let i = c.loop-counter.counter-index in
    let n = within a.self _ c.listed.ensures (order_long a.self _ c.well_formed.0) in
    let here : i < c.listed.result = omega (arith, n, c.loop-counter-test.true) in
    updated_next a.counters a.self a.values c.loop-counter.now i c.loop-counter.invariant
    (ap (applied a.counters a.self c.loop-counter.now) (sym (get_or-take c.listed.result a.self.order i 0 here)) ∙ sym c.in_ok-now.ensures)

pub returns-in_err-now : goal.returns-in_err-now
returns-in_err-now c =
    let a = c.args in
    let i = c.loop-counter.counter-index in
    let n = within a.self _ c.listed.ensures (order_long a.self _ c.well_formed.0) in
    let here : i < c.listed.result = omega (arith, n, c.loop-counter-test.true) in
    let stop = updated_next a.counters a.self a.values c.loop-counter.now i c.loop-counter.invariant
    (ap (applied a.counters a.self c.loop-counter.now) (sym (get_or-take c.listed.result a.self.order i 0 here)) ∙ sym c.in_err-now.ensures) in
    let none = updated_stays a.counters a.self a.values (i + 1) (listed a.self) stop (omega (arith, here, c.listed.ensures)) in
    cc

pub returns : goal.returns
returns c =
    let a = c.args in
    let n = within a.self _ c.listed.ensures (order_long a.self _ c.well_formed.0) in
    let e : c.loop-counter.counter-index ≡ listed a.self = omega (arith, n, c.loop-counter-test.false, c.listed.ensures) in
    sym (rw e at c.loop-counter.invariant)
