-- `counters_size`: the loop holds the sum over the counters so far, each of size 256 or less.
use borrow.Author.Rules.{rules}
use Rattle.model.proofs.IndexedLaws.{sum_none, sum_more}
use native.Mathlib.Omega.{arith}
use mathlib.Core.Path.{◌≡◌, sym, ◌∙◌, ap₂}
use Prim.Native.Nat.{◌+◌}
use Rattle.model.proofs.Model.counters_size.Goals as goal

pub loop-i-init : goal.loop-i-init
loop-i-init c = (search rules, sym (sum_none _), search rules, search rules, search rules)

pub loop-i-preserved : goal.loop-i-preserved
loop-i-preserved c =
    let counter_size_lem = c.counter_size-sum in
    let v = c.loop-i.invariant in (
      search rules,
      ap₂ (λ (a b : Prim.Native.Nat.ℕ). a + b) v.1 counter_size_lem.ensures.0 ∙ sym (sum_more _ _),
      omega (arith, counter_size_lem.ensures.1),
      v.3,
      v.4,
    )

pub returns : goal.returns
returns c =
    let v = c.loop-i.invariant in
    let e : c.loop-i.i ≡ c.args.self.vars = omega (arith, v.3) in
    (rw e at v.1, omega (arith, v.2, v.4))
