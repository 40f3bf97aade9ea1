-- `variables`: the definition at the numbers of `totals`, whose bounds keep the product below 2^64.
use Rattle.model.specs.Automaton.{totals, variables}
use Rattle.model.specs.declared.Totals.{Totals}
use mathlib.Core.Path.{ap}
use Prim.Native.Nat.{ℕ, ◌+◌, ◌*◌, ◌≤◌}
use native.Mathlib.Omega.{arith}
use native.Mathlib.Nat.{mul-le-mul}
use borrow.Author.Rules.{rules}
use Rattle.model.proofs.Model.variables.Goals as goal

product : (k s h : ℕ) → k ≤ 255 → s ≤ 131070 → h ≤ 512 → k * (s + h) ≤ 33553410
product k s h p q r = let t : s + h ≤ 131582 = omega arith in mul-le-mul p t

pub overflow_mul-result : goal.overflow_mul-result
overflow_mul-result c =
    let at_totals = c.totals-z in
    let totals-result = at_totals.result in
    let totals-ensures = at_totals.ensures in
    record {
      fits = omega (
        arith,
        product c.args.bound totals-result.state totals-result.choices (search rules) totals-ensures.state_most
            totals-ensures.choices_most,
      );
    }

pub overflow_add-result-2 : goal.overflow_add-result-2
overflow_add-result-2 c =
    let at_totals = c.totals-z in
    let totals-result = at_totals.result in
    let totals-ensures = at_totals.ensures in
    record {
      fits = omega (
        arith,
        product c.args.bound totals-result.state totals-result.choices (search rules) totals-ensures.state_most
            totals-ensures.choices_most,
      );
    }

pub returns : goal.returns
unfolding totals variables
returns c = ap (λ (z : Totals). z.state + c.args.bound * (z.state + z.choices)) c.totals-z.ensures.is
