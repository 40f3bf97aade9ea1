-- `totals`, number by number; no sum or product wraps, because every factor is a byte or bounded by a callee.
use Rattle.model.specs.Automaton.{state_size, choices, totals}
use Rattle.model.specs.declared.Model.{Model}
use Prim.Native.Nat.{◌+◌, ◌*◌, ◌≤◌}
use native.Mathlib.Omega.{arith}
use native.Mathlib.Nat.{mul-le-mul}
use borrow.Author.Rules.{rules}
use Rattle.model.proofs.Model.totals.Goals as goal

product : (m : Model) (n : Prim.Native.Nat.ℕ) → m.clocks ≤ 255 → n ≤ 256 → m.clocks * (n + 1) ≤ 65535
product m n p q = let r : n + 1 ≤ 257 = omega arith in mul-le-mul p r

pub overflow_mul-result : goal.overflow_mul-result
overflow_mul-result c =
    let at-ceiling = c.ceiling-ceiling in
    record { fits = omega (arith, product c.args.self at-ceiling.result (search rules) at-ceiling.ensures.most) }

pub overflow_add-result-3 : goal.overflow_add-result-3
overflow_add-result-3 c =
    let at-ceiling = c.ceiling-ceiling in
    record { fits = omega (arith, product c.args.self at-ceiling.result (search rules) at-ceiling.ensures.most) }

pub returns : goal.returns
unfolding totals state_size choices
returns c =
    let at-ceiling = c.ceiling-ceiling in
    let q = c.counters_size-counters.ensures.0 in
    let m = c.args.self in
    let p = at-ceiling.ensures.is in
    record {
      is = λ i. record { ceiling = p i; state = m.locations + q i + m.clocks * (p i + 1); choices = p i + 1 + m.used };
      ceiling_most = at-ceiling.ensures.most;
      state_most =
          omega (arith, product m at-ceiling.result (search rules) at-ceiling.ensures.most, c.counters_size-counters.ensures.1);
      choices_most = search rules;
    }
