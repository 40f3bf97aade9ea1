-- row_start: row 0 and row 1 begin at 0.
use Rattle.std.proofs.Common.{arith, ap, ◌≡◌, ℕ, ◌-◌, ◌+◌, ◌*◌}
use Rattle.model.specs.Automaton.{state_size, choices}
use Rattle.list.proofs.OneHot.{block_is}
use Rattle.dimacs.proofs.rows.row_start.Goals as goal

pub returns-then-row-eq0 : goal.returns-then-row-eq0
returns-then-row-eq0 c =
    let m = c.args.layout.now.model in
    let w = state_size m + choices m in
    let e : c.args.row - 1 ≡ 0 = omega (arith, c.if-row-eq0.true) in
    omega (arith, block_is m (c.args.row - 1), ap (λ (t : ℕ). t * w) e)
