-- check_step: the choice and the delays, then the edges, then the state after the step.
use Rattle.std.proofs.Common.{arith, ap, ◌∙◌, ℕ, ◌+◌, ◌≤◌, length}
use Rattle.model.specs.Automaton.{state_size, choices}
use Rattle.list.specs.Clauses.{clauses_of, one_hot_width}
use Rattle.list.specs.Items.{state_items}
use Rattle.parts.proofs.KnownLaws.{known_bounded, step_in}
use Rattle.parts.proofs.LayoutLaws.{known_of_layout}
use Rattle.search.proofs.CheckLaws.{checked_as, stopped}
use Rattle.search.proofs.StepLaws.{after_step, edges_failed, front_failed, state_checked, step_small}
use Rattle.search.proofs.check_step.Goals as goal

pub check_front-requires : goal.check_front-requires
check_front-requires c =
    let k = known_of_layout c.args.layout.now in
    let m = c.args.layout.now.model in
    let o = c.block_start-o.result in
    let at-o = c.block_start-o.ensures in
    let pre = c.requires in
    let lies : o + state_size m + choices m + state_size m ≤ length c.args.a.now = omega (arith, at-o, pre.3) in
    (known_bounded k, omega (arith, step_small k o c.args.t at-o pre.2), step_in k o (length c.args.a.now) lies, omega (arith, pre.4))

pub returns-in_err-front : goal.returns-in_err-front
returns-in_err-front c =
    stopped c.from_residual.ensures.1 (front_failed (known_of_layout c.args.layout.now) _ c.args.t c.block_start-o.ensures c.in_err-front.ensures)

pub check_edges-requires : goal.check_edges-requires
check_edges-requires c =
    let at-o = c.block_start-o.ensures in
    let pre = c.requires in (
      pre.1,
      omega (arith, step_small (known_of_layout c.args.layout.now) _ c.args.t at-o pre.2),
      omega (arith, at-o, pre.3),
      omega
          (arith, c.in_ok-front.ensures.most, pre.4),
    )

pub returns-in_err-count : goal.returns-in_err-count
returns-in_err-count c =
    stopped c.from_residual-in_err-count.ensures.1
    (edges_failed (known_of_layout c.args.layout.now) _ c.args.t c.block_start-o.ensures c.in_ok-front.ensures c.in_err-count.ensures)

pub check_state-requires : goal.check_state-requires
check_state-requires c =
    let k = known_of_layout c.args.layout.now in
    let at-o = c.block_start-o.ensures in
    let pre = c.requires in
    let next = c.block_start.ensures ∙ after_step k _ c.args.t at-o in (
      pre.0,
      omega (arith, next, step_small k _ c.args.t at-o pre.2),
      omega (arith, next, at-o, pre.3),
      omega (arith, c.in_ok-front.ensures.most, c.in_ok-count.ensures.most, pre.4),
    )

pub returns : goal.returns
returns c =
    let here = checked_as (ap (λ (p : ℕ). clauses_of (state_items one_hot_width c.args.layout.now.model p)) c.block_start.ensures) c.check_state.ensures in
    state_checked (known_of_layout c.args.layout.now) _ c.args.t c.block_start-o.ensures c.in_ok-front.ensures c.in_ok-count.ensures here
