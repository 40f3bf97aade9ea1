-- `put_assignment`: the block of the initial state, then the blocks of the steps, each written where the one before it ended.
use mathlib.Core.Path.{sym, subst, ap}
use mathlib.Core.List.{List, ◌++◌}
use Prim.Native.Nat.{ℕ}
use Rattle.model.specs.declared.State.{State}
use Rattle.list.specs.Assignments.{one_hot, state_bytes, steps_bytes, assignment_of}
use Rattle.buffer.proofs.BufferLaws.{wrote_then, wrote_as, room_as, room_first, room_then}
use Rattle.encode.specs.BlockBytes.{Walks}
use Rattle.encode.proofs.put_assignment.Goals as goal

pub put_state-at-requires : goal.put_state-at-requires
unfolding assignment_of
put_state-at-requires c =
    let initial-state = c.initial_state-first in
    let pre = c.requires in
    let m = c.args.m in
    let run-now = c.args.run.now in (
      pre.0,
      c.ceiling.ensures.is,
      room_first (steps_bytes one_hot m initial-state.result run-now)
          (room_as (ap (λ (s : State). state_bytes one_hot m s ++ steps_bytes one_hot m s run-now) (sym initial-state.ensures)) pre.2),
    )

pub put_steps-requires : goal.put_steps-requires
unfolding assignment_of
put_steps-requires c =
    let initial-state = c.initial_state-first in
    let pre = c.requires in
    let m = c.args.m in
    let run-now = c.args.run.now in (
      pre.0,
      subst (λ (s : State). Walks m s run-now) (sym initial-state.ensures) pre.1,
      room_then c.put_state-at.ensures
          (room_as (ap (λ (s : State). state_bytes one_hot m s ++ steps_bytes one_hot m s run-now) (sym initial-state.ensures)) pre.2),
    )

pub returns : goal.returns
unfolding assignment_of
returns c =
    let args = c.args in
    let m = args.m in
    let blocks : State → List ℕ = λ s. state_bytes one_hot m s ++ steps_bytes one_hot m s args.run.now in
    wrote_as (sym (ap blocks c.initial_state-first.ensures))
    (wrote_then c.put_state-at.ensures c.put_steps.ensures)
