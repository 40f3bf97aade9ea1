-- `put_step`: the group of the choice, then the block of the next state.
use Rattle.model.proofs.FormLaws.{ceiling_of_totals, choices_of_totals}
use Rattle.encode.proofs.BlockLaws.{step_is}
use Rattle.buffer.proofs.BufferLaws.{wrote_then, room_first, room_then, wrote_as, room_as}
use Rattle.encode.proofs.put_step.Goals as goal

pub put_group-after_choice-requires : goal.put_group-after_choice-requires
put_group-after_choice-requires c =
    let args = c.args in
    room_first _ (room_as (step_is args.m args.byte args.next args.z.choices (choices_of_totals _ _ c.requires.1)) c.requires.2)

pub put_state-requires : goal.put_state-requires
put_state-requires c =
    let pre = c.requires in
    let args = c.args in
    let pre₁ = pre.1 in (
      pre.0,
      ceiling_of_totals _ _ pre₁,
      room_then c.put_group-after_choice.ensures
          (room_as (step_is args.m args.byte args.next args.z.choices (choices_of_totals _ _ pre₁)) pre.2),
    )

pub returns : goal.returns
returns c =
    let put-group = c.put_group-after_choice in
    let args = c.args in
    wrote_as (step_is args.m args.byte args.next args.z.choices (choices_of_totals _ _ c.requires.1))
    (wrote_then put-group.ensures c.put_state.ensures)
