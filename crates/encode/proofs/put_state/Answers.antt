-- `put_state`: the groups of the location, the counters and the clocks, each written where the one before it ended.
use Rattle.std.proofs.Common.{arith, sym}
use Rattle.model.proofs.FormLaws.{formed}
use Rattle.encode.proofs.BlockLaws.{state_is, length_shown, length_first}
use Rattle.buffer.proofs.BufferLaws.{wrote_then, room_first, room_then, wrote_as, room_as}
use Rattle.encode.proofs.put_state.Goals as goal

pub clock_groups-clocks-requires : goal.clock_groups-clocks-requires
clock_groups-clocks-requires c = omega (arith, c.requires.1, (formed _ c.requires.0).ceiling_le)

pub put_group-after_location-requires : goal.put_group-after_location-requires
put_group-after_location-requires c =
    room_first _ (room_first _ (room_as
    (state_is c.args.m c.args.s c.args.top c.requires.0 c.requires.1 c.counter_groups-counters.ensures c.clock_groups-clocks.ensures) c.requires.2))

pub slice_bounds-counters-end : goal.slice_bounds-counters-end
slice_bounds-counters-end c = omega (arith, (formed _ c.requires.0).vars_le, length_shown _ _ c.counter_groups-counters.ensures)

pub slice_bounds-put_groups-end : goal.slice_bounds-put_groups-end
slice_bounds-put_groups-end c = sym (length_first _ _ _ (formed _ c.requires.0).vars_le c.counter_groups-counters.ensures)

pub put_groups-after_counters-requires : goal.put_groups-after_counters-requires
put_groups-after_counters-requires c =
    room_then c.put_group-after_location.ensures
    (room_first _ (room_as (state_is c.args.m c.args.s c.args.top c.requires.0 c.requires.1 c.counter_groups-counters.ensures
    c.clock_groups-clocks.ensures) c.requires.2))

pub slice_bounds-clocks-end : goal.slice_bounds-clocks-end
slice_bounds-clocks-end c = omega (arith, (formed _ c.requires.0).clocks_le, length_shown _ _ c.clock_groups-clocks.ensures)

pub slice_bounds-put_groups-end-2 : goal.slice_bounds-put_groups-end-2
slice_bounds-put_groups-end-2 c = sym (length_first _ _ _ (formed _ c.requires.0).clocks_le c.clock_groups-clocks.ensures)

pub put_groups-requires : goal.put_groups-requires
put_groups-requires c =
    room_then (wrote_then c.put_group-after_location.ensures c.put_groups-after_counters.ensures)
    (room_as (state_is c.args.m c.args.s c.args.top c.requires.0 c.requires.1 c.counter_groups-counters.ensures c.clock_groups-clocks.ensures) c.requires.2)

pub returns : goal.returns
returns c =
    wrote_as (state_is c.args.m c.args.s c.args.top c.requires.0 c.requires.1 c.counter_groups-counters.ensures c.clock_groups-clocks.ensures)
    (wrote_then (wrote_then c.put_group-after_location.ensures c.put_groups-after_counters.ensures) c.put_groups.ensures)
