-- The choice, the delays, the edges, the state after.
use Rattle.std.proofs.Common.{arith, ◌+◌}
use Rattle.parts.proofs.LayoutLaws.{known_of_layout}
use Rattle.emission.proofs.ListPieces.{block_below, step_below, edges_are, step_is}
use Rattle.emission.proofs.ClauseLaws.{wrote_then, room_first, room_then, wrote_as, room_as}
use Rattle.emission.proofs.put_step.Goals as goal

pub put_choice-delays-requires : goal.put_choice-delays-requires
put_choice-delays-requires c =
    let a = c.args in
    let m = a.layout.now.model in
    let k = known_of_layout a.layout.now in
    let whole = step_is m a.t _ _ c.block_start-o.ensures c.block_start-next.ensures in
    (step_below k a.t c.block_start-o.result c.requires.0 c.block_start-o.ensures, room_first _ (room_first _ (room_first _ (room_as whole c.requires.1))))

pub put_delays-edges-requires : goal.put_delays-edges-requires
put_delays-edges-requires c =
    let a = c.args in
    let m = a.layout.now.model in
    let k = known_of_layout a.layout.now in
    let fit = step_below k a.t c.block_start-o.result c.requires.0 c.block_start-o.ensures in
    let whole = step_is m a.t _ _ c.block_start-o.ensures c.block_start-next.ensures in
    (fit, room_then c.put_choice-delays.ensures (room_first _ (room_first _ (room_as whole c.requires.1))))

pub put_edges-state-requires : goal.put_edges-state-requires
put_edges-state-requires c =
    let a = c.args in
    let m = a.layout.now.model in
    let k = known_of_layout a.layout.now in
    let fit = step_below k a.t c.block_start-o.result c.requires.0 c.block_start-o.ensures in
    let whole = step_is m a.t _ _ c.block_start-o.ensures c.block_start-next.ensures in
    let front = wrote_then c.put_choice-delays.ensures c.put_delays-edges.ensures in
    let room = room_then front (room_first _ (room_as whole c.requires.1)) in
    (fit, omega arith, room_as (edges_are m c.block_start-o.result) room)

pub put_state-requires : goal.put_state-requires
put_state-requires c =
    let a = c.args in
    let m = a.layout.now.model in
    let k = known_of_layout a.layout.now in
    let whole = step_is m a.t _ _ c.block_start-o.ensures c.block_start-next.ensures in
    let edges = wrote_as (edges_are m c.block_start-o.result) c.put_edges-state.ensures in
    let front = wrote_then (wrote_then c.put_choice-delays.ensures c.put_delays-edges.ensures) edges in
    (block_below k (a.t + 1) c.block_start-next.result (omega arith) c.block_start-next.ensures, room_then front (room_as whole c.requires.1))

pub returns : goal.returns
returns c =
    let a = c.args in
    let m = a.layout.now.model in
    let k = known_of_layout a.layout.now in
    let whole = step_is m a.t _ _ c.block_start-o.ensures c.block_start-next.ensures in
    let edges = wrote_as (edges_are m c.block_start-o.result) c.put_edges-state.ensures in
    wrote_as whole (wrote_then (wrote_then (wrote_then c.put_choice-delays.ensures c.put_delays-edges.ensures) edges) c.put_state.ensures)
