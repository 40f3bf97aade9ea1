-- The writer that the piece's number names; the state after begins one block later.
use Rattle.std.proofs.Common.{arith, ◌+◌}
use Rattle.model.proofs.FormLaws.{choices_is}
use Rattle.parts.proofs.KnownLaws.{known_choices, known_top}
use Rattle.parts.proofs.LayoutLaws.{known_of_layout}
use Rattle.emission.proofs.ListPieces.{block_below, step_below, choice_is, delay_is, one_edge_is, state_after_is}
use Rattle.emission.proofs.ClauseLaws.{wrote_as, room_as}
use Rattle.emission.proofs.pieces.put_step_piece.Goals as goal

pub put_choice-requires : goal.put_choice-requires
put_choice-requires c =
    let a = c.args in
    let k = known_of_layout a.layout.now in
    let fit = step_below k a.t c.block_start-o.result c.requires.0 c.block_start-o.ensures in
    let whole = choice_is k a.t _ a.piece c.block_start-o.ensures c.if-piece-eq0.true in
    (fit, room_as whole c.requires.2)

pub returns-then-piece-eq0 : goal.returns-then-piece-eq0
returns-then-piece-eq0 c =
    let a = c.args in
    let k = known_of_layout a.layout.now in
    let whole = choice_is k a.t _ a.piece c.block_start-o.ensures c.if-piece-eq0.true in
    wrote_as whole c.put_choice.ensures

pub put_delay-requires : goal.put_delay-requires
put_delay-requires c =
    let a = c.args in
    let k = known_of_layout a.layout.now in
    let fit = step_below k a.t c.block_start-o.result c.requires.0 c.block_start-o.ensures in
    let whole = delay_is k a.t _ a.piece c.block_start-o.ensures c.if-piece-eq0.false c.if-piece-delays.true in
    (fit, omega (arith, c.if-piece-eq0.false, c.if-piece-delays.true), room_as whole c.requires.2)

pub returns-then-piece-delays : goal.returns-then-piece-delays
returns-then-piece-delays c =
    let a = c.args in
    let k = known_of_layout a.layout.now in
    let whole = delay_is k a.t _ a.piece c.block_start-o.ensures c.if-piece-eq0.false c.if-piece-delays.true in
    wrote_as whole c.put_delay.ensures

pub put_edges-requires : goal.put_edges-requires
put_edges-requires c =
    let a = c.args in
    let k = known_of_layout a.layout.now in
    let fit = step_below k a.t c.block_start-o.result c.requires.0 c.block_start-o.ensures in
    let whole = one_edge_is k a.t _ a.piece c.block_start-o.ensures c.if-piece-delays.false c.if-piece-choices.true in
    let sizes = choices_is a.layout.now.model in (
      fit,
      omega (arith, c.if-piece-delays.false, c.if-piece-choices.true, known_choices k, known_top k, sizes),
      room_as whole c.requires.2,
    )

pub returns-then-piece-choices : goal.returns-then-piece-choices
returns-then-piece-choices c =
    let a = c.args in
    let k = known_of_layout a.layout.now in
    let whole = one_edge_is k a.t _ a.piece c.block_start-o.ensures c.if-piece-delays.false c.if-piece-choices.true in
    wrote_as whole c.put_edges.ensures

pub put_state_piece-requires : goal.put_state_piece-requires
put_state_piece-requires c =
    let a = c.args in
    let k = known_of_layout a.layout.now in
    let whole = state_after_is k a.t _ a.piece c.block_start-next.ensures c.if-piece-choices.false in (
      block_below k (a.t + 1) c.block_start-next.result (omega (arith, c.requires.0)) c.block_start-next.ensures,
      omega (arith, known_choices k, c.requires.1, c.if-piece-choices.false),
      room_as whole c.requires.2,
    )

pub returns-else-piece-choices : goal.returns-else-piece-choices
returns-else-piece-choices c =
    let a = c.args in
    let k = known_of_layout a.layout.now in
    let whole = state_after_is k a.t _ a.piece c.block_start-next.ensures c.if-piece-choices.false in
    wrote_as whole c.put_state_piece.ensures
