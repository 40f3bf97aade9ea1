-- The state clauses of state 0, then the initial values.
use Rattle.std.proofs.Common.{arith}
use Rattle.model.proofs.FormLaws.{state_size_le}
use Rattle.list.proofs.PieceClauses.{start_piece}
use Rattle.parts.proofs.KnownLaws.{wf}
use Rattle.parts.proofs.LayoutLaws.{known_of_layout}
use Rattle.emission.proofs.ClauseLaws.{wrote_then, room_first, room_then, wrote_as, room_as}
use Rattle.emission.proofs.put_start.Goals as goal

pub put_state-state-requires : goal.put_state-state-requires
put_state-state-requires c =
    let l = c.args.layout.now in
    (omega (arith, state_size_le l.model (wf (known_of_layout l))), room_first _ (room_as (start_piece l.model) c.requires))

pub put_initial-requires : goal.put_initial-requires
put_initial-requires c = room_then c.put_state-state.ensures (room_as (start_piece c.args.layout.now.model) c.requires)

pub returns : goal.returns
returns c = wrote_as (start_piece c.args.layout.now.model) (wrote_then c.put_state-state.ensures c.put_initial.ensures)
