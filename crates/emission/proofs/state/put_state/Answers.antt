-- The groups, then the invariants.
use Rattle.list.proofs.PieceClauses.{state_piece_lem}
use Rattle.emission.proofs.ClauseLaws.{wrote_then, room_first, room_then, wrote_as, room_as}
use Rattle.emission.proofs.state.put_state.Goals as goal

pub put_groups-groups-requires : goal.put_groups-groups-requires
put_groups-groups-requires c = (c.requires.0, room_first _ (room_as (state_piece_lem c.args.layout.now.model c.args.o) c.requires.1))

pub put_invariants-requires : goal.put_invariants-requires
put_invariants-requires c =
    (c.requires.0, room_then c.put_groups-groups.ensures (room_as (state_piece_lem c.args.layout.now.model c.args.o) c.requires.1))

pub returns : goal.returns
returns c =
    wrote_as (state_piece_lem c.args.layout.now.model c.args.o) (wrote_then c.put_groups-groups.ensures c.put_invariants.ensures)
