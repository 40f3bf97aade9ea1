-- All rows, from the first on.
use Rattle.std.proofs.Common.{arith}
use Rattle.emission.proofs.CutLaws.{rows_from_first}
use Rattle.emission.proofs.ClauseLaws.{wrote_as, room_as}
use Rattle.emission.proofs.put_list.Goals as goal

pub put_rows-requires : goal.put_rows-requires
put_rows-requires c = (c.requires.0, omega arith, room_as (rows_from_first c.args.layout.now.model c.args.bound) c.requires.1)

pub returns : goal.returns
returns c = wrote_as (rows_from_first c.args.layout.now.model c.args.bound) c.put_rows.ensures
