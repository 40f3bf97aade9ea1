-- `new`: as many edges as there are moves.
use Rattle.compose.proofs.ComposedLaws.{count_in}
use Rattle.compose.proofs.pair.Pair.new.Goals as goal

pub fits-requires : goal.fits-requires
fits-requires c = count_in c.in_ok-a.a.model c.in_ok-b.b.model c.moves_of-list.ensures
