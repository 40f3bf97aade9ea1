-- `ceiling`: 1 plus the greater of the two greatest constants.
use Rattle.std.proofs.Common.{rules}
use Rattle.model.specs.Automaton.{ceiling}
use Rattle.model.proofs.Model.ceiling.Goals as goal

pub returns : goal.returns
unfolding ceiling
returns c = record { is = search rules; most = search rules }
