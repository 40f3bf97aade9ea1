-- `set_earlier`: the two places compared.
use Rattle.std.proofs.Common.{rules}
use Rattle.model.specs.Automaton.{set_earlier}
use Rattle.model.proofs.updates.set_earlier.Goals as goal

pub returns : goal.returns
unfolding set_earlier
returns c = search rules
