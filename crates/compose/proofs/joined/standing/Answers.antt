-- `standing` builds the very record that the definition names.
use mathlib.Core.Path.{refl}
use Rattle.compose.specs.Joined.{standing}
use Rattle.compose.proofs.joined.standing.Goals as goal

pub returns : goal.returns
unfolding standing
returns c = refl
