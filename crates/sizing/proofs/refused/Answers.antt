-- `refused` builds the very record that `refused_sizes` defines.
use mathlib.Core.Path.{refl}
use Rattle.sizing.proofs.refused.Goals as goal

pub returns : goal.returns
returns c = refl
