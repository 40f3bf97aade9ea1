-- `blank` builds the very record that `blank_model` defines.
use Rattle.std.proofs.Common.{refl}
use Rattle.model.specs.Record.{blank_model}
use Rattle.model.proofs.Model.blank.Goals as goal

pub returns : goal.returns
unfolding blank_model
returns c = refl
