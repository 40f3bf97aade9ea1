-- `names_variable`: what the calls ensure is the definition.
use mathlib.Core.Path.{◌∙◌, ap}
use Rattle.output.specs.Literals.{is_positive, names_variable}
use Rattle.output.proofs.literals.names_variable.Goals as goal

pub returns : goal.returns
unfolding names_variable
returns c = c.is_positive.ensures ∙ ap is_positive c.unsigned.ensures
