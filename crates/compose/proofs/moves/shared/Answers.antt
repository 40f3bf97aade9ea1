-- `shared`: the label is not 0, and both models bear it.
use Rattle.std.proofs.Common.{arith}
use Rattle.std.proofs.lemmas.Grind.{common_steps}
use Rattle.compose.specs.Moves.{shared}
use Rattle.compose.proofs.moves.shared.Goals as goal

pub returns-then-bears : goal.returns-then-bears
unfolding shared
returns-then-bears c = grind (arith, common_steps)

pub returns-else-bears : goal.returns-else-bears
unfolding shared
returns-else-bears c = grind (arith, common_steps)
