-- `fits`: locations, clocks, counters, edges, then atoms, as the definition's conjunction.
use Rattle.std.proofs.Common.{arith}
use Rattle.std.proofs.lemmas.Grind.{common_steps}
use Rattle.compose.specs.Composed.{fits}
use Rattle.compose.proofs.fit.fits.Goals as goal

pub returns-then-invariants_fit : goal.returns-then-invariants_fit
unfolding fits
returns-then-invariants_fit c = grind (arith, common_steps)

pub returns-else-invariants_fit : goal.returns-else-invariants_fit
unfolding fits
returns-else-invariants_fit c = grind (arith, common_steps)
