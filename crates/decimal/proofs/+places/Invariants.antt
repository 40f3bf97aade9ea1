-- `places` calls itself with a smaller number.
use Rattle.decimal.proofs.+places.Given as goal

abbrev pub decreases-places : goal.decreases-places
decreases-places l = l.n
