-- `walk_from`: the report from the start equals the report of the bytes left from the state reached, turn by turn.
use Rattle.std.proofs.Common.{◌≡◌, ◌+◌, drop}
use Rattle.walk.specs.Walker.{walk_steps}
use Rattle.walk.proofs.walk_from.Given as goal

abbrev pub invariant-loop-t : goal.invariant-loop-t
invariant-loop-t l = walk_steps l.fn.m 1 l.fn.first l.run ≡ walk_steps l.fn.m (l.t + 1) l.s (drop l.t l.run)
