-- `number`: the invariant is `Saying`, that the bytes passed say the number and none of them is a space.
use Rattle.output.proofs.WordLaws.{Saying}
use Rattle.output.proofs.literals.number.Given as goal

abbrev pub invariant-loop-i : goal.invariant-loop-i
invariant-loop-i l = Saying l.s l.variables.most l.n l.i
