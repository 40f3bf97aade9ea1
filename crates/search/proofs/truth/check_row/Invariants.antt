-- check_row: the pairs up to the d-th are true.
use mathlib.Core.List.{[], ◌∷◌}
use Prim.Native.Nat.{◌+◌}
use Rattle.list.specs.Clauses.{negated, one}
use Rattle.search.proofs.CheckLaws.{Upto}
use Rattle.search.proofs.truth.check_row.Given as goal

abbrev pub invariant-loop-d : goal.invariant-loop-d
invariant-loop-d l = Upto l.a (λ d. one (negated l.fn.x ∷ negated (l.fn.x + 1 + d) ∷ [])) 1 l.fn.at l.d l.fn.n l.count
