-- check_group: the pairs of the members up to the i-th are true.
use mathlib.Core.List.{[], ◌∷◌}
use Prim.Native.Nat.{◌+◌, ◌-◌}
use Rattle.model.specs.Indexed.{each}
use Rattle.list.specs.Clauses.{negated, one}
use Rattle.search.proofs.CheckLaws.{Upto}
use Rattle.search.proofs.truth.check_group.Given as goal

abbrev pub invariant-loop-i : goal.invariant-loop-i
invariant-loop-i l =
    Upto l.a (λ i. each (l.fn.n - (i + 1)) (λ d. one (negated (l.fn.b + i) ∷ negated (l.fn.b + i + 1 + d) ∷ []))) 64 l.initial.count l.i l.fn.n l.count
