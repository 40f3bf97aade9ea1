-- `is_last`: the two tests are those of the definition.
use mathlib.Core.Path.{◌≡◌, sym, ap, ◌∙◌}
use mathlib.Core.Bool.{Bool}
use mathlib.Core.List.{List, [], ◌∷◌}
use Prim.Native.Nat.{ℕ}
use lib.Dec.{eqb}
use lib.Pointwise.{pointwise}
use Rattle.output.specs.Literals.{is_zero, are_literals}
use Rattle.output.proofs.WordLaws.{zero_is}
use Rattle.output.proofs.literals.is_last.Goals as goal

-- the answer of the first test
zero : (w : List ℕ) {s : List ℕ} {r t : Bool} → s ≡ 48 ∷ [] → r ≡ pointwise eqb w s → r ≡ t → is_zero w ≡ t
zero w s e h = sym (zero_is w) ∙ ap (pointwise eqb w) (sym s) ∙ sym e ∙ h

pub returns-then-eq : goal.returns-then-eq
unfolding are_literals
returns-then-eq c = rw (zero c.args.w.now c.as_slice.ensures c.eq.ensures c.if-eq.true) c.if-eq.true

pub returns-else-eq : goal.returns-else-eq
unfolding are_literals
returns-else-eq c = rw (zero c.args.w.now c.as_slice.ensures c.eq.ensures c.if-eq.false) c.names_variable.ensures
