-- Cutting a clock at a ceiling: what a clock shows under a ceiling is the smaller of its value and that ceiling. No atom with a constant below the ceiling
-- sees the cut, and the cut commutes with delay, reset and copy. Values are any whole numbers: those under a greater ceiling, or under none.
use mathlib.Core.Path.{◌≡◌, refl, sym, ◌∙◌, ap}
use mathlib.Core.Logic.{⊎_elim}
use mathlib.Core.Bool.{not}
use Prim.Native.Nat.{ℕ, ◌+◌, ◌≤◌, ◌<◌, min}
use native.Mathlib.Omega.{arith}
use borrow.Author.Tests.{le-leb, lt-leb, lt-ltb, le-ltb, ne_eqb}
use Rattle.model.specs.declared.Relation.{Relation}
use Rattle.model.specs.declared.Relation.TheVariants.{Less, LessEqual, Equal, GreaterEqual, Greater, NotEqual}
use Rattle.model.specs.declared.ClockUpdate.{ClockUpdate}
use Rattle.model.specs.declared.ClockUpdate.TheVariants.{Unchanged, Reset, Copy}
use Rattle.model.specs.Automaton.{meets, new_clock}
use Rattle.model.proofs.IndexedLaws.{lt_or_le}

-- ---- atoms
-- a comparison with a constant below the ceiling does not see the cut
pub cut_meets : (r : Relation) (v top c : ℕ) → c < top → meets r (min v top) c ≡ meets r v c
cut_meets r v top c l = ⊎_elim (λ p. ap (λ (x : ℕ). meets r x c) (within p)) (λ p. above r (within' p) (omega arith)) (lt_or_le v top)
  where
    within : v < top → min v top ≡ v
    within p = omega arith

    within' : top ≤ v → min v top ≡ top
    within' p = omega arith

    -- two values above the constant meet the same comparisons
    apart : (x y : ℕ) → c < x → c < y → (r : Relation) → meets r x c ≡ meets r y c
    apart x y p q Less = le-ltb x c (omega arith) ∙ sym (le-ltb y c (omega arith))
    apart x y p q LessEqual = lt-leb x c p ∙ sym (lt-leb y c q)
    apart x y p q Equal = ne_eqb x c (λ e. omega (arith, e)) ∙ sym (ne_eqb y c (λ e. omega (arith, e)))
    apart x y p q GreaterEqual = le-leb c x (omega arith) ∙ sym (le-leb c y (omega arith))
    apart x y p q Greater = lt-ltb c x p ∙ sym (lt-ltb c y q)
    apart x y p q NotEqual = ap not (ne_eqb x c (λ e. omega (arith, e)) ∙ sym (ne_eqb y c (λ e. omega (arith, e))))

    above : (r : Relation) → min v top ≡ top → c < v → meets r (min v top) c ≡ meets r v c
    above r e p = apart (min v top) v (omega arith) p r

-- ---- delays
-- a cut at a lower ceiling after a cut at a higher one
pub cut_again : (v low top : ℕ) → low ≤ top → min (min v top) low ≡ min v low
cut_again v low top l = omega arith

-- a delay that is cut too, from the cut value, leads to the cut of the delayed value
pub cut_delay : (v d top : ℕ) → min (v + d) top ≡ min (min v top + min d top) top
cut_delay v d top = omega arith

-- the same where the delayed value is itself cut at a higher ceiling
pub cut_delayed : (v d low top : ℕ) → low ≤ top → min (min (v + d) top) low ≡ min (min v low + min d low) low
cut_delayed v d low top l = cut_again (v + d) low top l ∙ cut_delay v d low

-- ---- resets and copies
-- the cut of a clock's new value is the new value from cut values
pub cut_new : (before : ℕ → ℕ) (own top : ℕ) (u : ClockUpdate) → min (new_clock before own u) top ≡ new_clock (λ x. min (before x) top) (min own top) u
cut_new before own top Unchanged = refl
cut_new before own top Reset = omega arith
cut_new before own top (Copy w) = refl
