-- The reports of the step call and of the walker, by the tests that decide them.
use mathlib.Core.Path.{◌≡◌}
use mathlib.Core.Bool.{true, false}
use mathlib.Core.List.{List, [], ◌∷◌}
use Rattle.std.specs.Prelude.{None, Some}
use Prim.Native.Nat.{ℕ, ◌+◌}
use lib.Dec.{ltb, leb, eqb}
use lib.ListN.{length}
use Rattle.model.specs.declared.Model.{Model}
use Rattle.model.specs.declared.State.{State}
use Rattle.model.specs.Automaton.{choices, step, initial_state, invariant_holds}
use Rattle.model.specs.Run.{start}
use Rattle.model.specs.Form.{well_formed, state_formed}
use Rattle.model.specs.Refusal.{refusal, accepted}
use Rattle.walk.specs.StepCall.{step_report, step_reported}
use Rattle.walk.specs.Walker.{walk_steps, walk_report}

-- ---- the step call
module _ (m : Model) (s : State) (b : ℕ) where
  pub step_20 : well_formed m ≡ false → step_report m s b ≡ step_reported 20 s
  unfolding step_report
  step_20 w = rw w

  module _ (w : well_formed m ≡ true) where
    pub step_10 : state_formed m s ≡ false → step_report m s b ≡ step_reported 10 s
    unfolding step_report
    step_10 f = rw (w, f)

    module _ (f : state_formed m s ≡ true) where
      pub step_27 : leb (choices m) b ≡ true → step_report m s b ≡ step_reported 27 s
      unfolding step_report
      step_27 h = rw (w, f, h)

      pub step_28 : leb (choices m) b ≡ false → step m s b ≡ None → step_report m s b ≡ step_reported 28 s
      unfolding step_report
      step_28 h n = rw (w, f, h, n)

      pub step_0 : leb (choices m) b ≡ false → {t : State} → step m s b ≡ Some t → step_report m s b ≡ step_reported 0 t
      unfolding step_report
      step_0 h n = rw (w, f, h, n)

-- ---- the walker's steps
module _ (m : Model) (t : ℕ) (s : State) where
  pub end_30 : eqb s.location m.target ≡ false → walk_steps m t s [] ≡ refusal 30 0
  unfolding walk_steps
  end_30 h = rw h

  pub end_0 : eqb s.location m.target ≡ true → walk_steps m t s [] ≡ accepted
  unfolding walk_steps
  end_0 h = rw h

  module _ (b : ℕ) (r : List ℕ) where
    pub at_27 : leb (choices m) b ≡ true → walk_steps m t s (b ∷ r) ≡ refusal 27 t
    unfolding walk_steps
    at_27 h = rw h

    pub at_28 : leb (choices m) b ≡ false → step m s b ≡ None → walk_steps m t s (b ∷ r) ≡ refusal 28 t
    unfolding walk_steps
    at_28 h n = rw (h, n)

    pub goes_on : leb (choices m) b ≡ false → {u : State} → step m s b ≡ Some u → walk_steps m t s (b ∷ r) ≡ walk_steps m (t + 1) u r
    unfolding walk_steps
    goes_on h n = rw (h, n)

-- ---- the walker
module _ (m : Model) (r : List ℕ) where
  pub walk_20 : well_formed m ≡ false → walk_report m r ≡ refusal 20 0
  unfolding walk_report
  walk_20 w = rw w

  module _ (w : well_formed m ≡ true) where
    pub walk_21 : ltb 64 (length r) ≡ true → walk_report m r ≡ refusal 21 0
    unfolding walk_report
    walk_21 l = rw (w, l)

    module _ (l : ltb 64 (length r) ≡ false) where
      pub walk_29 : invariant_holds m (initial_state m) ≡ false → walk_report m r ≡ refusal 29 0
      unfolding walk_report start
      walk_29 i = rw (w, l, i)

      pub walk_steps_lem : invariant_holds m (initial_state m) ≡ true → walk_report m r ≡ walk_steps m 1 (initial_state m) r
      unfolding walk_report start
      walk_steps_lem i = rw (w, l, i)
