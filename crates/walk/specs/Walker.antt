-- What the run walker answers.
use Rattle.std.specs.Prelude.{ℕ, ◌+◌, List, [], ◌∷◌, not, cond, ltb, leb, eqb, length, Result, Ok, Err}
use Rattle.model.specs.declared.Model.{Model}
use Rattle.model.specs.declared.State.{State}
use Rattle.model.specs.Indexed.{maybe}
use Rattle.model.specs.Automaton.{choices, step}
use Rattle.model.specs.Run.{start}
use Rattle.model.specs.Form.{well_formed}
use Rattle.model.specs.Refusal.{Refusal, refusal, accepted}
use Rattle.walk.specs.declared.RunRefusal.{RunRefusal}
use Rattle.walk.specs.declared.RunRefusal.TheVariants.{NotWellFormed, TooLong, InitialInvariantFails, NoSuchChoice, NotAllowed, NotInTarget}

-- from state s, per step t: 27 byte is H or more, 28 step not allowed, both with the step; then 30 end is not the target
unfoldable pub walk_steps : Model → ℕ → State → List ℕ → Refusal
walk_steps m t s [] = cond (eqb s.location m.target) accepted (refusal 30 0)
walk_steps m t s (b ∷ r) = cond (leb (choices m) b) (refusal 27 t) (maybe (step m s b) (refusal 28 t) (λ u. walk_steps m (t + 1) u r))

-- 20, then 21 more than 64 steps, then 29 initial invariant fails, then the steps from 1
unfoldable pub walk_report : Model → List ℕ → Refusal
walk_report m r =
    cond (not (well_formed m)) (refusal 20 0)
    (cond (ltb 64 (length r)) (refusal 21 0)
    (maybe (start m) (refusal 29 0) (λ s. walk_steps m 1 s r)))

-- the number and the place of each refusal
abbrev pub run_refusal : RunRefusal → Refusal
run_refusal NotWellFormed = refusal 20 0
run_refusal TooLong = refusal 21 0
run_refusal InitialInvariantFails = refusal 29 0
run_refusal (NoSuchChoice t) = refusal 27 t
run_refusal (NotAllowed t) = refusal 28 t
run_refusal NotInTarget = refusal 30 0

-- what a walk tells
abbrev pub walk_told : Result (Unit {0}) RunRefusal → Refusal
walk_told (Ok u) = accepted
walk_told (Err e) = run_refusal e
