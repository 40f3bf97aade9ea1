-- Walks and runs: what the layers above cite instead of the definitions.
use mathlib.Core.Path.{◌≡◌, refl, sym, ap, subst, ◌∙◌}
use mathlib.Core.Logic.{◌↔◌}
use mathlib.Core.List.{List, [], ◌∷◌, ◌++◌}
use Rattle.std.specs.Prelude.{Option, None, Some}
use Prim.Native.Nat.{ℕ, zero, suc}
use lib.Dec.{T}
use lib.ListN.{replicate}
use Rattle.model.specs.declared.Model.{Model}
use Rattle.model.specs.declared.State.{State}
use Rattle.model.specs.Indexed.{and_then, only_if}
use Rattle.model.specs.Automaton.{initial_state, invariant_holds, step}
use Rattle.model.specs.Run.{walk, start, ends_in, is_run}
use Rattle.model.proofs.IndexedLaws.{eq_T, some_inj, some_none, only_if_lem, then_iff}
use Rattle.model.proofs.FormLaws.{WellFormed}
use Rattle.model.proofs.StepLaws.{Shaped, InRange, shaped_step, range_step, step_invariant, step_zero}

-- ---- walks
pub walk_nil : (m : Model) (s e : State) → (walk m s [] ≡ Some e) ↔ (s ≡ e)
unfolding walk
walk_nil m s e = (some_inj, ap Some)

pub walk_cons : (m : Model) (s e : State) (b : ℕ) (r : List ℕ) → (walk m s (b ∷ r) ≡ Some e) ↔ ((t : State) × (step m s b ≡ Some t) × (walk m t r ≡ Some e))
unfolding walk
walk_cons m s e b r = then_iff (step m s b) (λ t. walk m t r) e

pub walk_step : (m : Model) (s t : State) (b : ℕ) (r : List ℕ) → step m s b ≡ Some t → walk m s (b ∷ r) ≡ walk m t r
unfolding walk
walk_step m s t b r h = rw h

pub walk_app : (m : Model) (r q : List ℕ) (s e : State) → walk m s r ≡ Some e → walk m s (r ++ q) ≡ walk m e q
walk_app m [] q s e h = ap (λ (x : State). walk m x q) ((walk_nil m s e).0 h)
walk_app m (b ∷ r) q s e h = let x = (walk_cons m s e b r).0 h in walk_step m s x.0 b (r ++ q) x.1 ∙ walk_app m r q x.0 e x.2

-- a walk of the whole is a walk of its beginning
pub walk_cut : (m : Model) (r q : List ℕ) (s e : State) → walk m s (r ++ q) ≡ Some e → (d : State) × (walk m s r ≡ Some d)
walk_cut m [] q s e h = (s, (walk_nil m s s).1 refl)
walk_cut m (b ∷ r) q s e h =
    let x = (walk_cons m s e b (r ++ q)).0 h in
    let y = walk_cut m r q x.0 e x.2 in
    (y.0, (walk_cons m s y.0 b r).1 (x.0, x.1, y.1))

-- what a walk keeps
pub walk_keeps : (m : Model) (ok : WellFormed m) (r : List ℕ) (s e : State) → walk m s r ≡ Some e → Shaped m s → InRange m s → T (invariant_holds m s)
    → Shaped m e × InRange m e × T (invariant_holds m e)
walk_keeps m ok [] s e h p q i = let e = (walk_nil m s e).0 h in (rw e at p, rw e at q, rw e at i)
walk_keeps m ok (b ∷ r) s e h p q i =
    let x = (walk_cons m s e b r).0 h in
    walk_keeps m ok r x.0 e x.2 (shaped_step m ok s x.0 b p x.1) (range_step m ok s x.0 b p x.1 q) (step_invariant m ok s x.0 b p x.1)

-- a walk goes on by delays of 0
pub rest_walk : (m : Model) (ok : WellFormed m) (n : ℕ) (s : State) → Shaped m s → InRange m s → T (invariant_holds m s) → walk m s (replicate n 0) ≡ Some s
rest_walk m ok zero s p q i = (walk_nil m s s).1 refl
rest_walk m ok (suc n) s p q i = (walk_cons m s s 0 (replicate n 0)).1 (s, step_zero m ok s p q i, rest_walk m ok n s p q i)

-- ---- runs
pub record Run (m : Model) (r : List ℕ) (e : State) : Type 0 where
  pub allowed : T (invariant_holds m (initial_state m))
  pub walks : walk m (initial_state m) r ≡ Some e
  pub arrives : e.location ≡ m.target

ends_iff : (m : Model) (o : Option State) → T (ends_in m o) ↔ ((e : State) × (o ≡ Some e) × (e.location ≡ m.target))
ends_iff m None = (λ h. absurd h, λ h. absurd (some_none h.1))
ends_iff m (Some e) =
    (λ h. (e, refl, (eq_T e.location m.target).0 h), λ h. (eq_T e.location m.target).1 (ap (λ (x : State). x.location) (some_inj h.1) ∙ h.2))

pub run_iff : (m : Model) (r : List ℕ) → T (is_run m r) ↔ ((e : State) × Run m r e)
unfolding is_run start
run_iff m r = (
  (λ h.
      let x = (ends_iff m (and_then S (λ s. walk m s r))).0 h in
      let y = (then_iff S (λ s. walk m s r) x.0).0 x.1 in
      let z = (only_if_lem (invariant_holds m (initial_state m)) (initial_state m) y.0).0 y.1 in
      (x.0, record { allowed = z.0; walks = subst (λ (s : State). walk m s r ≡ Some x.0) (sym z.1) y.2; arrives = x.2 })),
  λ h. (ends_iff m (and_then S (λ s. walk m s r))).1 (
    h.0,
    (then_iff S (λ s. walk m s r) h.0).1
        (initial_state m, (only_if_lem (invariant_holds m (initial_state m)) (initial_state m) (initial_state m)).1 (h.1.allowed, refl), h.1.walks),
    h.1.arrives,
  ),
)
  where
    S : Option State
    S = only_if (invariant_holds m (initial_state m)) (initial_state m)
