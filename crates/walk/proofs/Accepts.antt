-- The walker accepts exactly the runs of at most 64 steps of well-formed models.
use mathlib.Core.Path.{◌≡◌, refl, sym, ap, subst}
use mathlib.Core.Logic.{◌↔◌}
use mathlib.Core.Bool.{Bool, true, false, not, cond}
use mathlib.Core.List.{List, [], ◌∷◌}
use Rattle.std.specs.Prelude.{Option, None, Some}
use Prim.Native.Nat.{ℕ, ◌+◌, ◌≤◌}
use native.Mathlib.Omega.{arith}
use lib.Dec.{T, ltb, leb, eqb, leb→le}
use lib.ListN.{length}
use borrow.Author.Tests.{ltb-false, ltb-true}
use Rattle.model.specs.declared.Model.{Model}
use Rattle.model.specs.declared.State.{State}
use Rattle.model.specs.Indexed.{and_then, maybe}
use Rattle.model.specs.Automaton.{choices, step}
use Rattle.model.specs.Run.{walk, start, ends_in, is_run}
use Rattle.model.specs.Form.{well_formed}
use Rattle.model.specs.Refusal.{Refusal, refusal, accepted, is_accepted}
use Rattle.model.proofs.StepLaws.{step_lt}
use Rattle.walk.specs.Walker.{walk_steps, walk_report}

abbrev numbered : Refusal → ℕ
numbered x = x.number

refuses : {n p : ℕ} → (n ≡ 0 → ⊥) → refusal n p ≡ accepted → ⊥
refuses f e = f (ap numbered e)

end_iff : (m : Model) (s : State) → T (ends_in m (Some s)) ↔ (cond (eqb s.location m.target) accepted (refusal 30 0) ≡ accepted)
end_iff m s = go (eqb s.location m.target)
  where
    go : (b : Bool) → T b ↔ (cond b accepted (refusal 30 0) ≡ accepted)
    go true = (λ h. refl, λ h. tt)
    go false = (λ h. absurd h, λ h. refuses (λ z. omega arith) h)

steps_iff : (m : Model) (r : List ℕ) (t : ℕ) (s : State) → T (ends_in m (walk m s r)) ↔ (walk_steps m t s r ≡ accepted)
unfolding walk walk_steps
steps_iff m [] t s = end_iff m s
steps_iff m (b ∷ r) t s = go (leb (choices m) b) refl (step m s b) refl (λ u. steps_iff m r (t + 1) u)
  where
    go : (x : Bool) → leb (choices m) b ≡ x → (o : Option State) → step m s b ≡ o
        → ((u : State) → T (ends_in m (walk m u r)) ↔ (walk_steps m (t + 1) u r ≡ accepted))
        → T (ends_in m (and_then o (λ u. walk m u r))) ↔ (cond x (refusal 27 t) (maybe o (refusal 28 t) (λ u. walk_steps m (t + 1) u r)) ≡ accepted)
    go true e None f ih = (λ h. absurd h, λ h. absurd (refuses (λ z. omega arith) h))
    go true e (Some u) f ih =
        (λ h. absurd (omega (arith, step_lt m s u b f, leb→le (choices m) b (subst T (sym e) tt))), λ h. absurd (refuses (λ z. omega arith) h))
    go false e None f ih = (λ h. absurd h, λ h. absurd (refuses (λ z. omega arith) h))
    go false e (Some u) f ih = ih u

-- accepted: the model is well formed, the run has at most 64 steps, and it is a run
pub accepts_iff : (m : Model) (r : List ℕ) → (walk_report m r ≡ accepted) ↔ (T (well_formed m) × (length r ≤ 64) × T (is_run m r))
unfolding walk_report is_run
accepts_iff m r = go (well_formed m) (ltb 64 (length r)) refl (start m)
  where
    go : (w l : Bool) → ltb 64 (length r) ≡ l → (o : Option State)
        → (cond (not w) (refusal 20 0) (cond l (refusal 21 0) (maybe o (refusal 29 0) (λ s. walk_steps m 1 s r))) ≡ accepted)
        ↔ (T w × (length r ≤ 64) × T (ends_in m (and_then o (λ s. walk m s r))))
    go false l e o = (λ h. absurd (refuses (λ z. omega arith) h), λ h. absurd h.0)
    go true true e o = (λ h. absurd (refuses (λ z. omega arith) h), λ h. absurd (omega (arith, ltb-true 64 (length r) e, h.1)))
    go true false e None = (λ h. absurd (refuses (λ z. omega arith) h), λ h. absurd h.2)
    go true false e (Some s) = (λ h. (tt, ltb-false 64 (length r) e, (steps_iff m r 1 s).1 h), λ h. (steps_iff m r 1 s).0 h.2)

-- ---- a report with the number 0 is that of an accepted run
abbrev ZeroAccepted : Refusal → Type 0
ZeroAccepted x = is_accepted x ≡ true → x ≡ accepted

never : {A : Type 0} → ◌≡◌ {A = Bool} false true → A
never e = absurd (subst T (sym e) tt)

steps_zero : (m : Model) (r : List ℕ) (t : ℕ) (s : State) → ZeroAccepted (walk_steps m t s r)
unfolding walk_steps
steps_zero m [] t s = go (eqb s.location m.target)
  where
    go : (b : Bool) → ZeroAccepted (cond b accepted (refusal 30 0))
    go true h = refl
    go false h = never h
steps_zero m (b ∷ r) t s = go (leb (choices m) b) (step m s b) (λ u. steps_zero m r (t + 1) u)
  where
    go : (x : Bool) (o : Option State) → ((u : State) → ZeroAccepted (walk_steps m (t + 1) u r))
        → ZeroAccepted (cond x (refusal 27 t) (maybe o (refusal 28 t) (λ u. walk_steps m (t + 1) u r)))
    go true o ih h = never h
    go false None ih h = never h
    go false (Some u) ih h = ih u h

pub zero_accepted : (m : Model) (r : List ℕ) → ZeroAccepted (walk_report m r)
unfolding walk_report
zero_accepted m r = go (well_formed m) (ltb 64 (length r)) (start m)
  where
    go : (w l : Bool) (o : Option State) → ZeroAccepted (cond (not w) (refusal 20 0) (cond l (refusal 21 0) (maybe o (refusal 29 0) (λ s. walk_steps m 1 s r))))
    go false l o h = never h
    go true true o h = never h
    go true false None h = never h
    go true false (Some s) h = steps_zero m r 1 s h
