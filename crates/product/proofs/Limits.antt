-- 38 exactly by the limits, and what the call on two records answers, case by case.
use mathlib.Core.Path.{◌≡◌, ap, ◌∙◌}
use mathlib.Core.Logic.{◌⊎◌, inl, inr, ⊎_elim}
use mathlib.Core.Bool.{Bool, true, false, not, ◌&&◌, cond}
use Prim.Native.Nat.{ℕ, zero, suc, ◌+◌, ◌*◌, ◌<◌}
use native.Mathlib.Omega.{arith}
use lib.Dec.{T, leb, nleb→lt, not_T, T_not}
use lib.ListN.{length}
use Rattle.model.specs.declared.Model.{Model}
use Rattle.model.specs.Indexed.{all_below}
use Rattle.model.specs.Record.{blank_model, invariant_at, edge_at}
use Rattle.model.specs.Form.{well_formed}
use Rattle.model.proofs.IndexedLaws.{and_T, split, cond_T, cond_F}
use Rattle.compose.specs.Joined.{atom_count}
use Rattle.compose.specs.Moves.{paired, moves}
use Rattle.compose.specs.Composed.{invariants_fit, guard_fits, guards_fit, fits, composed}
use Rattle.compose.specs.ComposeCall.{ComposeReport, compose_report, compose_reported}
use Rattle.product.specs.Limits.{Exceeds, locations, clocks, counters, edges, invariant, guard, BothFormed, ComposesExactly}
use Rattle.product.proofs.ComposedForm.{Fits, fits_of}

-- ---- tests that fail
-- if not every index passes, one fails
some_fails : (p : ℕ → Bool) (n : ℕ) → T (not (all_below p n)) → (i : ℕ) × (i < n) × T (not (p i))
unfolding all_below
some_fails p zero h = absurd h
some_fails p (suc n) h = ⊎_elim (λ t. (n, omega arith, last t)) (λ f. let g = some_fails p n f in (g.0, omega (arith, g.1), g.2)) (split (all_below p n))
  where
    last : T (all_below p n) → T (not (p n))
    last t = not_T (p n) (λ u. T_not (all_below p n && p n) h ((and_T (all_below p n) (p n)).1 (t, u)))

-- one of two fails
one_fails : (x y : Bool) → T (not (x && y)) → T (not x) ⊎ T (not y)
one_fails true y h = inr h
one_fails false y h = inl tt

twice : (x : Bool) → T x → T (not (not x))
twice true h = tt
twice false h = absurd h

-- ---- the six limits
module _ (a b : Model) where
  abbrev locations_ok : Bool
  locations_ok = leb (a.locations * b.locations) 16

  abbrev clocks_ok : Bool
  clocks_ok = leb (a.clocks + b.clocks) 4

  abbrev vars_ok : Bool
  vars_ok = leb (a.vars + b.vars) 4

  abbrev edges_ok : Bool
  edges_ok = leb (length (moves a b)) 32

  exceeds_not : Exceeds a b → Fits a b → ⊥
  exceeds_not (locations p) h = omega (arith, p, h.locations_fit)
  exceeds_not (clocks p) h = omega (arith, p, h.clocks_fit)
  exceeds_not (counters p) h = omega (arith, p, h.vars_fit)
  exceeds_not (edges p) h = omega (arith, p, h.moves_fit)
  exceeds_not (invariant i j p q r) h = omega (arith, r, h.invariants_fit_lem i j p q)
  exceeds_not (guard e f p q t r) h = omega (arith, r, h.guards_fit_lem e f p q t)

  invariant_exceeds : T (not (invariants_fit a b)) → Exceeds a b
  unfolding invariants_fit
  invariant_exceeds h =
      let g = some_fails (λ i. all_below (λ j. leb (atom_count (invariant_at a i) + atom_count (invariant_at b j)) 4) b.locations) a.locations h in
      let k = some_fails (λ j. leb (atom_count (invariant_at a g.0) + atom_count (invariant_at b j)) 4) b.locations g.2 in
      invariant g.0 k.0 g.1 k.1 (nleb→lt (atom_count (invariant_at a g.0) + atom_count (invariant_at b k.0)) 4 k.2)

  guard_exceeds : T (not (guards_fit a b)) → Exceeds a b
  unfolding guards_fit
  guard_exceeds h =
      let g = some_fails (λ e. all_below (guard_fits a b e) b.used) a.used h in
      let k = some_fails (guard_fits a b g.0) b.used g.2 in
      let w = go (paired a b g.0 k.0) (leb (atom_count (edge_at a g.0).guard + atom_count (edge_at b k.0).guard) 4) k.2 in
      guard g.0 k.0 g.1 k.1 w.0 (nleb→lt (atom_count (edge_at a g.0).guard + atom_count (edge_at b k.0).guard) 4 w.1)
    where
      go : (x y : Bool) → T (not (cond x y true)) → T x × T (not y)
      go true y h = (tt, h)
      go false y h = absurd h

  pub not_fits : T (not (fits a b)) → Exceeds a b
  unfolding fits
  not_fits h = ⊎_elim (λ h5. ⊎_elim (λ h4. ⊎_elim (λ h3. ⊎_elim (λ h2. ⊎_elim
      (λ h1. locations (nleb→lt (a.locations * b.locations) 16 h1))
      (λ h1. clocks (nleb→lt (a.clocks + b.clocks) 4 h1))
      (one_fails locations_ok clocks_ok h2))
      (λ h2. counters (nleb→lt (a.vars + b.vars) 4 h2))
      (one_fails (locations_ok && clocks_ok) vars_ok h3))
      (λ h3. edges (nleb→lt (length (moves a b)) 32 h3))
      (one_fails (locations_ok && clocks_ok && vars_ok) edges_ok h4))
      invariant_exceeds
      (one_fails (locations_ok && clocks_ok && vars_ok && edges_ok) (invariants_fit a b) h5))
      guard_exceeds
      (one_fails (locations_ok && clocks_ok && vars_ok && edges_ok && invariants_fit a b) (guards_fit a b) h)

-- what does not exceed them fits
pub fitting : (a b : Model) → (Exceeds a b → ⊥) → T (fits a b)
fitting a b h = ⊎_elim (λ t. t) (λ f. absurd (h (not_fits a b f))) (split (fits a b))

-- ---- the call
module _ (a b : Model) where
  reported : {n : ℕ} {m : Model} → compose_report a b ≡ compose_reported n m → (compose_report a b).number ≡ n
  reported e = ap (λ (r : ComposeReport). r.number) e

  told : {n : ℕ} {m : Model} → compose_report a b ≡ compose_reported n m → (compose_report a b).model ≡ m
  told e = ap (λ (r : ComposeReport). r.model) e

  is_20 : T (not (well_formed a && well_formed b)) → compose_report a b ≡ compose_reported 20 blank_model
  unfolding compose_report
  is_20 h = cond_T (not (well_formed a && well_formed b)) (compose_reported 20 blank_model)
      (cond (not (fits a b)) (compose_reported 38 blank_model) (compose_reported 0 (composed a b))) h

  is_composed : T (well_formed a && well_formed b) → compose_report a b
      ≡ cond (not (fits a b)) (compose_reported 38 blank_model) (compose_reported 0 (composed a b))
  unfolding compose_report
  is_composed h = cond_F (not (well_formed a && well_formed b)) (compose_reported 20 blank_model)
      (cond (not (fits a b)) (compose_reported 38 blank_model) (compose_reported 0 (composed a b))) (twice (well_formed a && well_formed b) h)

  is_38 : T (well_formed a && well_formed b) → T (not (fits a b)) → compose_report a b ≡ compose_reported 38 blank_model
  is_38 h g = is_composed h ∙ cond_T (not (fits a b)) (compose_reported 38 blank_model) (compose_reported 0 (composed a b)) g

  pub is_0 : T (well_formed a && well_formed b) → T (fits a b) → compose_report a b ≡ compose_reported 0 (composed a b)
  is_0 h g = is_composed h ∙ cond_F (not (fits a b)) (compose_reported 38 blank_model) (compose_reported 0 (composed a b)) (twice (fits a b) g)

  pub composes_exactly : ComposesExactly a b
  composes_exactly = ⊎_elim (λ h. ⊎_elim (composing h) (exceeding h) (split (fits a b))) malformed (split (well_formed a && well_formed b))
    where
      both : BothFormed a b → T (well_formed a && well_formed b)
      both g = (and_T (well_formed a) (well_formed b)).1 g

      malformed : T (not (well_formed a && well_formed b)) → ComposesExactly a b
      malformed h =
          let n = reported (is_20 h) in
          let no : BothFormed a b → ⊥ = λ g. T_not (well_formed a && well_formed b) h (both g) in
          record {
            refuses_20 = (λ e. no, λ e. n);
            refuses_38 = (λ e. absurd (omega (arith, e, n)), λ g. absurd (no g.0));
            accepts = (λ e. absurd (omega (arith, e, n)), λ g. absurd (no g.0));
            accepted_model = λ e. absurd (omega (arith, e, n));
            refused_model = λ e. told (is_20 h);
          }

      exceeding : T (well_formed a && well_formed b) → T (not (fits a b)) → ComposesExactly a b
      exceeding h g =
          let n = reported (is_38 h g) in
          let ok = (and_T (well_formed a) (well_formed b)).0 h in
          let x = not_fits a b g in
          record {
            refuses_20 = (λ e. absurd (omega (arith, e, n)), λ e. absurd (e ok));
            refuses_38 = (λ e. (ok, x), λ e. n);
            accepts = (λ e. absurd (omega (arith, e, n)), λ e. absurd (e.1 x));
            accepted_model = λ e. absurd (omega (arith, e, n));
            refused_model = λ e. told (is_38 h g);
          }

      composing : T (well_formed a && well_formed b) → T (fits a b) → ComposesExactly a b
      composing h g =
          let n = reported (is_0 h g) in
          let ok = (and_T (well_formed a) (well_formed b)).0 h in
          let no : Exceeds a b → ⊥ = λ x. exceeds_not a b x (fits_of a b g) in
          record {
            refuses_20 = (λ e. absurd (omega (arith, e, n)), λ e. absurd (e ok));
            refuses_38 = (λ e. absurd (omega (arith, e, n)), λ e. absurd (no e.1));
            accepts = (λ e. (ok, no), λ e. n);
            accepted_model = λ e. told (is_0 h g);
            refused_model = λ e. absurd (e n);
          }
