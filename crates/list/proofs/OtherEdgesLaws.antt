-- A record with other edges has the same steps and the same list, if it has the same ceiling and its edges have the same steps and items. Where no
-- ceiling is seen, the two sides are one.
use mathlib.Core.Path.{◌≡◌, refl, sym, ap, ap₂, subst, ◌∙◌}
use mathlib.Core.Bool.{Bool, true, false, cond}
use mathlib.Core.List.{List, [], ◌∷◌, ◌++◌}
use Rattle.std.specs.Prelude.{None}
use Prim.Native.Nat.{ℕ, ◌+◌, ◌-◌, ◌<◌}
use native.Mathlib.Omega.{arith}
use lib.Dec.{T, leb, ltb, ltb→lt}
use lib.ListN.{get_or}
use borrow.Author.Tests.{leb-false}
use Rattle.model.specs.declared.Atom.{Atom}
use Rattle.model.specs.declared.Atom.TheVariants.{Blank, OnClock, OnCounter}
use Rattle.model.specs.declared.Update.{Update}
use Rattle.model.specs.declared.Update.TheVariants.{Keep, Constant, Sum}
use Rattle.model.specs.declared.ClockUpdate.{ClockUpdate}
use Rattle.model.specs.declared.ClockUpdate.TheVariants.{Unchanged, Reset, Copy}
use Rattle.model.specs.declared.Edge.{Edge}
use Rattle.model.specs.declared.Model.{Model}
use Rattle.model.specs.declared.State.{State}
use Rattle.model.specs.Record.{atom_at, update_at, reset_at, invariant_at, edge_at, past_edge}
use Rattle.model.specs.Automaton.{loc, ceiling, choices, invariant_holds, delay_step, edge_allowed, edge_step, step}
use Rattle.model.proofs.FormLaws.{choices_is}
use Rattle.list.specs.Items.{Item, Member, state_member, choice_member, block_at, next_block, exclude_failing, exclude_all_failing, group_items}
use Rattle.list.specs.Items.{invariant_items, state_items, initial_items, start_items, choice_items, delay_items, delays_items, source_items, target_items}
use Rattle.list.specs.Items.{guard_items, update_items, updates_items, reset_items, resets_items, edge_items, edges_items, step_items, body_items}
use Rattle.list.specs.Items.{end_items, items}
use Rattle.list.specs.OtherEdges.{with_edges}
use Rattle.list.proofs.ListLaws.{each_cong}

module _ (width : ℕ → ℕ) (m : Model) (es : List Edge) (top : ceiling (with_edges m es) ≡ ceiling m) where
  pub choices_same : choices (with_edges m es) ≡ choices m
  unfolding choices
  choices_same = rw top refl

  -- ---- a state
  groups_same : (o : ℕ) → group_items width (with_edges m es) o ≡ group_items width m o
  unfolding group_items
  groups_same o = rw top refl

  pub initial_same : initial_items width (with_edges m es) ≡ initial_items width m
  unfolding initial_items
  initial_same = rw top refl

  exclude_same : (o : ℕ) (ms : List Member) (a : Atom) → exclude_failing width (with_edges m es) o ms a ≡ exclude_failing width m o ms a
  exclude_same o ms Blank = refl
  exclude_same o ms (OnClock x relation constant) = rw top (each_cong (ceiling m + 1) _ _ (λ v l. rw top refl))
  exclude_same o ms (OnCounter x relation constant) = refl

  pub atoms_same : (o : ℕ) (ms : List Member) (atoms : List Atom)
      → exclude_all_failing width (with_edges m es) o ms atoms ≡ exclude_all_failing width m o ms atoms
  atoms_same o ms atoms = each_cong 4 _ _ (λ k l. exclude_same o ms (atom_at atoms k))

  invariants_same : (o : ℕ) → invariant_items width (with_edges m es) o ≡ invariant_items width m o
  unfolding invariant_items
  invariants_same o = each_cong m.locations _ _ (λ l p. atoms_same o (state_member width m o loc l ∷ []) (invariant_at m l))

  state_same : (o : ℕ) → state_items width (with_edges m es) o ≡ state_items width m o
  unfolding state_items
  state_same o = ap₂ (λ (a b : List Item). a ++ b) (groups_same o) (invariants_same o)

  -- ---- a step
  pub choice_same : (o : ℕ) → choice_items width (with_edges m es) o ≡ choice_items width m o
  unfolding choice_items
  choice_same o = rw (choices_same, top) refl

  pub delay_same : (o d : ℕ) → delay_items width (with_edges m es) o d ≡ delay_items width m o d
  unfolding delay_items
  delay_same o d = rw (choices_same, top) refl

  delays_same : (o : ℕ) → delays_items width (with_edges m es) o ≡ delays_items width m o
  unfolding delays_items
  delays_same o = rw top (each_cong (ceiling m + 1) _ _ (λ d p. delay_same o d))

  -- ---- an edge
  module _ (o c : ℕ) where
    update_same : (order : List ℕ) (i : ℕ) (u : Update) → update_items width (with_edges m es) o c order i u ≡ update_items width m o c order i u
    update_same order i Keep = rw (choices_same, top) refl
    update_same order i (Constant n) = rw (choices_same, top) refl
    update_same order i (Sum w z) = rw (choices_same, top) refl

    reset_same : (i : ℕ) (u : ClockUpdate) → reset_items width (with_edges m es) o c i u ≡ reset_items width m o c i u
    reset_same i Unchanged = rw (choices_same, top) refl
    reset_same i Reset = rw (choices_same, top) refl
    reset_same i (Copy w) = rw (choices_same, top) refl

    guard_same : (e : Edge) → guard_items width (with_edges m es) o c e ≡ guard_items width m o c e
    unfolding guard_items
    guard_same e = rw (choices_same, top) (atoms_same o (choice_member width m o c ∷ []) e.guard)

    pub edge_same : (e : Edge) → edge_items width (with_edges m es) o c e ≡ edge_items width m o c e
    unfolding edge_items source_items target_items updates_items resets_items
    edge_same e = rw (
      guard_same e,
      each_cong m.vars _ _ (λ i p. update_same e.order i (update_at e i)),
      each_cong m.clocks _ _ (λ i p. reset_same i (reset_at e i)),
      choices_same,
      top,
    ) refl

  -- ---- the list
  module _ (h : (e : ℕ) → e < m.used → (o c : ℕ) → edge_items width m o c (get_or es e past_edge) ≡ edge_items width m o c (edge_at m e)) where
    edges_same : (o : ℕ) → edges_items width (with_edges m es) o ≡ edges_items width m o
    unfolding edges_items
    edges_same o = each_cong m.used _ _ (λ e p. rw top (edge_same o (ceiling m + 1 + e) (get_or es e past_edge) ∙ h e p o (ceiling m + 1 + e)))

    step_same : (o : ℕ) → step_items width (with_edges m es) o ≡ step_items width m o
    unfolding step_items
    step_same o = rw (choice_same o, delays_same o, edges_same o, choices_same, top) (ap (λ (s : List Item). choice_items width m o ++ delays_items width m o
        ++ edges_items width m o ++ s) (state_same (next_block width m o)))

    pub items_same : (k : ℕ) → items width (with_edges m es) k ≡ items width m k
    unfolding items body_items start_items end_items
    items_same k = rw (state_same 0, initial_same, choices_same, top)
        (ap (λ (steps : List Item). state_items width m 0 ++ initial_items width m ++ steps ++ end_items width m k)
        (each_cong k _ _ (λ t p. step_same (block_at width m t))))

-- ---- steps
module _ (m : Model) (es : List Edge) (top : ceiling (with_edges m es) ≡ ceiling m) where
  delay_step_same : (d : ℕ) (s : State) → delay_step (with_edges m es) (ceiling m) d s ≡ delay_step m (ceiling m) d s
  unfolding delay_step invariant_holds
  delay_step_same d s = refl

  edge_step_same : (e : Edge) (s : State) → edge_step (with_edges m es) e s ≡ edge_step m e s
  unfolding edge_step edge_allowed invariant_holds
  edge_step_same e s = refl

  pub steps_same : ((e : ℕ) → e < m.used → (s : State) → edge_step m (get_or es e past_edge) s ≡ edge_step m (edge_at m e) s) → (s : State) (b : ℕ)
      → step (with_edges m es) s b ≡ step m s b
  unfolding step
  steps_same h s b = rw (choices_same (λ n. n) m es top, top) (by (leb b (ceiling m)) (ltb b (choices m)) refl refl)
    where
      e : ℕ
      e = b - (ceiling m + 1)

      by : (low below : Bool) → leb b (ceiling m) ≡ low → ltb b (choices m) ≡ below
          → cond low (delay_step (with_edges m es) (ceiling m) b s) (cond below (edge_step (with_edges m es) (get_or es e past_edge) s) None)
          ≡ cond low (delay_step m (ceiling m) b s) (cond below (edge_step m (edge_at m e) s) None)
      by true below p q = delay_step_same b s
      by false false p q = refl
      by false true p q =
          edge_step_same (get_or es e past_edge) s
          ∙ h e (omega (arith, leb-false b (ceiling m) p, ltb→lt b (choices m) (subst T (sym q) tt), choices_is m)) s
