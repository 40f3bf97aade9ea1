-- A clock copied to itself is left unchanged: the same step and the same items, edge by edge, and so the same steps and the same list of the whole record.
use mathlib.Core.Path.{◌≡◌, refl, sym, ap, subst, ◌∙◌}
use mathlib.Core.Bool.{Bool, true, false, cond}
use mathlib.Core.List.{List}
use Prim.Native.Nat.{ℕ, ◌<◌}
use native.Mathlib.Omega.{arith}
use lib.Dec.{T, ltb, eqb}
use borrow.Author.Tests.{eq-eqb}
use Rattle.model.specs.declared.ClockUpdate.{ClockUpdate}
use Rattle.model.specs.declared.ClockUpdate.TheVariants.{Unchanged, Reset, Copy}
use Rattle.model.specs.declared.Edge.{Edge}
use Rattle.model.specs.declared.Model.{Model}
use Rattle.model.specs.declared.State.{State}
use Rattle.model.specs.Record.{blank_reset, reset_at, edge_at}
use Rattle.model.specs.Automaton.{value, clock, new_clock}
use Rattle.model.specs.Automaton.{edge_step}
use Rattle.model.specs.Form.{is_unchanged, reset_slot_formed, resets_formed}
use Rattle.model.specs.Form.{well_formed}
use Rattle.model.proofs.IndexedLaws.{eq_T, all_below_lem, get_d_list}
use Rattle.model.proofs.FormLaws.{WellFormed}
use Rattle.list.specs.Items.{Item, reset_items, resets_items, edge_items}
use Rattle.list.specs.Clauses.{clauses_of, words_of, one_hot_width, clauses, words}
use Rattle.list.specs.SelfCopies.{self_unchanged, self_slot, self_edge, self_model, SelfCopies}
use Rattle.list.proofs.ListLaws.{each_cong}
use Rattle.list.proofs.MappedEdges as mapped
use Rattle.list.proofs.MappedEdges.{Keeps, same_step, same_items, same_form, edge_is}

-- ---- one clock
-- what is the same of a self-copy and of unchanged is the same of every update and of it with a self-copy unchanged
same_update : {A : Type 0} (f : ClockUpdate → A) (i : ℕ) → f (Copy i) ≡ f Unchanged → (u : ClockUpdate) → f (self_unchanged i u) ≡ f u
same_update f i h Unchanged = refl
same_update f i h Reset = refl
same_update {A} f i h (Copy w) = by (eqb w i) refl
  where
    by : (b : Bool) → eqb w i ≡ b → f (cond b Unchanged (Copy w)) ≡ f (Copy w)
    by true e = sym h ∙ ap (λ (x : ℕ). f (Copy x)) (sym ((eq_T w i).0 (subst T (sym e) tt)))
    by false e = refl

same_slot : (clocks i : ℕ) (u : ClockUpdate) → T (reset_slot_formed clocks u i) → T (reset_slot_formed clocks (self_unchanged i u) i)
same_slot clocks i Unchanged h = h
same_slot clocks i Reset h = h
same_slot clocks i (Copy w) h = by (eqb w i)
  where
    by : (b : Bool) → T (reset_slot_formed clocks (cond b Unchanged (Copy w)) i)
    by true = either (ltb i clocks)
      where
        either : (b : Bool) → T (cond b true true)
        either true = tt
        either false = tt
    by false = h

-- ---- an edge
module _ (e : Edge) where
  reset_is : (i : ℕ) → i < 4 → reset_at (self_edge e) i ≡ self_unchanged i (reset_at e i)
  unfolding self_edge
  reset_is i l = (get_d_list blank_reset (self_slot e) 4 i l)

  step_of : (m : Model) (s : State) → edge_step m (self_edge e) s ≡ edge_step m e s
  unfolding self_edge
  step_of m s = same_step e e.label (self_edge e).resets m s (λ i l. ap (new i) (reset_is i l) ∙ same_update (new i) i refl (reset_at e i))
    where
      new : ℕ → ClockUpdate → ℕ
      new i u = new_clock (λ w. value s (clock w)) (value s (clock i)) u

  items_of : (width : ℕ → ℕ) (m : Model) → WellFormed m → (o c : ℕ) → edge_items width m o c (self_edge e) ≡ edge_items width m o c e
  unfolding resets_items self_edge
  items_of width m ok o c =
      same_items e e.label (self_edge e).resets width m o c
      (each_cong m.clocks _ _ (λ i l. ap (reset_items width m o c i) (reset_is i (omega (arith, ok.clocks_le)))
      ∙ same_update (reset_items width m o c i) i refl (reset_at e i)))

  resets_of : (clocks : ℕ) → T (resets_formed clocks e.resets) → T (resets_formed clocks (self_edge e).resets)
  unfolding resets_formed
  resets_of clocks h = (all_below_lem _ 4).1 (λ i l. subst (λ (u : ClockUpdate). T (reset_slot_formed clocks u i)) (sym (reset_is i l))
      (same_slot clocks i (reset_at e i) ((all_below_lem _ 4).0 h i l)))

pub keeps : Keeps self_edge
unfolding self_edge
keeps = record {
  guards = λ e. refl;
  private = λ e h. h;
  form = λ locations clocks vars e h. same_form e e.label (self_edge e).resets locations clocks vars (λ l. l) (resets_of e clocks) h;
  steps = λ m e s. step_of e m s;
  clauses = λ width m ok o c e. items_of e width m ok o c;
}

-- ---- a record
module _ (m : Model) where
  another : (e i : ℕ) → e < 32 → i < 4 → reset_at (edge_at m e) i ≡ Copy i → self_model m ≡ m → ⊥
  unfolding self_model
  another e i p q h same =
      let left : self_unchanged i (reset_at (edge_at m e) i) ≡ reset_at (edge_at m e) i =
      sym (reset_is (edge_at m e) i q) ∙ ap (λ (x : Edge). reset_at x i) (sym (edge_is self_edge m e p))
      ∙ ap (λ (x : Model). reset_at (edge_at x e) i) same in
      let kept : T (is_unchanged (self_unchanged i (Copy i))) = rw (eq-eqb i i refl) tt in
      subst (λ (u : ClockUpdate). T (is_unchanged u)) (ap (self_unchanged i) (sym h) ∙ left ∙ h) kept

  pub self_copies : T (well_formed m) → SelfCopies m
  unfolding self_model clauses words
  self_copies h = record {
    formed = mapped.well_formed_lem self_edge keeps m h;
    steps = mapped.same_steps self_edge keeps m h;
    lists = mapped.same_lists self_edge keeps m h;
    same_words = λ k. ap (λ (l : List Item). words_of (clauses_of l)) (mapped.same_lists self_edge keeps m h one_hot_width k);
    another = another;
  }
