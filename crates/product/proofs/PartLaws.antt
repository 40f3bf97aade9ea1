-- A model that is a part of another: what it sees of a joint state, and that it sees atoms, updates and resets as its own.
use mathlib.Core.Path.{◌≡◌, refl, sym, ap, subst, ◌∙◌}
use mathlib.Core.Logic.{◌↔◌, ◌⊎◌, inl, inr}
use mathlib.Core.Bool.{not, cond}
use mathlib.Core.List.{List}
use Prim.Native.Nat.{ℕ, ◌+◌, ◌-◌, ◌≤◌, ◌<◌, min}
use native.Mathlib.Omega.{arith}
use lib.Dec.{T, ltb, lt→ltb}
use Rattle.model.specs.declared.Atom.{Atom}
use Rattle.model.specs.declared.Atom.TheVariants.{Blank, OnClock, OnCounter}
use Rattle.model.specs.declared.Update.{Update}
use Rattle.model.specs.declared.Update.TheVariants.{Keep, Constant, Sum}
use Rattle.model.specs.declared.ClockUpdate.{ClockUpdate}
use Rattle.model.specs.declared.ClockUpdate.TheVariants.{Unchanged, Reset, Copy}
use Rattle.model.specs.declared.Edge.{Edge}
use Rattle.model.specs.declared.Model.{Model}
use Rattle.model.specs.declared.State.{State}
use Rattle.model.specs.Record.{atom_at, update_at, reset_at, counter_at}
use Rattle.model.specs.Automaton.{ceiling, value, loc, counter, clock, clock_constant, meets, atom_holds, new_counter, new_clock, shifted, is_keep}
use Rattle.model.specs.Automaton.{set_earlier, read_by}
use Rattle.model.specs.Form.{is_blank}
use Rattle.model.proofs.IndexedLaws.{lt_or_le, cond_T, cond_F, not_lt, length_list, get_d_list}
use Rattle.model.proofs.FormLaws.{DeclaredAtom, DeclaredUpdate, DeclaredReset, WellFormed}
use Rattle.model.proofs.StepLaws.{Shaped, state_ext}
use Rattle.compose.specs.Joined.{shifted_atom, shifted_update, shifted_reset, atom_count, joined_atoms}
use Rattle.product.specs.Joint.{part_at}
use Rattle.model.proofs.CutLaws.{cut_meets, cut_new}
use Rattle.product.proofs.JoinedForm.{joined_atom_lem}

-- ---- what a model sees of a joint state
-- x shows what m sees of s, slot by slot
pub record Sees (m : Model) (c v : ℕ) (s x : State) : Type 0 where
  pub shape : Shaped m x
  pub counters : (i : ℕ) → i < m.vars → value x (counter i) ≡ value s (counter (v + i))
  pub clocks : (i : ℕ) → i < m.clocks → value x (clock i) ≡ min (value s (clock (c + i))) (ceiling m)

module _ (m : Model) (ok : WellFormed m) (clocks vars l : ℕ) (s : State) where
  abbrev counter_seen : ℕ → ℕ
  counter_seen i = cond (ltb i m.vars) (value s (counter (vars + i))) 0

  abbrev clock_seen : ℕ → ℕ
  clock_seen i = cond (ltb i m.clocks) (min (value s (clock (clocks + i))) (ceiling m)) 0

  pub part_location : (part_at m clocks vars l s).location ≡ l
  unfolding part_at
  part_location = refl

  counter_at_lem : (i : ℕ) → i < 4 → value (part_at m clocks vars l s) (counter i) ≡ counter_seen i
  unfolding part_at
  counter_at_lem i p = get_d_list 0 counter_seen 4 i p

  clock_at : (i : ℕ) → i < 4 → value (part_at m clocks vars l s) (clock i) ≡ clock_seen i
  unfolding part_at
  clock_at i p = get_d_list 0 clock_seen 4 i p

  part_shape : Shaped m (part_at m clocks vars l s)
  unfolding part_at
  part_shape = record {
    counters_len = length_list _ 4;
    clocks_len = length_list _ 4;
    counters_rest = λ i p q. counter_at_lem i q ∙ cond_F (ltb i m.vars) (value s (counter (vars + i))) 0 (not_lt i m.vars p);
    clocks_rest =
        λ i p q. clock_at i q ∙ cond_F (ltb i m.clocks) (min (value s (clock (clocks + i))) (ceiling m)) 0 (not_lt i m.clocks p);
  }

  -- the part is what the model sees
  pub part_sees : Sees m clocks vars s (part_at m clocks vars l s)
  part_sees = record {
    shape = part_shape;
    counters =
        λ i p. counter_at_lem i (omega (arith, ok.vars_le)) ∙ cond_T (ltb i m.vars) (value s (counter (vars + i))) 0 (lt→ltb i m.vars p);
    clocks =
        λ i p. clock_at i (omega (arith, ok.clocks_le))
        ∙ cond_T (ltb i m.clocks) (min (value s (clock (clocks + i))) (ceiling m)) 0 (lt→ltb i m.clocks p);
  }

-- what the model sees is the part
pub sees_part : (m : Model) (ok : WellFormed m) (clocks vars : ℕ) (s x : State) → Sees m clocks vars s x → x ≡ part_at m clocks vars x.location s
sees_part m ok clocks vars s x h =
    let g = part_sees m ok clocks vars x.location s in
    state_ext m h.shape g.shape (elim [
      | loc ↦ λ p. sym (part_location m ok clocks vars x.location s)
      | counter i ↦ λ p. h.counters i p ∙ sym (g.counters i p)
      | clock i ↦ λ p. h.clocks i p ∙ sym (g.clocks i p)
    ])

pub part_is : (m : Model) (ok : WellFormed m) (clocks vars : ℕ) (s x : State) → x ≡ part_at m clocks vars x.location s → Sees m clocks vars s x
part_is m ok clocks vars s x e = subst (Sees m clocks vars s) (sym e) (part_sees m ok clocks vars x.location s)

-- ---- atoms
-- an atom of the part holds in what it sees exactly if the shifted atom holds in the joint state
pub atom_seen : (m : Model) (clocks vars : ℕ) (s x : State) → Sees m clocks vars s x → (t : Atom) → DeclaredAtom m t → clock_constant t < ceiling m
    → atom_holds s (shifted_atom clocks vars t) ≡ atom_holds x t
atom_seen m clocks vars s x h Blank d l = refl
atom_seen m clocks vars s x h (OnClock c r n) d l =
    sym (ap (λ (v : ℕ). meets r v n) (h.clocks c d) ∙ cut_meets r (value s (clock (clocks + c))) (ceiling m) n l)
atom_seen m clocks vars s x h (OnCounter c r n) d l = sym (ap (λ (v : ℕ). meets r v n) (h.counters c d))

-- the atoms of an invariant or of a guard: declared, with constants below the ceiling, and blank from their number on
pub record PartAtoms (m : Model) (atoms : List Atom) : Type 0 where
  pub declared : (k : ℕ) → k < 4 → DeclaredAtom m (atom_at atoms k)
  pub low : (k : ℕ) → k < 4 → clock_constant (atom_at atoms k) < ceiling m
  pub past : (k : ℕ) → k < 4 → atom_count atoms ≤ k → T (is_blank (atom_at atoms k))

-- all hold
abbrev pub AllHold : State → List Atom → Type 0
AllHold s atoms = (k : ℕ) → k < 4 → T (atom_holds s (atom_at atoms k))

blank_holds : (s : State) (t : Atom) → T (is_blank t) → T (atom_holds s t)
blank_holds s Blank h = tt
blank_holds s (OnClock c r n) h = absurd h
blank_holds s (OnCounter c r n) h = absurd h

shift_none : (t : Atom) → shifted_atom 0 0 t ≡ t
shift_none Blank = refl
shift_none (OnClock c r n) = ap (λ (i : ℕ). OnClock i r n) (omega arith)
shift_none (OnCounter c r n) = ap (λ (i : ℕ). OnCounter i r n) (omega arith)

-- joined atoms hold in a joint state exactly if each part's atoms hold in what it sees
module _ (a b : Model) (s x y : State) (p : Sees a 0 0 s x) (q : Sees b a.clocks a.vars s y) (first second : List Atom) (fa : PartAtoms a first)
    (fb : PartAtoms b second) (four : atom_count first + atom_count second ≤ 4) where
  abbrev joint : List Atom
  joint = joined_atoms a.clocks a.vars first second

  first_atom : (k : ℕ) → k < 4 → atom_holds s (atom_at first k) ≡ atom_holds x (atom_at first k)
  first_atom k l = ap (atom_holds s) (sym (shift_none (atom_at first k))) ∙ atom_seen a 0 0 s x p (atom_at first k) (fa.declared k l) (fa.low k l)

  second_atom : (k : ℕ) → k < 4 → atom_holds s (shifted_atom a.clocks a.vars (atom_at second k)) ≡ atom_holds y (atom_at second k)
  second_atom k l = atom_seen b a.clocks a.vars s y q (atom_at second k) (fb.declared k l) (fb.low k l)

  -- slot k is the first's
  slot_first : (k : ℕ) → k < 4 → k < atom_count first → atom_holds s (atom_at joint k) ≡ atom_holds x (atom_at first k)
  slot_first k l h =
      ap (atom_holds s) (joined_atom_lem a.clocks a.vars first second k l ∙ cond_T (ltb k (atom_count first)) (atom_at first k)
      (shifted_atom a.clocks a.vars (atom_at second (k - atom_count first))) (lt→ltb k (atom_count first) h)) ∙ first_atom k l

  -- slot k is the second's
  slot_second : (k : ℕ) → k < 4 → atom_count first ≤ k → atom_holds s (atom_at joint k) ≡ atom_holds y (atom_at second (k - atom_count first))
  slot_second k l h =
      ap (atom_holds s) (joined_atom_lem a.clocks a.vars first second k l ∙ cond_F (ltb k (atom_count first)) (atom_at first k)
      (shifted_atom a.clocks a.vars (atom_at second (k - atom_count first))) (not_lt k (atom_count first) h))
      ∙ second_atom (k - atom_count first) (omega arith)

  pub joined_hold : AllHold s joint ↔ (AllHold x first × AllHold y second)
  joined_hold = (
    λ h. (λ k l. one h k l (lt_or_le k (atom_count first)), λ k l. two h k l (lt_or_le k (atom_count second))),
    λ h k l. back h k l (lt_or_le k (atom_count first)),
  )
    where
      one : AllHold s joint → (k : ℕ) → k < 4 → (k < atom_count first) ⊎ (atom_count first ≤ k) → T (atom_holds x (atom_at first k))
      one h k l (inl u) = subst T (slot_first k l u) (h k l)
      one h k l (inr u) = blank_holds x (atom_at first k) (fa.past k l u)

      at : (k : ℕ) → atom_count first + k - atom_count first ≡ k
      at k = omega arith

      two : AllHold s joint → (k : ℕ) → k < 4 → (k < atom_count second) ⊎ (atom_count second ≤ k) → T (atom_holds y (atom_at second k))
      two h k l (inl u) =
          subst (λ (i : ℕ). T (atom_holds y (atom_at second i))) (at k)
          (subst T (slot_second (atom_count first + k) (omega arith) (omega arith)) (h (atom_count first + k) (omega arith)))
      two h k l (inr u) = blank_holds y (atom_at second k) (fb.past k l u)

      back : AllHold x first × AllHold y second → (k : ℕ) → k < 4 → (k < atom_count first) ⊎ (atom_count first ≤ k) → T (atom_holds s (atom_at joint k))
      back h k l (inl u) = subst T (sym (slot_first k l u)) (h.0 k l)
      back h k l (inr u) = subst T (sym (slot_second k l u)) (h.1 (k - atom_count first) (omega arith))

-- ---- counters and clocks
-- the edge j of the joint model does to the part's slots what the part's edge e does
pub record EdgeIn (m : Model) (clocks vars : ℕ) (e j : Edge) : Type 0 where
  pub updates : (i : ℕ) → i < m.vars → update_at j (vars + i) ≡ shifted_update vars (update_at e i)
  pub earlier : (i w : ℕ) → i < m.vars → w < m.vars → T (not (is_keep (update_at e i)))
      → set_earlier j.order (vars + w) (vars + i) ≡ set_earlier e.order w i
  pub resets : (i : ℕ) → i < m.clocks → reset_at j (clocks + i) ≡ shifted_reset clocks (reset_at e i)

module _ (m : Model) (clocks vars : ℕ) (e j : Edge) (f : EdgeIn m clocks vars e j) (s x : State) (p : Sees m clocks vars s x) where
  -- an update of the part computes the same value in the joint model
  pub update_seen :
      (c : Model) (t z : State) → ((w : ℕ) → w < m.vars → value z (counter w) ≡ value t (counter (vars + w))) → (i : ℕ) → i < m.vars
      → counter_at c (vars + i) ≡ counter_at m i → DeclaredUpdate m (update_at e i)
      → new_counter (read_by j s t (vars + i)) (counter_at c (vars + i)).greatest (value s (counter (vars + i))) (update_at j (vars + i))
      ≡ new_counter (read_by e x z i) (counter_at m i).greatest (value x (counter i)) (update_at e i)
  update_seen c t z h i l same d =
      (λ k. new_counter (read_by j s t (vars + i)) (same k).greatest (sym (p.counters i l) k) (f.updates i l k))
      ∙ go (update_at e i) d (λ n w. λ q. f.earlier i w l q n)
    where
      go : (u : Update) → DeclaredUpdate m u
          → (T (not (is_keep u)) → (w : ℕ) → w < m.vars → set_earlier j.order (vars + w) (vars + i) ≡ set_earlier e.order w i)
          → new_counter (read_by j s t (vars + i)) (counter_at m i).greatest (value x (counter i)) (shifted_update vars u)
          ≡ new_counter (read_by e x z i) (counter_at m i).greatest (value x (counter i)) u
      go Keep d r = refl
      go (Constant n) d r = refl
      go (Sum w n) d r = λ k. shifted n (counter_at m i).greatest (cond (r tt w d k) (sym (h w d) k) (sym (p.counters w d) k))

  -- the part's new clocks are the joint model's, cut
  pub reset_seen : (i : ℕ) → i < m.clocks → DeclaredReset m (reset_at e i)
      → min (new_clock (λ w. value s (clock w)) (value s (clock (clocks + i))) (reset_at j (clocks + i))) (ceiling m)
      ≡ new_clock (λ w. value x (clock w)) (value x (clock i)) (reset_at e i)
  reset_seen i l d =
      ap (λ (u : ClockUpdate). min (new_clock (λ w. value s (clock w)) (value s (clock (clocks + i))) u) (ceiling m)) (f.resets i l) ∙ go (reset_at e i) d
    where
      go : (u : ClockUpdate) → DeclaredReset m u
          → min (new_clock (λ w. value s (clock w)) (value s (clock (clocks + i))) (shifted_reset clocks u)) (ceiling m)
          ≡ new_clock (λ w. value x (clock w)) (value x (clock i)) u
      go Unchanged d = cut_new (λ w. value s (clock w)) (value s (clock (clocks + i))) (ceiling m) Unchanged ∙ sym (p.clocks i l)
      go Reset d = cut_new (λ w. value s (clock w)) (value s (clock (clocks + i))) (ceiling m) Reset
      go (Copy w) d = cut_new (λ w. value s (clock w)) (value s (clock (clocks + i))) (ceiling m) (Copy (clocks + w)) ∙ sym (p.clocks w d)
