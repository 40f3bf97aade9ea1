-- What unused slots hold. "Formed where nothing is declared" (an invariant), and "label 0 and formed where nothing is declared" (an edge), say exactly:
-- blank, slot by slot.
use mathlib.Core.Path.{◌≡◌, refl, sym, subst, ◌∙◌}
use mathlib.Core.Logic.{◌↔◌}
use mathlib.Core.Bool.{Bool, true, false, ◌&&◌, not, cond}
use mathlib.Core.List.{List}
use Prim.Native.Nat.{ℕ, ◌+◌, ◌≤◌, ◌<◌}
use native.Mathlib.Omega.{arith}
use lib.Dec.{T, ltb, leb, eqb, ltb→lt, lt→ltb, le→leb}
use Rattle.model.specs.declared.Atom.{Atom}
use Rattle.model.specs.declared.Atom.TheVariants.{Blank, OnClock, OnCounter}
use Rattle.model.specs.declared.Update.TheVariants.{Keep}
use Rattle.model.specs.declared.ClockUpdate.TheVariants.{Unchanged}
use Rattle.model.specs.declared.Counter.{Counter}
use Rattle.model.specs.declared.Edge.{Edge}
use Rattle.model.specs.declared.Model.{Model}
use Rattle.model.specs.Record.{blank_counter, atom_at, update_at, counter_in, reset_at, counter_at, invariant_at, edge_at}
use Rattle.model.specs.Automaton.{is_keep, listed, place_in}
use Rattle.model.specs.Form.{is_not_equal, atom_formed, no_gap, each_formed, filled_from_first, atoms_formed, is_unchanged, update_formed, clock_update_formed}
use Rattle.model.specs.Form.{update_slot_formed, updates_formed, order_slot_formed, order_formed, reset_slot_formed, resets_formed, edge_formed, is_blank_edge}
use Rattle.model.specs.Form.{counter_formed, is_blank_counter, counter_slot_formed, counters_formed}
use Rattle.model.specs.Form.{invariant_slot_formed, invariants_formed, edge_slot_formed, edges_formed, head_formed, well_formed}
use Rattle.model.proofs.IndexedLaws.{and_T, eq_T, cond_F, not_lt, all_below_lem, sum_same, sum_const}
use Rattle.model.proofs.FormLaws.{atoms_at, edge_parts, keep_is, hold_is, and₃, and₄, no}

-- every slot holds no atom
abbrev pub NoAtom : List Atom → Type 0
NoAtom atoms = (k : ℕ) → k < 4 → atom_at atoms k ≡ Blank

-- an edge slot is blank: location 0 twice, label 0, no atom, keep, a blank order, clocks unchanged
pub record BlankEdge (e : Edge) : Type 0 where
  pub source_0 : e.source ≡ 0
  pub target_0 : e.target ≡ 0
  pub label_0 : e.label ≡ 0
  pub no_atom : NoAtom e.guard
  pub keeps : (i : ℕ) → i < 4 → update_at e i ≡ Keep
  pub no_order : (k : ℕ) → k < 4 → counter_in e.order k ≡ 0
  pub no_reset : (i : ℕ) → i < 4 → reset_at e i ≡ Unchanged

nothing_declared : (a : Atom) → T (atom_formed 0 0 a) → a ≡ Blank
nothing_declared Blank h = refl
nothing_declared (OnClock x r c) h = absurd (omega (arith, ltb→lt x 0 (and₃ (ltb x 0) (leb c 30) (not (is_not_equal r)) h).0))
nothing_declared (OnCounter v r c) h = absurd (omega (arith, ltb→lt v 0 ((and_T (ltb v 0) (leb c 31)).0 h).0))

pub and₇_of : (a b c d e f g : Bool) → T a → T b → T c → T d → T e → T f → T g → T (a && b && c && d && e && f && g)
and₇_of a b c d e f g p q r s t u v =
    (and_T (a && b && c && d && e && f) g).1 (
      (and_T (a && b && c && d && e) f).1 (
        (and_T (a && b && c && d) e).1
            ((and_T (a && b && c) d).1 ((and_T (a && b) c).1 ((and_T a b).1 (p, q), r), s), t),
        u,
      ),
      v,
    )

either : (b : Bool) → T (cond b true true)
either true = tt
either false = tt

pub blank_atoms : (atoms : List Atom) → T (atoms_formed 0 0 atoms) ↔ NoAtom atoms
unfolding atoms_formed each_formed filled_from_first
blank_atoms atoms = (
  λ h k l. nothing_declared (atom_at atoms k) (atoms_at 0 0 atoms h k l),
  λ h. (and_T (each_formed 0 0 atoms) (filled_from_first atoms)).1 (
    (all_below_lem (λ k. atom_formed 0 0 (atom_at atoms k)) 4).1 (λ k l. rw (h k l) tt),
    (all_below_lem (λ k. no_gap (atom_at atoms k) (atom_at atoms (k + 1))) 3).1 (λ k l. rw (h k (omega arith), h (k + 1) (omega arith)) tt),
  ),
)

pub blank_counter_lem : (c : Counter) → T (is_blank_counter c) ↔ (c ≡ blank_counter)
blank_counter_lem c = (
  λ h. let g = (and_T (eqb c.greatest 0) (eqb c.initial 0)).0 h in
      λ i. record { greatest = (eq_T c.greatest 0).0 g.0 i; initial = (eq_T c.initial 0).0 g.1 i },
  λ h. rw h tt,
)

-- no update is listed where all are keep
keeps_listed : (e : Edge) → ((i : ℕ) → i < 4 → update_at e i ≡ Keep) → listed e ≡ 0
unfolding listed
keeps_listed e h = sum_same (λ i. cond (is_keep (update_at e i)) 0 1) (λ _. 0) 4 (λ i l. rw (h i l) refl) ∙ sum_const 4 0

pub blank_edge_lem : (e : Edge) → T (is_blank_edge e) ↔ BlankEdge e
unfolding edge_formed updates_formed order_formed resets_formed
blank_edge_lem e = (to, of)
  where
    -- slot k names a counter that is set, for the first time
    named : ℕ → Bool
    named k =
        ltb (counter_in e.order k) 4 && not (is_keep (update_at e (counter_in e.order k))) && eqb (place_in e.order (counter_in e.order k)) k

    to : T (is_blank_edge e) → BlankEdge e
    to h =
        let f = (and_T (eqb e.label 0) (edge_formed 1 0 0 e)).0 h in
        let g = edge_parts 1 0 0 e f.1 in
        let keeps : (i : ℕ) → i < 4 → update_at e i ≡ Keep =
        λ i l. keep_is (update_at e i) (no i 0 (update_formed 0 (update_at e i)) (is_keep (update_at e i)) (g.4 i l) (omega arith)) in
        record {
          source_0 = omega (arith, g.0);
          target_0 = omega (arith, g.1);
          label_0 = (eq_T e.label 0).0 f.0;
          no_atom = (blank_atoms e.guard).0 g.3;
          keeps = keeps;
          no_order =
              λ k l. (eq_T (counter_in e.order k) 0).0
              (no k (listed e) (named k) (eqb (counter_in e.order k) 0) (g.5 k l) (omega (arith, keeps_listed e keeps)));
          no_reset = λ i l. hold_is (reset_at e i) (no i 0 (clock_update_formed 0 (reset_at e i)) (is_unchanged (reset_at e i)) (g.6 i l) (omega arith));
        }

    of : BlankEdge e → T (is_blank_edge e)
    of b =
        (and_T (eqb e.label 0) (edge_formed 1 0 0 e)).1 (
          (eq_T e.label 0).1 b.label_0,
          and₇_of (ltb e.source 1) (ltb e.target 1) (leb e.label 15) (atoms_formed 0 0 e.guard) (updates_formed 0 e.updates) (order_formed e)
              (resets_formed 0 e.resets) (lt→ltb e.source 1 (omega (arith, b.source_0))) (lt→ltb e.target 1 (omega (arith, b.target_0)))
              (le→leb e.label 15 (omega (arith, b.label_0))) ((blank_atoms e.guard).1 b.no_atom)
              ((all_below_lem (λ k. update_slot_formed 0 (update_at e k) k) 4).1 (λ k l. rw (b.keeps k l) (either (ltb k 0))))
              ((all_below_lem (order_slot_formed e) 4).1 (λ k l. subst T (sym (cond_F (ltb k (listed e)) (named k) (eqb (counter_in e.order k) 0)
              (not_lt k (listed e) (omega (arith, keeps_listed e b.keeps))))) ((eq_T (counter_in e.order k) 0).1 (b.no_order k l))))
              ((all_below_lem (λ k. reset_slot_formed 0 (reset_at e k) k) 4).1 (λ k l. rw (b.no_reset k l) (either (ltb k 0)))),
        )

-- ---- the unused slots of a well-formed record
module _ (m : Model) (ok : T (well_formed m)) where
  pub unused_counter : (i : ℕ) → m.vars ≤ i → i < 4 → counter_at m i ≡ blank_counter
  unfolding well_formed counters_formed
  unused_counter i p l =
      let g = and₄ (head_formed m) (counters_formed m.vars m.counters) (invariants_formed m) (edges_formed m) ok in
      (blank_counter_lem (counter_at m i)).0 (no i m.vars (counter_formed (counter_at m i)) (is_blank_counter (counter_at m i))
      ((all_below_lem (λ k. counter_slot_formed m.vars (counter_at m k) k) 4).0 g.1 i l) p)

  pub unused_invariant : (l : ℕ) → m.locations ≤ l → l < 16 → NoAtom (invariant_at m l)
  unfolding well_formed invariants_formed
  unused_invariant l p q =
      let g = and₄ (head_formed m) (counters_formed m.vars m.counters) (invariants_formed m) (edges_formed m) ok in
      (blank_atoms (invariant_at m l)).0 (no l m.locations (atoms_formed m.clocks 0 (invariant_at m l)) (atoms_formed 0 0 (invariant_at m l))
      ((all_below_lem (invariant_slot_formed m) 16).0 g.2 l q) p)

  pub unused_edge : (e : ℕ) → m.used ≤ e → e < 32 → BlankEdge (edge_at m e)
  unfolding well_formed edges_formed
  unused_edge e p l =
      let g = and₄ (head_formed m) (counters_formed m.vars m.counters) (invariants_formed m) (edges_formed m) ok in
      (blank_edge_lem (edge_at m e)).0 (no e m.used (edge_formed m.locations m.clocks m.vars (edge_at m e)) (is_blank_edge (edge_at m e))
      ((all_below_lem (edge_slot_formed m) 32).0 g.3 e l) p)
