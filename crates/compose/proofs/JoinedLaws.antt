-- The parts of a formed edge, and well-formedness where more is declared.
use Prim.Native.Nat.{ℕ, ◌*◌, ◌≤◌, ◌<◌}
use mathlib.Core.Path.{◌≡◌, sym, subst}
use mathlib.Core.Logic.{⊎_elim}
use mathlib.Core.Bool.{Bool, true, false, not, ◌&&◌, cond}
use mathlib.Core.List.{List}
use native.Mathlib.Nat.{mul-le-mul}
use native.Mathlib.Omega.{arith}
use lib.Dec.{T, ltb, leb, ltb→lt, lt→ltb, le→leb}
use lib.IntN.{nat_abs}
use Rattle.model.specs.declared.Atom.{Atom}
use Rattle.model.specs.declared.Atom.TheVariants.{Blank, OnClock, OnCounter}
use Rattle.model.specs.declared.Update.{Update}
use Rattle.model.specs.declared.Update.TheVariants.{Keep, Constant, Sum}
use Rattle.model.specs.declared.ClockUpdate.{ClockUpdate}
use Rattle.model.specs.declared.ClockUpdate.TheVariants.{Unchanged, Reset, Copy}
use Rattle.model.specs.declared.Edge.{Edge}
use Rattle.model.specs.declared.Model.{Model}
use Rattle.model.specs.Indexed.{all_below, sum_below}
use Rattle.model.specs.Record.{atom_at, update_at, counter_in, reset_at, invariant_at, edge_at}
use Rattle.model.specs.Automaton.{is_keep, listed}
use Rattle.model.specs.Form.{is_not_equal, atom_formed, is_blank, each_formed, filled_from_first, atoms_formed, update_formed}
use Rattle.model.specs.Form.{update_slot_formed, updates_formed}
use Rattle.model.specs.Form.{order_slot_formed, order_formed, clock_update_formed, is_unchanged, reset_slot_formed, resets_formed, edge_formed, is_blank_edge}
use Rattle.model.specs.Form.{counters_formed, invariant_slot_formed, invariants_formed, edge_slot_formed, edges_formed, head_formed, well_formed}
use Rattle.model.proofs.FormLaws.{and₃, and₄, and₇, yes, no, keep_is, hold_is, atoms_at, edge_parts, order_slot, formed}
use Rattle.model.proofs.BlankSlots.{and₇_of}
use Rattle.model.proofs.IndexedLaws.{and_T, lt_or_le, cond_T, all_below_lem, sum_below_lem}
use Rattle.compose.specs.Joined.{atom_count, standing}

-- ---- slots that are formed
-- the counter in a used slot of an order
pub order_below : (e : Edge) → T (order_formed e) → (k : ℕ) → k < listed e → counter_in e.order k < 4
unfolding order_formed
order_below e h k l = (order_slot e ((all_below_lem (order_slot_formed e) 4).0 h)).slot_lt k l

-- where 4 clocks and 4 counters are declared
pub each_at : (atoms : List Atom) → T (each_formed 4 4 atoms) → (k : ℕ) → k < 4 → T (atom_formed 4 4 (atom_at atoms k))
unfolding each_formed
each_at atoms h = (all_below_lem (λ k. atom_formed 4 4 (atom_at atoms k)) 4).0 h

pub updates_at : (e : Edge) → T (updates_formed 4 e.updates) → (k : ℕ) → k < 4 → T (update_formed 4 (update_at e k))
unfolding updates_formed
updates_at e h k l =
    yes k 4 (update_formed 4 (update_at e k)) (is_keep (update_at e k)) ((all_below_lem (λ k. update_slot_formed 4 (update_at e k) k) 4).0 h k l) l

pub resets_at : (e : Edge) → T (resets_formed 4 e.resets) → (k : ℕ) → k < 4 → T (clock_update_formed 4 (reset_at e k))
unfolding resets_formed
resets_at e h k l =
    yes k 4 (clock_update_formed 4 (reset_at e k)) (is_unchanged (reset_at e k)) ((all_below_lem (λ k. reset_slot_formed 4 (reset_at e k) k) 4).0 h k l) l

-- ---- how many atoms
one_at_most : (b : Bool) → cond b 0 1 ≤ 1
one_at_most true = omega arith
one_at_most false = omega arith

-- there are 4 slots
pub atom_count_le : (atoms : List Atom) → atom_count atoms ≤ 4
unfolding atom_count
atom_count_le atoms = sum_below_lem (λ k. cond (is_blank (atom_at atoms k)) 0 1) 4 1 (λ k l. one_at_most (is_blank (atom_at atoms k)))

-- ---- what is formed stays so where more is declared
pub atom_wider : (c v c' v' : ℕ) → c ≤ c' → v ≤ v' → (x : Atom) → T (atom_formed c v x) → T (atom_formed c' v' x)
atom_wider c v c' v' p q Blank h = tt
atom_wider c v c' v' p q (OnClock x r k) h =
    let g = and₃ (ltb x c) (leb k 30) (not (is_not_equal r)) h in
    (and_T (ltb x c' && leb k 30) (not (is_not_equal r))).1
    ((and_T (ltb x c') (leb k 30)).1 (lt→ltb x c' (omega (arith, ltb→lt x c g.0)), g.1), g.2)
atom_wider c v c' v' p q (OnCounter x r k) h =
    let g = (and_T (ltb x v) (leb k 31)).0 h in
    (and_T (ltb x v') (leb k 31)).1 (lt→ltb x v' (omega (arith, ltb→lt x v g.0)), g.1)

pub update_wider : (v v' : ℕ) → v ≤ v' → (u : Update) → T (update_formed v u) → T (update_formed v' u)
update_wider v v' p Keep h = tt
update_wider v v' p (Constant c) h = h
update_wider v v' p (Sum w z) h =
    let g = (and_T (ltb w v) (leb (nat_abs z) 31)).0 h in
    (and_T (ltb w v') (leb (nat_abs z) 31)).1 (lt→ltb w v' (omega (arith, ltb→lt w v g.0)), g.1)

pub reset_wider : (c c' : ℕ) → c ≤ c' → (u : ClockUpdate) → T (clock_update_formed c u) → T (clock_update_formed c' u)
reset_wider c c' p Unchanged h = tt
reset_wider c c' p Reset h = tt
reset_wider c c' p (Copy w) h = lt→ltb w c' (omega (arith, ltb→lt w c h))

-- a slot past the declared ones is blank, which is formed
update_slot_more : (vars : ℕ) (u : Update) (k : ℕ) → vars ≤ 4 → k < 4 → T (update_slot_formed vars u k) → T (update_slot_formed 4 u k)
update_slot_more vars u k p l h = subst T (sym (cond_T (ltb k 4) (update_formed 4 u) (is_keep u) (lt→ltb k 4 l))) (⊎_elim
    (λ q. update_wider vars 4 p u (yes k vars (update_formed vars u) (is_keep u) h q))
    (λ q. subst (λ (x : Update). T (update_formed 4 x)) (sym (keep_is u (no k vars (update_formed vars u) (is_keep u) h q))) tt)
    (lt_or_le k vars))

reset_slot_more : (clocks : ℕ) (u : ClockUpdate) (k : ℕ) → clocks ≤ 4 → k < 4 → T (reset_slot_formed clocks u k) → T (reset_slot_formed 4 u k)
reset_slot_more clocks u k p l h = subst T (sym (cond_T (ltb k 4) (clock_update_formed 4 u) (is_unchanged u) (lt→ltb k 4 l))) (⊎_elim
    (λ q. reset_wider clocks 4 p u (yes k clocks (clock_update_formed clocks u) (is_unchanged u) h q))
    (λ q. subst (λ (x : ClockUpdate). T (clock_update_formed 4 x)) (sym (hold_is u (no k clocks (clock_update_formed clocks u) (is_unchanged u) h q))) tt)
    (lt_or_le k clocks))

pub each_more : (clocks vars : ℕ) (atoms : List Atom) → clocks ≤ 4 → vars ≤ 4 → T (atoms_formed clocks vars atoms) → T (each_formed 4 4 atoms)
unfolding each_formed
each_more clocks vars atoms p q h =
    (all_below_lem (λ k. atom_formed 4 4 (atom_at atoms k)) 4).1 (λ k l. atom_wider clocks vars 4 4 p q (atom_at atoms k) (atoms_at clocks vars atoms h k l))

pub atoms_more : (clocks vars : ℕ) (atoms : List Atom) → clocks ≤ 4 → vars ≤ 4 → T (atoms_formed clocks vars atoms) → T (atoms_formed 4 4 atoms)
unfolding atoms_formed
atoms_more clocks vars atoms p q h =
    (and_T (each_formed 4 4 atoms) (filled_from_first atoms)).1
    (each_more clocks vars atoms p q h, ((and_T (each_formed clocks vars atoms) (filled_from_first atoms)).0 h).1)

pub edge_more : (locations clocks vars : ℕ) (e : Edge) → locations ≤ 16 → clocks ≤ 4 → vars ≤ 4 → T (edge_formed locations clocks vars e)
    → T (edge_formed 16 4 4 e)
unfolding edge_formed updates_formed order_formed resets_formed
edge_more locations clocks vars e o p q h =
    let g = edge_parts locations clocks vars e h in
    and₇_of (ltb e.source 16) (ltb e.target 16) (leb e.label 15) (atoms_formed 4 4 e.guard) (updates_formed 4 e.updates) (order_formed e)
    (resets_formed 4 e.resets) (lt→ltb e.source 16 (omega (arith, g.0))) (lt→ltb e.target 16 (omega (arith, g.1)))
    (le→leb e.label 15 g.2) (atoms_more clocks vars e.guard p q g.3)
    ((all_below_lem (λ k. update_slot_formed 4 (update_at e k) k) 4).1 (λ k l. update_slot_more vars (update_at e k) k q l (g.4 k l)))
    ((all_below_lem (order_slot_formed e) 4).1 g.5)
    ((all_below_lem (λ k. reset_slot_formed 4 (reset_at e k) k) 4).1 (λ k l. reset_slot_more clocks (reset_at e k) k p l (g.6 k l)))

-- ---- the parts of a formed edge that are joined
pub record Parts (e : Edge) : Type 0 where
  pub source_lt : e.source < 16
  pub target_lt : e.target < 16
  pub guard_each : T (each_formed 4 4 e.guard)
  pub updates_ok : T (updates_formed 4 e.updates)
  pub order_ok : T (order_formed e)
  pub resets_ok : T (resets_formed 4 e.resets)

pub parts_of : (e : Edge) → T (edge_formed 16 4 4 e) → Parts e
unfolding edge_formed
parts_of e h =
    let g = and₇ (ltb e.source 16) (ltb e.target 16) (leb e.label 15) (atoms_formed 4 4 e.guard) (updates_formed 4 e.updates) (order_formed e)
    (resets_formed 4 e.resets) h in
    record {
      source_lt = ltb→lt e.source 16 g.0;
      target_lt = ltb→lt e.target 16 g.1;
      guard_each = each_more 4 4 e.guard (omega arith) (omega arith) g.3;
      updates_ok = g.4;
      order_ok = g.5;
      resets_ok = g.6;
    }

-- ---- what is joined is formed
-- standing still in a location
pub standing_formed : (l : ℕ) → l < 16 → T (edge_formed 16 4 4 (standing l))
unfolding edge_formed standing atoms_formed each_formed filled_from_first updates_formed order_formed resets_formed listed all_below sum_below
standing_formed l p =
    let t = lt→ltb l 16 p in
    and₇_of (ltb l 16) (ltb l 16) true true true true true t t tt tt tt tt tt

-- an edge that a callee answers
pub formed_as : {x e : Edge} → x ≡ e → T (edge_formed 16 4 4 e) → T (edge_formed 16 4 4 x)
formed_as e h = subst (λ (x : Edge). T (edge_formed 16 4 4 x)) (sym e) h

-- ---- the edges and the invariants of a well-formed record
module _ (m : Model) (ok : T (well_formed m)) where
  pub invariant_formed_at : (l : ℕ) → l < m.locations → T (atoms_formed m.clocks 0 (invariant_at m l))
  unfolding well_formed invariants_formed
  invariant_formed_at l p =
      let g = and₄ (head_formed m) (counters_formed m.vars m.counters) (invariants_formed m) (edges_formed m) ok in
      yes l m.locations (atoms_formed m.clocks 0 (invariant_at m l)) (atoms_formed 0 0 (invariant_at m l))
      ((all_below_lem (invariant_slot_formed m) 16).0 g.2 l (omega (arith, (formed m ok).locations_le))) p

  pub edge_formed_at : (e : ℕ) → e < m.used → T (edge_formed m.locations m.clocks m.vars (edge_at m e))
  unfolding well_formed edges_formed
  edge_formed_at e l =
      let g = and₄ (head_formed m) (counters_formed m.vars m.counters) (invariants_formed m) (edges_formed m) ok in
      yes e m.used (edge_formed m.locations m.clocks m.vars (edge_at m e)) (is_blank_edge (edge_at m e))
      ((all_below_lem (edge_slot_formed m) 32).0 g.3 e (omega (arith, (formed m ok).used_le))) l

  -- and where more is declared
  pub used-edge : (e : ℕ) → e < m.used → T (edge_formed 16 4 4 (edge_at m e))
  used-edge e l =
      let w = formed m ok in
      edge_more m.locations m.clocks m.vars (edge_at m e) w.locations_le w.clocks_le w.vars_le (edge_formed_at e l)

  pub used-invariant : (l : ℕ) → l < m.locations → T (each_formed 4 4 (invariant_at m l))
  used-invariant l p = each_more m.clocks 0 (invariant_at m l) (formed m ok).clocks_le (omega arith) (invariant_formed_at l p)

-- ---- a location of the two as one byte
pub row_most : (i locations : ℕ) → i < 16 → locations ≤ 16 → i * locations ≤ 240
row_most i locations p q = let r : i ≤ 15 = omega arith in mul-le-mul r q
