-- A well-formed record as facts, the ceiling and the totals: what the layers above cite instead of the definitions.
use mathlib.Core.Path.{◌≡◌, refl, ap, subst}
use mathlib.Core.Bool.{Bool, true, false, ◌&&◌, not, cond}
use mathlib.Core.List.{List}
use Prim.Native.Nat.{ℕ, ◌+◌, ◌*◌, ◌≤◌, ◌<◌}
use native.Mathlib.Nat.{mul-le-mul}
use native.Mathlib.Omega.{arith}
use lib.Dec.{T, leb, ltb, eqb, leb→le, ltb→lt, lt→ltb}
use lib.IntN.{nat_abs}
use Rattle.model.specs.declared.Atom.{Atom}
use Rattle.model.specs.declared.Atom.TheVariants.{Blank, OnClock, OnCounter}
use Rattle.model.specs.declared.Update.{Update}
use Rattle.model.specs.declared.Update.TheVariants.{Keep, Constant, Sum}
use Rattle.model.specs.declared.ClockUpdate.{ClockUpdate}
use Rattle.model.specs.declared.ClockUpdate.TheVariants.{Unchanged, Reset, Copy}
use Rattle.model.specs.declared.Edge.{Edge}
use Rattle.model.specs.declared.Model.{Model}
use Rattle.model.specs.declared.Totals.{Totals}
use Rattle.model.specs.Indexed.{max_below, sum_below}
use Rattle.model.specs.Record.{atom_at, update_at, counter_in, reset_at, counter_at, invariant_at, edge_at}
use Rattle.model.specs.Automaton.{clock_constant, greatest_constant, ceiling, counter, group_size, is_keep, listed, place_in, state_size, choices}
use Rattle.model.specs.Automaton.{variables, totals}
use Rattle.model.specs.Bounds.{KnownTotals}
use Rattle.model.specs.Form.{is_not_equal, atom_formed, each_formed, filled_from_first, atoms_formed, update_formed, clock_update_formed, is_unchanged}
use Rattle.model.specs.Form.{update_slot_formed, updates_formed, order_slot_formed, order_formed, reset_slot_formed, resets_formed, edge_formed, is_blank_edge}
use Rattle.model.specs.Form.{counter_formed, is_blank_counter, counter_slot_formed, counters_formed}
use Rattle.model.specs.Form.{invariant_slot_formed, invariants_formed, edge_slot_formed, edges_formed, head_formed, well_formed}
use Rattle.model.proofs.IndexedLaws.{and_T, eq_T, cond_T, cond_F, not_lt, all_below_lem, max_below_lem, max_at, sum_below_lem}
use Rattle.model.proofs.OrderLaws.{Ordered, listed_le}

-- ---- well-formedness as facts
abbrev pub DeclaredAtom : Model → Atom → Type 0
DeclaredAtom m Blank = Unit {0}
DeclaredAtom m (OnClock c r b) = c < m.clocks
DeclaredAtom m (OnCounter c r b) = c < m.vars

abbrev pub DeclaredUpdate : Model → Update → Type 0
DeclaredUpdate m Keep = Unit {0}
DeclaredUpdate m (Constant n) = Unit {0}
DeclaredUpdate m (Sum w z) = w < m.vars

abbrev pub DeclaredReset : Model → ClockUpdate → Type 0
DeclaredReset m Unchanged = Unit {0}
DeclaredReset m Reset = Unit {0}
DeclaredReset m (Copy w) = w < m.clocks

pub record WellFormedEdge (m : Model) (e : Edge) : Type 0 where
  pub source_ok : e.source < m.locations
  pub target_ok : e.target < m.locations
  pub guard_ok : (k : ℕ) → k < 4 → DeclaredAtom m (atom_at e.guard k)
  pub sets_ok : (i : ℕ) → i < m.vars → DeclaredUpdate m (update_at e i)
  pub sets_rest : (i : ℕ) → m.vars ≤ i → i < 4 → update_at e i ≡ Keep
  pub order_ok : Ordered e
  pub resets_ok : (i : ℕ) → i < m.clocks → DeclaredReset m (reset_at e i)
  pub resets_rest : (i : ℕ) → m.clocks ≤ i → i < 4 → reset_at e i ≡ Unchanged

pub record WellFormed (m : Model) : Type 0 where
  pub locations_le : m.locations ≤ 16
  pub initial_ok : m.initial < m.locations
  pub target_ok : m.target < m.locations
  pub clocks_le : m.clocks ≤ 4
  pub vars_le : m.vars ≤ 4
  pub used_le : m.used ≤ 32
  pub greatest_le : (i : ℕ) → i < m.vars → (counter_at m i).greatest ≤ 31
  pub start_ok : (i : ℕ) → i < m.vars → (counter_at m i).initial ≤ (counter_at m i).greatest
  pub greatest_rest : (i : ℕ) → m.vars ≤ i → i < 4 → (counter_at m i).greatest ≡ 0
  pub start_rest : (i : ℕ) → m.vars ≤ i → i < 4 → (counter_at m i).initial ≡ 0
  pub invariant_ok : (l : ℕ) → l < m.locations → (k : ℕ) → k < 4 → DeclaredAtom m (atom_at (invariant_at m l) k)
  pub edge_ok : (e : ℕ) → e < m.used → WellFormedEdge m (edge_at m e)
  pub ceiling_le : ceiling m ≤ 31

pub and₃ : (a b c : Bool) → T (a && b && c) → T a × T b × T c
and₃ a b c h = let g = (and_T (a && b) c).0 h in let f = (and_T a b).0 g.0 in (f.0, f.1, g.1)

pub and₄ : (a b c d : Bool) → T (a && b && c && d) → T a × T b × T c × T d
and₄ a b c d h = let g = (and_T (a && b && c) d).0 h in let f = and₃ a b c g.0 in (f.0, f.1, f.2, g.1)

and₅ : (a b c d e : Bool) → T (a && b && c && d && e) → T a × T b × T c × T d × T e
and₅ a b c d e h = let g = (and_T (a && b && c && d) e).0 h in let f = and₄ a b c d g.0 in (f.0, f.1, f.2, f.3, g.1)

and₆ : (a b c d e f : Bool) → T (a && b && c && d && e && f) → T a × T b × T c × T d × T e × T f
and₆ a b c d e f h = let x = (and_T (a && b && c && d && e) f).0 h in let v = and₅ a b c d e x.0 in (v.0, v.1, v.2, v.3, v.4, x.1)

pub and₇ : (a b c d e f g : Bool) → T (a && b && c && d && e && f && g) → T a × T b × T c × T d × T e × T f × T g
and₇ a b c d e f g h =
    let y = (and_T (a && b && c && d && e && f) g).0 h in let v = and₆ a b c d e f y.0 in (v.0, v.1, v.2, v.3, v.4, v.5, y.1)

pub yes : (a b : ℕ) (x y : Bool) → T (cond (ltb a b) x y) → a < b → T x
yes a b x y h l = subst T (cond_T (ltb a b) x y (lt→ltb a b l)) h

pub no : (a b : ℕ) (x y : Bool) → T (cond (ltb a b) x y) → b ≤ a → T y
no a b x y h l = subst T (cond_F (ltb a b) x y (not_lt a b l)) h

pub keep_is : (u : Update) → T (is_keep u) → u ≡ Keep
keep_is Keep h = refl
keep_is (Constant n) h = absurd h
keep_is (Sum w z) h = absurd h

pub hold_is : (u : ClockUpdate) → T (is_unchanged u) → u ≡ Unchanged
hold_is Unchanged h = refl
hold_is Reset h = absurd h
hold_is (Copy w) h = absurd h

module _ (m : Model) where
  atom_declared : (clocks vars : ℕ) → clocks ≤ m.clocks → vars ≤ m.vars → (t : Atom) → T (atom_formed clocks vars t) → DeclaredAtom m t
  atom_declared clocks vars p q Blank h = tt
  atom_declared clocks vars p q (OnClock c r b) h = omega (arith, ltb→lt c clocks (and₃ (ltb c clocks) (leb b 30) (not (is_not_equal r)) h).0)
  atom_declared clocks vars p q (OnCounter c r b) h = omega (arith, ltb→lt c vars ((and_T (ltb c vars) (leb b 31)).0 h).0)

  update_declared : (u : Update) → T (update_formed m.vars u) → DeclaredUpdate m u
  update_declared Keep h = tt
  update_declared (Constant n) h = tt
  update_declared (Sum w z) h = ltb→lt w m.vars ((and_T (ltb w m.vars) (leb (nat_abs z) 31)).0 h).0

  reset_declared : (u : ClockUpdate) → T (clock_update_formed m.clocks u) → DeclaredReset m u
  reset_declared Unchanged h = tt
  reset_declared Reset h = tt
  reset_declared (Copy w) h = ltb→lt w m.clocks h

atom_constant : (clocks vars : ℕ) (t : Atom) → T (atom_formed clocks vars t) → clock_constant t ≤ 30
atom_constant clocks vars Blank h = omega arith
atom_constant clocks vars (OnClock c r b) h = leb→le b 30 (and₃ (ltb c clocks) (leb b 30) (not (is_not_equal r)) h).1
atom_constant clocks vars (OnCounter c r b) h = omega arith

pub atoms_at : (clocks vars : ℕ) (atoms : List Atom) → T (atoms_formed clocks vars atoms) → (k : ℕ) → k < 4 → T (atom_formed clocks vars (atom_at atoms k))
unfolding atoms_formed each_formed
atoms_at clocks vars atoms h =
    (all_below_lem (λ k. atom_formed clocks vars (atom_at atoms k)) 4).0 ((and_T (each_formed clocks vars atoms) (filled_from_first atoms)).0 h).0

atoms_constant : (clocks vars : ℕ) (atoms : List Atom) → T (atoms_formed clocks vars atoms) → greatest_constant atoms ≤ 30
unfolding greatest_constant
atoms_constant clocks vars atoms h = max_below_lem _ 4 30 (λ k l. atom_constant clocks vars (atom_at atoms k) (atoms_at clocks vars atoms h k l))

pub edge_parts : (locations clocks vars : ℕ) (e : Edge) → T (edge_formed locations clocks vars e)
    → (e.source < locations) × (e.target < locations) × (e.label ≤ 15) × T (atoms_formed clocks vars e.guard)
    × ((k : ℕ) → k < 4 → T (update_slot_formed vars (update_at e k) k)) × ((k : ℕ) → k < 4 → T (order_slot_formed e k))
    × ((k : ℕ) → k < 4 → T (reset_slot_formed clocks (reset_at e k) k))
unfolding edge_formed updates_formed order_formed resets_formed
edge_parts locations clocks vars e h =
    let g = and₇ (ltb e.source locations) (ltb e.target locations) (leb e.label 15) (atoms_formed clocks vars e.guard)
    (updates_formed vars e.updates) (order_formed e) (resets_formed clocks e.resets) h in (
      ltb→lt e.source locations g.0,
      ltb→lt e.target locations g.1,
      leb→le e.label 15 g.2,
      g.3,
      (all_below_lem (λ k. update_slot_formed vars (update_at e k) k) 4).0 g.4,
      (all_below_lem (order_slot_formed e) 4).0 g.5,
      (all_below_lem (λ k. reset_slot_formed clocks (reset_at e k) k) 4).0 g.6,
    )

-- the slots of the order that are used
pub order_slot : (e : Edge) → ((k : ℕ) → k < 4 → T (order_slot_formed e k)) → Ordered e
order_slot e h = record {
  slot_lt = λ k l. ltb→lt (slot k) 4 (parts k l).0;
  slot_set = λ k l. (parts k l).1;
  slot_first = λ k l. (eq_T (place_in e.order (slot k)) k).0 (parts k l).2;
}
  where
    slot : ℕ → ℕ
    slot k = counter_in e.order k

    parts : (k : ℕ) → k < listed e → T (ltb (slot k) 4) × T (not (is_keep (update_at e (slot k)))) × T (eqb (place_in e.order (slot k)) k)
    parts k l =
        let a = ltb (slot k) 4 in
        let b = not (is_keep (update_at e (slot k))) in
        let c = eqb (place_in e.order (slot k)) k in
        and₃ a b c (yes k (listed e) (a && b && c) (eqb (slot k) 0) (h k (omega (arith, listed_le e))) l)

pub edge_formed_lem : (m : Model) → m.vars ≤ 4 → m.clocks ≤ 4 → (e : Edge) → T (edge_formed m.locations m.clocks m.vars e) → WellFormedEdge m e
edge_formed_lem m le le' e h =
    let g = edge_parts m.locations m.clocks m.vars e h in
    record {
      source_ok = g.0;
      target_ok = g.1;
      guard_ok =
          λ k l. atom_declared m m.clocks m.vars (omega arith) (omega arith) (atom_at e.guard k)
          (atoms_at m.clocks m.vars e.guard g.3 k l);
      sets_ok =
          λ i l. update_declared m (update_at e i) (yes i m.vars (update_formed m.vars (update_at e i)) (is_keep (update_at e i)) (g.4 i (omega arith)) l);
      sets_rest = λ i p l. keep_is (update_at e i) (no i m.vars (update_formed m.vars (update_at e i)) (is_keep (update_at e i)) (g.4 i l) p);
      order_ok = order_slot e g.5;
      resets_ok =
          λ i l. reset_declared m (reset_at e i)
          (yes i m.clocks (clock_update_formed m.clocks (reset_at e i)) (is_unchanged (reset_at e i)) (g.6 i (omega arith)) l);
      resets_rest =
          λ i p l. hold_is (reset_at e i) (no i m.clocks (clock_update_formed m.clocks (reset_at e i)) (is_unchanged (reset_at e i)) (g.6 i l) p);
    }

invariant_slot_constant : (b : Bool) (c : ℕ) (atoms : List Atom) → T (cond b (atoms_formed c 0 atoms) (atoms_formed 0 0 atoms))
    → greatest_constant atoms ≤ 30
invariant_slot_constant true c atoms h = atoms_constant c 0 atoms h
invariant_slot_constant false c atoms h = atoms_constant 0 0 atoms h

edge_slot_constant : (b : Bool) (l c v : ℕ) (e : Edge) → T (cond b (edge_formed l c v e) (is_blank_edge e)) → greatest_constant e.guard ≤ 30
edge_slot_constant true l c v e h = atoms_constant c v e.guard (edge_parts l c v e h).3
edge_slot_constant false l c v e h = atoms_constant 0 0 e.guard (edge_parts 1 0 0 e ((and_T (eqb e.label 0) (edge_formed 1 0 0 e)).0 h).1).3

ceiling_31 :
    (m : Model) → max_below (λ i. greatest_constant (invariant_at m i)) 16 ≤ 30 → max_below (λ i. greatest_constant (edge_at m i).guard) 32 ≤ 30
    → ceiling m ≤ 31
unfolding ceiling
ceiling_31 m p q = omega arith

pub formed : (m : Model) → T (well_formed m) → WellFormed m
unfolding well_formed head_formed counters_formed invariants_formed edges_formed
formed m h =
    let g = and₄ (head_formed m) (counters_formed m.vars m.counters) (invariants_formed m) (edges_formed m) h in
    let d = and₇ (leb 1 m.locations) (leb m.locations 16) (ltb m.initial m.locations) (ltb m.target m.locations) (leb m.clocks 4)
    (leb m.vars 4) (leb m.used 32) g.0 in
    let c = (all_below_lem (λ k. counter_slot_formed m.vars (counter_at m k) k) 4).0 g.1 in
    let v = (all_below_lem (invariant_slot_formed m) 16).0 g.2 in
    let e = (all_below_lem (edge_slot_formed m) 32).0 g.3 in
    let l16 : m.locations ≤ 16 = leb→le m.locations 16 d.1 in
    let c4 : m.clocks ≤ 4 = leb→le m.clocks 4 d.4 in
    let v4 : m.vars ≤ 4 = leb→le m.vars 4 d.5 in
    let u32 : m.used ≤ 32 = leb→le m.used 32 d.6 in
    record {
      locations_le = l16;
      initial_ok = ltb→lt m.initial m.locations d.2;
      target_ok = ltb→lt m.target m.locations d.3;
      clocks_le = c4;
      vars_le = v4;
      used_le = u32;
      greatest_le = λ i l. leb→le (counter_at m i).greatest 31 (counter_parts i l (c i (omega arith))).0;
      start_ok = λ i l. leb→le (counter_at m i).initial (counter_at m i).greatest (counter_parts i l (c i (omega arith))).1;
      greatest_rest =
          λ i p l. (eq_T (counter_at m i).greatest 0).0 ((and_T (eqb (counter_at m i).greatest 0) (eqb (counter_at m i).initial 0)).0
          (no i m.vars (counter_formed (counter_at m i)) (is_blank_counter (counter_at m i)) (c i l) p)).0;
      start_rest =
          λ i p l. (eq_T (counter_at m i).initial 0).0 ((and_T (eqb (counter_at m i).greatest 0) (eqb (counter_at m i).initial 0)).0
          (no i m.vars (counter_formed (counter_at m i)) (is_blank_counter (counter_at m i)) (c i l) p)).1;
      invariant_ok =
          λ l p k q. atom_declared m m.clocks 0 (omega arith) (omega arith) (atom_at (invariant_at m l) k) (atoms_at m.clocks 0 (invariant_at m l)
          (yes l m.locations (atoms_formed m.clocks 0 (invariant_at m l)) (atoms_formed 0 0 (invariant_at m l)) (v l (omega arith)) p) k q);
      edge_ok =
          λ i l. edge_formed_lem m v4 c4 (edge_at m i)
          (yes i m.used (edge_formed m.locations m.clocks m.vars (edge_at m i)) (is_blank_edge (edge_at m i)) (e i (omega arith)) l);
      ceiling_le =
          ceiling_31 m (max_below_lem _ 16 30 (λ i l. invariant_slot_constant (ltb i m.locations) m.clocks (invariant_at m i) (v i l)))
          (max_below_lem _ 32 30 (λ i l. edge_slot_constant (ltb i m.used) m.locations m.clocks m.vars (edge_at m i) (e i l)));
    }
  where
    counter_parts : (i : ℕ) → i < m.vars → T (counter_slot_formed m.vars (counter_at m i) i)
        → T (leb (counter_at m i).greatest 31) × T (leb (counter_at m i).initial (counter_at m i).greatest)
    counter_parts i l h =
        (and_T (leb (counter_at m i).greatest 31) (leb (counter_at m i).initial (counter_at m i).greatest)).0
        (yes i m.vars (counter_formed (counter_at m i)) (is_blank_counter (counter_at m i)) h l)

-- ---- the ceiling and the totals
pub ceiling_ge : (m : Model) → 1 ≤ ceiling m
unfolding ceiling
ceiling_ge m = omega arith

constant_le : (atoms : List Atom) (k : ℕ) → k < 4 → clock_constant (atom_at atoms k) ≤ greatest_constant atoms
unfolding greatest_constant
constant_le atoms k l = max_at (λ k. clock_constant (atom_at atoms k)) 4 k l

-- every clock constant is below the ceiling
pub invariant_constant : (m : Model) (i k : ℕ) → i < 16 → k < 4 → clock_constant (atom_at (invariant_at m i) k) < ceiling m
unfolding ceiling
invariant_constant m i k p q = omega (arith, constant_le (invariant_at m i) k q, max_at (λ i. greatest_constant (invariant_at m i)) 16 i p)

pub guard_constant : (m : Model) (i k : ℕ) → i < 32 → k < 4 → clock_constant (atom_at (edge_at m i).guard k) < ceiling m
unfolding ceiling
guard_constant m i k p q = omega (arith, constant_le (edge_at m i).guard k q, max_at (λ i. greatest_constant (edge_at m i).guard) 32 i p)

pub choices_is : (m : Model) → choices m ≡ ceiling m + 1 + m.used
unfolding choices
choices_is m = refl

pub state_size_is : (m : Model) → state_size m ≡ m.locations + sum_below (λ i. group_size m (counter i)) m.vars + m.clocks * (ceiling m + 1)
unfolding state_size
state_size_is m = refl

pub variables_is : (m : Model) (k : ℕ) → variables m k ≡ state_size m + k * (state_size m + choices m)
unfolding variables
variables_is m k = refl

pub state_size_le : (m : Model) → WellFormed m → state_size m ≤ 272
unfolding state_size
state_size_le m ok =
    omega (
      arith,
      ok.locations_le,
      ok.vars_le,
      sum_below_lem (λ i. group_size m (counter i)) m.vars 32 (λ i l. omega (arith, ok.greatest_le i l)),
      mul-le-mul ok.clocks_le (ceiling+1 ok.ceiling_le),
    )
  where
    ceiling+1 : ceiling m ≤ 31 → ceiling m + 1 ≤ 32
    ceiling+1 h = omega arith

pub choices_le : (m : Model) → WellFormed m → choices m ≤ 64
unfolding choices
choices_le m ok = omega (arith, ok.used_le, ok.ceiling_le)

pub variables_le : (m : Model) → WellFormed m → (k : ℕ) → k ≤ 64 → variables m k ≤ 21776
unfolding variables
variables_le m ok k h =
    let s = state_size_le m ok in
    let w : state_size m + choices m ≤ 336 = omega (arith, choices_le m ok) in
    omega (arith, mul-le-mul h w)

-- ---- the totals that the code answers
pub ceiling_of_totals : (m : Model) (z : Totals) → KnownTotals m z → z.ceiling ≡ ceiling m
unfolding totals
ceiling_of_totals m z k = ap (λ (x : Totals). x.ceiling) k.is

pub state_of_totals : (m : Model) (z : Totals) → KnownTotals m z → z.state ≡ state_size m
unfolding totals
state_of_totals m z k = ap (λ (x : Totals). x.state) k.is

pub choices_of_totals : (m : Model) (z : Totals) → KnownTotals m z → z.choices ≡ choices m
unfolding totals
choices_of_totals m z k = ap (λ (x : Totals). x.choices) k.is
