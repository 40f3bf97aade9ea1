-- A model that is read in part: its numbers are within their limits, and so many of its counters, invariants and edges are formed, the others
-- blank. Each part that a line puts in keeps this.
use Prim.Native.Nat.{ℕ, ◌+◌, ◌≤◌, ◌<◌}
use mathlib.Core.Path.{◌≡◌, refl}
use mathlib.Core.List.{List}
use mathlib.Core.Bool.{◌&&◌}
use native.Mathlib.Omega.{arith}
use lib.Dec.{T, eqb, lt→ltb, le→leb}
use borrow.Author.Tests.{lt-ltb, le-ltb, le-leb}
use Rattle.model.specs.declared.Atom.{Atom}
use Rattle.model.specs.declared.Update.{Update}
use Rattle.model.specs.declared.ClockUpdate.{ClockUpdate}
use Rattle.model.specs.declared.Counter.{Counter}
use Rattle.model.specs.declared.Invariant.{Invariant}
use Rattle.model.specs.declared.Edge.{Edge}
use Rattle.model.specs.declared.Model.{Model}
use Rattle.model.specs.Indexed.{all_below, sum_below}
use Rattle.model.specs.Record.{blank_counter, blank_invariant, blank_edge, blank_model, past_invariant, past_edge, edge_at}
use Rattle.model.specs.Form.{counter_formed, is_blank_counter, counters_formed, each_formed, filled_from_first, atoms_formed, invariant_slot_formed}
use Rattle.model.specs.Form.{invariants_formed}
use Rattle.model.specs.Automaton.{listed}
use Rattle.model.specs.Form.{updates_formed, order_formed, resets_formed, edge_formed, is_blank_edge, edge_slot_formed, edges_formed, head_formed, well_formed}
use Rattle.model.proofs.IndexedLaws.{and_T, all_below_lem}
use Rattle.text.specs.lines.Store.{with_locations, with_initial, with_target, with_clocks, with_vars, with_used, with_counter, with_invariant}
use Rattle.text.specs.lines.Store.{with_edge, with_source, with_edge_target, with_label, with_guard, with_updates, with_resets}
use Rattle.text.proofs.Laws.Slots.{Filled, fill_none, fill_again, fill_next, fill_count, fill_other}
use Rattle.text.proofs.Laws.EdgeParts.{EdgeParts, open_edge, shut_edge, weaken}

pub record Head (locations initial target clocks vars used : ℕ) : Type 0 where
  pub locations_least : 1 ≤ locations
  pub locations_most : locations ≤ 16
  pub initial_ok : initial < locations
  pub target_ok : target < locations
  pub clocks_most : clocks ≤ 4
  pub vars_most : vars ≤ 4
  pub used-most : used ≤ 32

abbrev pub Counters : ℕ → List Counter → Type 0
Counters v = Filled counter_formed is_blank_counter blank_counter 4 v

abbrev pub Invariants : ℕ → ℕ → List Invariant → Type 0
Invariants clocks n = Filled (λ x. atoms_formed clocks 0 x.atoms) (λ x. atoms_formed 0 0 x.atoms) past_invariant 16 n

abbrev pub Edges : ℕ → ℕ → ℕ → ℕ → List Edge → Type 0
Edges locations clocks vars k = Filled (edge_formed locations clocks vars) is_blank_edge past_edge 32 k

-- v counters, n invariants and k edges are read
pub record Partial (v n k : ℕ) (m : Model) : Type 0 where
  pub head : Head m.locations m.initial m.target m.clocks m.vars m.used
  pub counters : Counters v m.counters
  pub invariants : Invariants m.clocks n m.invariants
  pub edges : Edges m.locations m.clocks m.vars k m.edges

-- all of them
head_formed_lem : (m : Model) → Head m.locations m.initial m.target m.clocks m.vars m.used → T (head_formed m)
unfolding head_formed
head_formed_lem m h =
    rw (
      le-leb _ _ h.locations_least,
      le-leb _ _ h.locations_most,
      lt-ltb _ _ h.initial_ok,
      lt-ltb _ _ h.target_ok,
      le-leb _ _ h.clocks_most,
      le-leb _ _ h.vars_most,
      le-leb _ _ h.used-most,
    ) tt

pub whole : (m : Model) → Partial m.vars m.locations m.used m → T (well_formed m)
unfolding well_formed counters_formed invariants_formed edges_formed
whole m p =
    let counted = counters_formed m.vars m.counters in
    let c = (and_T (head_formed m) counted).1 (head_formed_lem m p.head, (all_below_lem _ 4).1 p.counters.slot) in
    let i = (and_T (head_formed m && counted) (invariants_formed m)).1 (c, (all_below_lem (invariant_slot_formed m) 16).1 p.invariants.slot) in
    (and_T (head_formed m && counted && invariants_formed m) (edges_formed m)).1 (i, (all_below_lem (edge_slot_formed m) 32).1 p.edges.slot)

-- ---- the numbers; those of clocks and counters before any invariant and edge
pub with_locations_lem : (n : ℕ) → 1 ≤ n → n ≤ 16 → Partial 0 0 0 (with_locations blank_model n)
unfolding with_locations blank_model edge_formed atoms_formed each_formed filled_from_first updates_formed order_formed listed resets_formed all_below sum_below
with_locations_lem n a b = record {
  head = omega arith;
  counters = fill_none _ _ _ 4 blank_counter tt;
  invariants = fill_none _ _ _ 16 blank_invariant tt;
  edges = fill_none _ _ _ 32 blank_edge tt;
}

module _ {v n k : ℕ} {m : Model} (p : Partial v n k m) (x : ℕ) where
  pub with_initial_lem : x < m.locations → Partial v n k (with_initial m x)
  unfolding with_initial
  with_initial_lem h = record { head = omega (arith, p.head); counters = p.counters; invariants = p.invariants; edges = p.edges }

  pub with_target_lem : x < m.locations → Partial v n k (with_target m x)
  unfolding with_target
  with_target_lem h = record { head = omega (arith, p.head); counters = p.counters; invariants = p.invariants; edges = p.edges }

  pub with_used_lem : x ≤ 32 → Partial v n k (with_used m x)
  unfolding with_used
  with_used_lem h = record { head = omega (arith, p.head); counters = p.counters; invariants = p.invariants; edges = p.edges }

module _ {m : Model} (p : Partial 0 0 0 m) (x : ℕ) (h : x ≤ 4) where
  pub with_clocks_lem : Partial 0 0 0 (with_clocks m x)
  unfolding with_clocks
  with_clocks_lem = record { head = omega (arith, p.head); counters = p.counters; invariants = fill_other _ p.invariants; edges = fill_other _ p.edges }

  pub with_vars_lem : Partial 0 0 0 (with_vars m x)
  unfolding with_vars
  with_vars_lem = record { head = omega (arith, p.head); counters = p.counters; invariants = p.invariants; edges = fill_other _ p.edges }

-- ---- the next counter, the next invariant
pub with_counter_lem : {v n k : ℕ} {m : Model} → Partial v n k m → (c : Counter) → T (counter_formed c) → Partial (v + 1) n k (with_counter m v c)
unfolding with_counter
with_counter_lem p c h = record { head = p.head; counters = fill_next p.counters c h; invariants = p.invariants; edges = p.edges }

pub with_invariant_lem : {v n k : ℕ} {m : Model} → Partial v n k m → (atoms : List Atom) → T (atoms_formed m.clocks 0 atoms)
    → Partial v (n + 1) k (with_invariant m n atoms)
unfolding with_invariant
with_invariant_lem p atoms h =
    record { head = p.head; counters = p.counters; invariants = fill_next p.invariants (record { atoms = atoms }) h; edges = p.edges }

-- ---- edge e: it counts as read, and its parts are put in
pub with_count : {v n e : ℕ} {m : Model} → Partial v n e m → e < 32 → Partial v n (e + 1) m
with_count {e = e} {m = m} p q =
    let edge = edge_at m e in
    let blank = (and_T (eqb edge.label 0) (edge_formed 1 0 0 edge)).0 (rw (le-ltb e e (omega arith)) at (p.edges.slot e q)) in
    let formed = weaken m.locations m.clocks m.vars edge p.head.locations_least blank.1 in
    record { head = p.head; counters = p.counters; invariants = p.invariants; edges = fill_count p.edges formed }

module _ {v n e : ℕ} {m : Model} (p : Partial v n (e + 1) m) (q : e < 32) where
  parts : EdgeParts m.locations m.clocks m.vars (edge_at m e)
  parts = open_edge m.locations m.clocks m.vars (edge_at m e) (rw (lt-ltb e (e + 1) (omega arith)) at (p.edges.slot e q))

  with_edge_lem : (x : Edge) → EdgeParts m.locations m.clocks m.vars x → Partial v n (e + 1) (with_edge m e x)
  unfolding with_edge
  with_edge_lem x h = record {
    head = p.head;
    counters = p.counters;
    invariants = p.invariants;
    edges = fill_again p.edges e x (omega arith) (shut_edge m.locations m.clocks m.vars x h);
  }

  pub with_source_lem : (x : ℕ) → x < m.locations → Partial v n (e + 1) (with_source m e x)
  unfolding with_source order_formed listed
  with_source_lem x h = with_edge_lem _ (record {
    source_ok = lt→ltb x m.locations h;
    target_ok = parts.target_ok;
    label_ok = parts.label_ok;
    guard_ok = parts.guard_ok;
    updates_ok = parts.updates_ok;
    order_ok = parts.order_ok;
    resets_ok = parts.resets_ok;
  })

  pub with_edge_target_lem : (x : ℕ) → x < m.locations → Partial v n (e + 1) (with_edge_target m e x)
  unfolding with_edge_target order_formed listed
  with_edge_target_lem x h = with_edge_lem _ (record {
    source_ok = parts.source_ok;
    target_ok = lt→ltb x m.locations h;
    label_ok = parts.label_ok;
    guard_ok = parts.guard_ok;
    updates_ok = parts.updates_ok;
    order_ok = parts.order_ok;
    resets_ok = parts.resets_ok;
  })

  pub with_label_lem : (x : ℕ) → x ≤ 15 → Partial v n (e + 1) (with_label m e x)
  unfolding with_label order_formed listed
  with_label_lem x h = with_edge_lem _ (record {
    source_ok = parts.source_ok;
    target_ok = parts.target_ok;
    label_ok = le→leb x 15 h;
    guard_ok = parts.guard_ok;
    updates_ok = parts.updates_ok;
    order_ok = parts.order_ok;
    resets_ok = parts.resets_ok;
  })

  pub with_guard_lem : (atoms : List Atom) → T (atoms_formed m.clocks m.vars atoms) → Partial v n (e + 1) (with_guard m e atoms)
  unfolding with_guard order_formed listed
  with_guard_lem atoms h = with_edge_lem _ (record {
    source_ok = parts.source_ok;
    target_ok = parts.target_ok;
    label_ok = parts.label_ok;
    guard_ok = h;
    updates_ok = parts.updates_ok;
    order_ok = parts.order_ok;
    resets_ok = parts.resets_ok;
  })

  pub with_updates_lem : (slots : List Update) (order : List ℕ) → T (updates_formed m.vars slots)
      → ((x : Edge) → x.updates ≡ slots → x.order ≡ order → T (order_formed x))
      → Partial v n (e + 1) (with_updates m e slots order)
  unfolding with_updates
  with_updates_lem slots order h o = with_edge_lem _ (record {
    source_ok = parts.source_ok;
    target_ok = parts.target_ok;
    label_ok = parts.label_ok;
    guard_ok = parts.guard_ok;
    updates_ok = h;
    order_ok = o _ refl refl;
    resets_ok = parts.resets_ok;
  })

  pub with_resets_lem : (slots : List ClockUpdate) → T (resets_formed m.clocks slots) → Partial v n (e + 1) (with_resets m e slots)
  unfolding with_resets order_formed listed
  with_resets_lem slots h = with_edge_lem _ (record {
    source_ok = parts.source_ok;
    target_ok = parts.target_ok;
    label_ok = parts.label_ok;
    guard_ok = parts.guard_ok;
    updates_ok = parts.updates_ok;
    order_ok = parts.order_ok;
    resets_ok = h;
  })
