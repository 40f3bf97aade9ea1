-- Every text that is accepted gives a well-formed record: each due line keeps `Partial`, and after the last the model is whole.
use Prim.Native.Nat.{ℕ, ◌+◌, ◌<◌}
use mathlib.Core.Path.{◌≡◌, refl, sym, subst}
use mathlib.Core.List.{List}
use mathlib.Core.Bool.{Bool, true, false, cond}
use native.Mathlib.Omega.{arith}
use lib.Dec.{T, ltb, leb, eqb, le→leb}
use lib.ListN.{length}
use borrow.Author.Tests.{eqb-true, eqb-false}
use Rattle.std.specs.Prelude.{Option}
use Rattle.text.specs.bytes.Bytes.{number_of, number_in}
use Rattle.text.specs.bytes.Faulty.{fault_number}
use Rattle.model.specs.declared.Model.{Model}
use Rattle.model.specs.Indexed.{all_below, sum_below}
use Rattle.model.specs.Record.{blank_model}
use Rattle.model.specs.Automaton.{listed}
use Rattle.model.specs.Form.{counter_formed, counters_formed, each_formed, filled_from_first, atoms_formed, invariants_formed, updates_formed, resets_formed}
use Rattle.model.specs.Form.{order_formed, edge_formed, edges_formed, head_formed, well_formed}
use Rattle.model.proofs.IndexedLaws.{and_T}
use Rattle.text.specs.atoms.Atoms.{atom_slots, inv_items}
use Rattle.text.proofs.atoms.AtomsFormed.{inv_formed, when_formed}
use Rattle.text.specs.updates.Sets.{set_faults, update_slots, order_slots, set_items}
use Rattle.text.proofs.updates.UpdatesFormed.{set_formed}
use Rattle.text.proofs.updates.OrderFormed.{order_formed_lem}
use Rattle.text.specs.resets.Resets.{reset_items}
use Rattle.text.proofs.resets.ResetsFormed.{reset_formed}
use Rattle.text.specs.line.Values.{number_faults, reference_faults, greatest_of, initial_of, counter_faults, counter_in}
use Rattle.text.proofs.line.DueLaws.{number_inside, reference_declared, counter_inside}
use Rattle.text.specs.lines.Store.{with_locations, with_used, with_counter, with_invariant}
use Rattle.text.specs.lines.Store.{with_edge, with_source, with_edge_target, with_label, with_guard, with_updates, with_resets}
use Rattle.text.specs.lines.Progress.{Progress, unread}
use Rattle.text.specs.lines.Lines.{locations_line, init_line, target_line, clocks_line, vars_line, var_line, inv_line, edges_line}
use Rattle.text.specs.lines.Lines.{from_line, to_line, label_line, when_line, set_line, reset_line}
use Rattle.text.specs.lines.Sequence.{in_turn, read_head, read_counters, read_invariants, read_edge, read_edges, read_lines}
use Rattle.text.specs.Text.{ReadReport, read_refused, read_accepted, read_ended, read_report}
use Rattle.text.proofs.Laws.Keeping.{Good, line_keeps, turns_keep}
use Rattle.text.proofs.Laws.Partial.{Partial, whole, with_locations_lem, with_initial_lem, with_target_lem, with_clocks_lem, with_vars_lem, with_used_lem}
use Rattle.text.proofs.Laws.Partial.{with_counter_lem, with_invariant_lem, with_count, with_source_lem, with_edge_target_lem, with_label_lem, with_guard_lem}
use Rattle.text.proofs.Laws.Partial.{with_updates_lem, with_resets_lem}

-- ---- the head
head_keeps : (t : List ℕ) → Good (Partial 0 0 0) (read_head (unread t))
unfolding read_head locations_line init_line target_line clocks_line vars_line
head_keeps t =
    line_keeps (Partial 0 0 0) (Partial 0 0 0) _ _ _ (λ m v p h. with_vars_lem p _ (number_inside 0 4 (number_of v) h).1) _
    (line_keeps (Partial 0 0 0) (Partial 0 0 0) _ _ _ (λ m v p h. with_clocks_lem p _ (number_inside 0 4 (number_of v) h).1) _
    (line_keeps (Partial 0 0 0) (Partial 0 0 0) _ _ _ (λ m v p h. with_target_lem p _ (reference_declared m.locations (number_of v) h)) _
    (line_keeps (Partial 0 0 0) (Partial 0 0 0) _ _ _ (λ m v p h. with_initial_lem p _ (reference_declared m.locations (number_of v) h)) _
    (line_keeps (λ m. m ≡ blank_model) (Partial 0 0 0) _ _ _ located _ (λ h. refl)))))
  where
    located : (m : Model) (v : List ℕ) → m ≡ blank_model → fault_number (number_faults 1 16 (number_of v)) ≡ 0
        → Partial 0 0 0 (with_locations m (number_in (number_of v)))
    located m v e h = let g = number_inside 1 16 (number_of v) h in rw e (with_locations_lem (number_in (number_of v)) g.0 g.1)

-- ---- i counters of as many as there are
abbrev CountersRead : ℕ → ℕ → Model → Type 0
CountersRead vars i m = Partial i 0 0 m × (m.vars ≡ vars)

counter_formed_lem : (g i : Option ℕ) → fault_number (counter_faults g i) ≡ 0 → T (counter_formed (counter_in g i))
counter_formed_lem g i h =
    let c = counter_inside g i h in
    (and_T (leb (number_in g) 31) (leb (number_in i) (number_in g))).1 (le→leb (number_in g) 31 c.0, le→leb (number_in i) (number_in g) c.1)

var_keeps : (vars i : ℕ) (p : Progress) → Good (CountersRead vars i) p → Good (CountersRead vars (i + 1)) (var_line i p)
unfolding var_line with_counter
var_keeps vars i =
    line_keeps (CountersRead vars i) (CountersRead vars (i + 1)) _ _ _
    (λ m v p h. (with_counter_lem p.0 _ (counter_formed_lem (greatest_of v) (initial_of v) h), p.1))

counters_keep : (p : Progress) → Good (Partial 0 0 0) p → Good (λ m. Partial m.vars 0 0 m) (read_counters p)
unfolding read_counters
counters_keep p good h =
    let n = p.model.vars in
    let r = turns_keep (CountersRead n) var_line n (λ i l. var_keeps n i) p (λ z. (good z, refl)) h in
    subst (λ (k : ℕ). Partial k 0 0 (in_turn var_line n p).model) (sym r.1) r.0

-- ---- l invariants of as many as there are locations
abbrev InvariantsRead : ℕ → ℕ → Model → Type 0
InvariantsRead locations l m = Partial m.vars l 0 m × (m.locations ≡ locations)

inv_keeps : (locations l : ℕ) (p : Progress) → Good (InvariantsRead locations l) p → Good (InvariantsRead locations (l + 1)) (inv_line l p)
unfolding inv_line with_invariant
inv_keeps locations l =
    line_keeps (InvariantsRead locations l) (InvariantsRead locations (l + 1)) _ _ _
    (λ m v p h. (with_invariant_lem p.0 (atom_slots (inv_items v)) (inv_formed m.clocks m.vars v h), p.1))

invariants_keep : (p : Progress) → Good (λ m. Partial m.vars 0 0 m) p → Good (λ m. Partial m.vars m.locations 0 m) (read_invariants p)
unfolding read_invariants
invariants_keep p good h =
    let n = p.model.locations in
    let r = turns_keep (InvariantsRead n) inv_line n (λ l q. inv_keeps n l) p (λ z. (good z, refl)) h in
    let m = (in_turn inv_line n p).model in
    subst (λ (k : ℕ). Partial m.vars k 0 m) (sym r.1) r.0

-- ---- the number of edges
abbrev Declared : Model → Type 0
Declared m = Partial m.vars m.locations 0 m

edges_keep : (p : Progress) → Good Declared p → Good Declared (edges_line p)
unfolding edges_line with_used
edges_keep = line_keeps Declared Declared _ _ _ (λ m v p h. with_used_lem p _ (number_inside 0 32 (number_of v) h).1)

-- ---- e edges of as many as there are
abbrev EdgesRead : ℕ → ℕ → Model → Type 0
EdgesRead used e m = Partial m.vars m.locations e m × (m.used ≡ used)

slot_there : (used e : ℕ) → e < used → {m : Model} {k : ℕ} → EdgesRead used k m → e < 32
slot_there used e l p = omega (arith, p.1, p.0.head.used-most)

-- each line of edge e; with its first line the edge counts as read
module _ (used e : ℕ) (l : e < used) where
  abbrev Read : Model → Type 0
  Read = EdgesRead used (e + 1)

  from_keeps : (p : Progress) → Good (EdgesRead used e) p → Good Read (from_line e p)
  unfolding from_line with_source with_edge
  from_keeps = line_keeps (EdgesRead used e) Read _ _ _ first
    where
      first : (m : Model) (v : List ℕ) → EdgesRead used e m → fault_number (reference_faults m.locations (number_of v)) ≡ 0
          → Read (with_source m e (number_in (number_of v)))
      first m v q h = let s = slot_there used e l q in (with_source_lem (with_count q.0 s) s _ (reference_declared m.locations (number_of v) h), q.1)

  to_keeps : (p : Progress) → Good Read p → Good Read (to_line e p)
  unfolding to_line with_edge_target with_edge
  to_keeps =
      line_keeps Read Read _ _ _
      (λ m v q h. (with_edge_target_lem q.0 (slot_there used e l q) _ (reference_declared m.locations (number_of v) h), q.1))

  label_keeps : (p : Progress) → Good Read p → Good Read (label_line e p)
  unfolding label_line with_label with_edge
  label_keeps =
      line_keeps Read Read _ _ _ (λ m v q h. (with_label_lem q.0 (slot_there used e l q) _ (number_inside 0 15 (number_of v) h).1, q.1))

  when_keeps : (p : Progress) → Good Read p → Good Read (when_line e p)
  unfolding when_line with_guard with_edge
  when_keeps =
      line_keeps Read Read _ _ _ (λ m v q h. (with_guard_lem q.0 (slot_there used e l q) _ (when_formed m.clocks m.vars v h), q.1))

  set_keeps : (p : Progress) → Good Read p → Good Read (set_line e p)
  unfolding set_line with_updates with_edge
  set_keeps = line_keeps Read Read _ _ _ updated
    where
      updated : (m : Model) (v : List ℕ) → Read m → fault_number (set_faults m.vars (set_items v)) ≡ 0
          → Read (with_updates m e (update_slots (set_items v)) (order_slots (set_items v)))
      updated m v q h =
          let items = set_items v in
          (with_updates_lem q.0 (slot_there used e l q) _ _ (set_formed m.vars items h) (order_formed_lem m.vars items q.0.head.vars_most h), q.1)

  reset_keeps : (p : Progress) → Good Read p → Good Read (reset_line e p)
  unfolding reset_line with_resets with_edge
  reset_keeps =
      line_keeps Read Read _ _ _ (λ m v q h. (with_resets_lem q.0 (slot_there used e l q) _ (reset_formed m.clocks (reset_items v) h), q.1))

  edge_keeps : (p : Progress) → Good (EdgesRead used e) p → Good Read (read_edge e p)
  unfolding read_edge
  edge_keeps p good = reset_keeps _ (set_keeps _ (when_keeps _ (label_keeps _ (to_keeps _ (from_keeps p good)))))

all_edges_keep : (p : Progress) → Good Declared p → Good (λ m. Partial m.vars m.locations m.used m) (read_edges p)
unfolding read_edges
all_edges_keep p good h =
    let n = p.model.used in
    let r = turns_keep (EdgesRead n) read_edge n (edge_keeps n) p (λ z. (good z, refl)) h in
    let m = (in_turn read_edge n p).model in
    subst (λ (k : ℕ). Partial m.vars m.locations k m) (sym r.1) r.0

-- ---- the theorems
-- lines of a model that are read give a well-formed record
pub lines_formed : (t : List ℕ) → (read_lines t).number ≡ 0 → T (well_formed (read_lines t).model)
unfolding read_lines
lines_formed t h = whole _ (all_edges_keep _ (edges_keep _ (invariants_keep _ (counters_keep _ (head_keeps t)))) h)

-- what is told of a text, by its three tests: too long, refused in a line, bytes left
abbrev report : List ℕ → Bool → Bool → Bool → ReadReport
report t long read left =
    let p = read_lines t in
    cond long (read_refused 1 0) (cond read (cond left (read_refused 8 p.line) (read_accepted p.model)) (read_refused p.number p.line))

-- every text that is read gives a well-formed record
pub accepted_formed : (t : List ℕ) → (read_report t).number ≡ 0 → T (well_formed (read_report t).model)
unfolding read_report read_ended
accepted_formed t = go (ltb 8192 (length t)) (eqb (read_lines t).number 0) (ltb 0 (length (read_lines t).rest)) refl
  where
    go : (a b c : Bool) → eqb (read_lines t).number 0 ≡ b → (report t a b c).number ≡ 0 → T (well_formed (report t a b c).model)
    go true b c e h = absurd (omega arith)
    go false true true e h = absurd (omega arith)
    go false true false e h = lines_formed t (eqb-true (read_lines t).number 0 e)
    go false false c e h = absurd (eqb-false (read_lines t).number 0 e h)

-- a refused text gives the blank model
pub refused_blank : (t : List ℕ) → ((read_report t).number ≡ 0 → ⊥) → (read_report t).model ≡ blank_model
unfolding read_report read_ended
refused_blank t = go (ltb 8192 (length t)) (eqb (read_lines t).number 0) (ltb 0 (length (read_lines t).rest))
  where
    go : (a b c : Bool) → ((report t a b c).number ≡ 0 → ⊥) → (report t a b c).model ≡ blank_model
    go true b c h = refl
    go false true true h = refl
    go false true false h = absurd (h refl)
    go false false c h = refl

-- so every answer holds a well-formed record
pub blank_formed : T (well_formed blank_model)
unfolding blank_model well_formed head_formed counters_formed invariants_formed edges_formed edge_formed atoms_formed each_formed filled_from_first
    updates_formed order_formed listed resets_formed all_below sum_below
blank_formed = tt

pub answer_formed : (t : List ℕ) → T (well_formed (read_report t).model)
answer_formed t = go (eqb (read_report t).number 0) refl
  where
    go : (b : Bool) → eqb (read_report t).number 0 ≡ b → T (well_formed (read_report t).model)
    go true e = accepted_formed t (eqb-true (read_report t).number 0 e)
    go false e = rw (refused_blank t (eqb-false (read_report t).number 0 e)) blank_formed
