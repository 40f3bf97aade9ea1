-- The pieces of a step: where its blocks lie, and what checks of its pieces tell of the step.
use mathlib.Core.Path.{◌≡◌, sym, ap, ap₂, subst, ◌∙◌}
use mathlib.Core.List.{List, ◌++◌}
use Prim.Native.Nat.{ℕ, ◌+◌, ◌*◌, ◌≤◌, ◌<◌}
use native.Mathlib.Omega.{arith}
use Rattle.model.specs.declared.Model.{Model}
use Rattle.model.specs.Indexed.{each}
use Rattle.model.specs.Record.{edge_at}
use Rattle.model.specs.Automaton.{ceiling, state_size, choices}
use Rattle.model.proofs.FormLaws.{variables_le}
use Rattle.list.specs.Items.{block_at, next_block, choice_items, delays_items, state_items, step_items}
use Rattle.list.specs.Clauses.{Clause, one_hot_width, clauses_of}
use Rattle.list.proofs.OneHot.{next_block_is}
use Rattle.list.proofs.PieceClauses.{next_block_lem, step_piece_lem, edges_piece}
use Rattle.counts.specs.Tables.{most_edge_clauses}
use Rattle.parts.specs.declared.GroupTable.{GroupTable}
use Rattle.parts.specs.declared.Part.{Part}
use Rattle.parts.specs.Numbering.{most_variables}
use Rattle.parts.specs.PartsOf.{edge_part}
use Rattle.parts.specs.Pieces.{Known, front_piece, edge_piece, edge_clauses, step_clauses}
use Rattle.parts.specs.Rules.{Fits}
use Rattle.parts.proofs.KnownLaws.{wf, front_piece_of, edge_piece_of, edge_fits_of, step_room}
use Rattle.search.specs.Checking.{Checked}
use Rattle.std.specs.Prelude.{Result, Ok, Err}
use Rattle.search.specs.Limits.{most_front_clauses, most_state_clauses, most_step_clauses}
use Rattle.search.proofs.CheckLaws.{passed_then, passed_check, checked_as, checked_stop, checked_then}

module _ {m : Model} {b : GroupTable} (k : Known m b) (o t : ℕ) (at-o : o ≡ block_at one_hot_width m t) where
  -- the state after the step
  abbrev pub next_state : List Clause
  next_state = clauses_of (state_items one_hot_width m (block_at one_hot_width m (t + 1)))

  -- where the blocks lie
  pub step_small : t < 64 → o + state_size m + choices m + state_size m ≤ most_variables
  step_small h = omega (arith, at-o, step_room m t (t + 1) (omega arith), variables_le m (wf k) (t + 1) (omega (arith, h)))

  -- where the state block after the step begins
  pub after_step : block_at one_hot_width m (t + 1) ≡ o + state_size m + choices m
  after_step = sym (next_block_lem m t) ∙ ap (next_block one_hot_width m) (sym at-o) ∙ next_block_is m o

  -- ---- the pieces
  step_is : front_piece b o ++ each m.used (edge_clauses m o) ++ next_state ≡ step_clauses m t
  unfolding step_clauses edge_clauses
  step_is =
      ap₂ (λ (f : List Clause) (s : ℕ). f ++ each m.used (edge_clauses m o) ++ clauses_of (state_items one_hot_width m s)) (front_piece_of k o)
      (sym (next_block_lem m t) ∙ ap (next_block one_hot_width m) (sym at-o)) ∙
      ap (λ (l : List Clause). clauses_of (choice_items one_hot_width m o) ++ clauses_of (delays_items one_hot_width m o) ++ l
      ++ clauses_of (state_items one_hot_width m (next_block one_hot_width m o))) (sym (edges_piece m o)) ∙
      sym (step_piece_lem m o) ∙ ap (λ (p : ℕ). clauses_of (step_items one_hot_width m p)) at-o

  module _ {a : List ℕ} {i : ℕ} where
    -- a false clause before the edges
    pub front_failed : {j : ℕ} → Checked a (front_piece b o) i most_front_clauses (Err j) → Checked a (step_clauses m t) i most_step_clauses (Err j)
    front_failed c = checked_as step_is (checked_stop _ most_step_clauses (checked_stop _ most_front_clauses c (omega arith)) (omega arith))

    module _ {front : ℕ} (c : Checked a (front_piece b o) i most_front_clauses (Ok front)) where
      -- a false clause of an edge
      pub edges_failed : {j : ℕ} → Checked a (each m.used (edge_clauses m o)) front (32 * most_edge_clauses) (Err j)
          → Checked a (step_clauses m t) i most_step_clauses (Err j)
      edges_failed d =
          checked_as step_is (checked_stop _ most_step_clauses
          (checked_then (most_front_clauses + 32 * most_edge_clauses) (passed_check c) d (omega (arith, c.most))) (omega arith))

      -- a false clause of the state, or none
      pub state_checked : {j : ℕ} {r : Result ℕ ℕ} → Checked a (each m.used (edge_clauses m o)) front (32 * most_edge_clauses) (Ok j)
          → Checked a next_state j most_state_clauses r → Checked a (step_clauses m t) i most_step_clauses r
      state_checked e d = checked_as step_is (checked_then most_step_clauses (passed_then (passed_check c) (passed_check e)) d (omega (arith, c.most, e.most)))

-- ---- an edge
module _ {m : Model} {b : GroupTable} (k : Known m b) (o x e : ℕ) (l : e < m.used) (at_x : x ≡ o + state_size m + (ceiling m + 1 + e)) where
  pub edge_checked :
      {a : List ℕ} {i n : ℕ} {r : Result ℕ ℕ} → Checked a (each (b.groups + 5) (edge_piece x b (edge_at m e) o)) i n r → Checked a (edge_clauses m o e) i n r
  edge_checked c = checked_as (edge_piece_of k o x e l at_x) c

-- what a part of an edge needs of an assignment that reaches over the step
pub part_fits : {m : Model} {b : GroupTable} (k : Known m b) (o n e j : ℕ) {part : Part} → o + state_size m + choices m + state_size m ≤ n
    → e < m.used → j < b.groups + 5 → part ≡ edge_part b (edge_at m e) o j → Fits part n
part_fits k o n e j h u l w = subst (λ (p : Part). Fits p n) (sym w) (edge_fits_of k o n h e u j l)
