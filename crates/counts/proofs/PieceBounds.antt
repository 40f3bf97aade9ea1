-- What the pieces of the list and the whole list have at most: clauses and words.
use mathlib.Core.Path.{◌≡◌, refl, sym, ap, ◌∙◌}
use mathlib.Core.List.{List, ◌++◌}
use Prim.Native.Nat.{ℕ, zero, suc, ◌+◌, ◌≤◌, ◌<◌}
use native.Mathlib.Omega.{arith}
use lib.Dec.{T}
use lib.ListN.{length}
use Rattle.model.specs.declared.Model.{Model}
use Rattle.model.specs.Indexed.{each}
use Rattle.model.specs.Record.{atom_at, invariant_at, edge_at}
use Rattle.model.specs.Automaton.{ceiling, choices, counter, clock, group_size, state_size}
use Rattle.model.specs.Form.{well_formed}
use Rattle.model.proofs.FormLaws.{WellFormed, formed, choices_le, state_size_le}
use Rattle.list.specs.Items.{state_width, block_at, next_block, invariant_of, state_items}
use Rattle.list.specs.Items.{initial_items, choice_items, delay_items, delays_items, edge_of, edges_items, step_items, end_items}
use Rattle.list.specs.Clauses.{Clause, one_hot_width, group_clauses, clauses_of, clauses, words}
use Rattle.list.proofs.ListLaws.{each_add}
use Rattle.list.proofs.PieceClauses.{clauses_pieces, end_piece, start_piece, state_piece_lem, groups_piece, invariants_piece}
use Rattle.list.proofs.PieceClauses.{step_piece_lem, choice_piece, delays_piece, edges_piece}
use Rattle.parts.specs.declared.Rule.TheVariants.{Set}
use Rattle.parts.specs.declared.GroupTable.{GroupTable}
use Rattle.parts.specs.Rules.{part_clauses}
use Rattle.parts.specs.StateBlock.{group_table}
use Rattle.parts.specs.PartsOf.{set_part}
use Rattle.parts.specs.Pieces.{Known, edge_piece, edge_clauses}
use Rattle.parts.proofs.EdgeParts.{source_part, target_part, guard_part}
use Rattle.parts.proofs.PartPieces.{set_is, delay_law}
use Rattle.parts.proofs.KnownLaws.{known_bounded, known_groups, known_state, location_piece_of, edge_piece_of}
use Rattle.counts.specs.KnownCounts.{most_clauses, most_words}
use Rattle.counts.proofs.CountLaws.{counted_one, Most, by_count, most_as, most_app, most_few}
use Rattle.counts.proofs.GroupLaws.{group_16, group_32, group_64}
use Rattle.counts.proofs.PartLaws.{part_most}
use Rattle.counts.proofs.EdgeLaws.{edge_small, atom_most, atoms_most}
use Rattle.counts.proofs.CountedList.{initial_counted, delay_counted}

-- ---- the pieces of a well-formed model
module _ (m : Model) (h : T (well_formed m)) where
  abbrev ok : WellFormed m
  ok = formed m h

  abbrev b : GroupTable
  b = group_table m

  known : Known m b
  known = record { formed = h; is = refl }

  -- a source or a target: one clause of two literals
  set_most : (x z w u : ℕ) → Most (part_clauses x (set_part z w (Set u))) 1 3
  set_most x z w u = most_as (sym (set_is x z w (Set u))) (by_count (counted_one _) (omega arith) (omega arith))

  -- source and target, four atoms, at most eight groups
  pub edge_most : (o e : ℕ) → e < m.used → Most (clauses_of (edge_of one_hot_width m o e)) 386 1414
  unfolding edge_clauses
  edge_most o e l =
      most_as (sym parts ∙ edge_piece_of known o x e l refl)
      (most_app _ _ (most_app _ _ (most_few F 1 3 2 2 (omega arith) ends)
      (most_few (λ j. F (2 + j)) 32 96 4 4 (omega arith)
      (λ j p. most_as (ap (part_clauses x) (sym (guard_part b (edge_at m e) o j p))) (atom_most b (known_bounded known) o x (atom_at (edge_at m e).guard j)))))
      (most_few (λ i. F (6 + i)) 32 128 (m.vars + m.clocks) 8 (omega (arith, ok.vars_le, ok.clocks_le))
      (λ i p. part_most x _ (edge_small b (known_bounded known) o (edge_at m e) (6 + i)))))
    where
      x : ℕ
      x = o + state_size m + (ceiling m + 1 + e)

      F : ℕ → List Clause
      F = edge_piece x b (edge_at m e) o

      parts : each (b.groups + 5) F ≡ each 2 F ++ each 4 (λ j. F (2 + j)) ++ each (m.vars + m.clocks) (λ i. F (6 + i))
      parts =
          let n : b.groups + 5 ≡ 6 + (m.vars + m.clocks) = omega (arith, known_groups known) in
          let k = m.vars + m.clocks in
          ap (λ (i : ℕ). each i F) n ∙ each_add 6 k F ∙ ap (λ (l : List Clause). l ++ each k (λ i. F (6 + i))) (each_add 2 4 F)

      ends : (j : ℕ) → j < 2 → Most (F j) 1 3
      ends zero p = most_as (ap (part_clauses x) (sym (source_part b (edge_at m e) o))) (set_most x _ _ (edge_at m e).source)
      ends (suc zero) p = most_as (ap (part_clauses x) (sym (target_part b (edge_at m e) o))) (set_most x _ _ (edge_at m e).target)
      ends (suc (suc j)) p = absurd (omega arith)

  pub invariant_most : (o l : ℕ) → l < m.locations → Most (clauses_of (invariant_of one_hot_width m o l)) 128 384
  invariant_most o l p = most_as (location_piece_of known o l p) (atoms_most b (known_bounded known) o (o + l) (invariant_at m l) 4 (omega arith))

  pub counter_most : (first i : ℕ) → i < m.vars → Most (group_clauses first (group_size m (counter i))) 497 1521
  counter_most first i l = group_32 first (group_size m (counter i)) (omega (arith, ok.greatest_le i l))

  pub clock_most : (first i : ℕ) → Most (group_clauses first (group_size m (clock i))) 497 1521
  clock_most first i = group_32 first (group_size m (clock i)) (omega (arith, ok.ceiling_le))

  pub delay_most : (o d : ℕ) → Most (clauses_of (delay_items one_hot_width m o d)) 272 1088
  delay_most o d =
      most_as (delay_law m ok o d) (by_count (delay_counted known (o + state_width one_hot_width m + d) o d)
      (omega (arith, known_state known, state_size_le m ok)) (omega (arith, known_state known, state_size_le m ok)))

  pub initial_most : Most (clauses_of (initial_items one_hot_width m)) 9 18
  initial_most =
      let n : b.groups ≤ 9 = omega (arith, known_groups known, ok.vars_le, ok.clocks_le) in
      by_count (initial_counted known) n (omega (arith, n))

  pub end_most : (k : ℕ) → Most (clauses_of (end_items one_hot_width m k)) 1 2
  end_most k = most_as (sym (end_piece m k)) (by_count (counted_one _) (omega arith) (omega arith))

  pub choice_most : (o : ℕ) → Most (clauses_of (choice_items one_hot_width m o)) 2017 6113
  choice_most o = most_as (sym (choice_piece m o)) (group_64 _ (choices m) (choices_le m ok))

  -- ---- a stretch of invariants, of edges
  pub invariants_most : (o n : ℕ) → n ≤ m.locations → Most (each n (λ l. clauses_of (invariant_of one_hot_width m o l))) 2048 6144
  invariants_most o n l =
      most_few (λ l. clauses_of (invariant_of one_hot_width m o l)) 128 384 n 16 (omega (arith, ok.locations_le)) (λ i p. invariant_most o i (omega arith))

  pub edges_most : (o n : ℕ) → n ≤ m.used → Most (each n (λ e. clauses_of (edge_of one_hot_width m o e))) 12352 45248
  edges_most o n l = most_few (λ e. clauses_of (edge_of one_hot_width m o e)) 386 1414 n 32 (omega (arith, ok.used_le)) (λ e p. edge_most o e (omega arith))

  -- ---- state clauses, a step, the whole list
  pub state_most : (o : ℕ) → Most (clauses_of (state_items one_hot_width m o)) 6145 18689
  state_most o =
      most_as (sym (state_piece_lem m o))
      (most_app _ _ (most_as (sym (groups_piece m o))
      (most_app _ _ (most_app _ _ (group_16 _ m.locations ok.locations_le)
      (most_few _ 497 1521 m.vars 4 ok.vars_le (λ i l. counter_most _ i l)))
      (most_few _ 497 1521 m.clocks 4 ok.clocks_le (λ i l. clock_most _ i))))
      (most_as (sym (invariants_piece m o)) (invariants_most o m.locations (omega arith))))

  pub moves_most : (o : ℕ)
      → Most (clauses_of (choice_items one_hot_width m o) ++ clauses_of (delays_items one_hot_width m o)
      ++ clauses_of (edges_items one_hot_width m o)) 23073 86177
  moves_most o =
      most_app _ _ (most_app _ _ (choice_most o) (most_as (sym (delays_piece m o))
      (most_few _ 272 1088 (ceiling m + 1) 32 (omega (arith, ok.ceiling_le)) (λ d l. delay_most o d))))
      (most_as (sym (edges_piece m o)) (edges_most o m.used (omega arith)))

  step_most : (o : ℕ) → Most (clauses_of (step_items one_hot_width m o)) 29218 104866
  step_most o = most_as (sym (step_piece_lem m o)) (most_app _ _ (moves_most o) (state_most (next_block one_hot_width m o)))

  pub list_most : (k : ℕ) → k ≤ 64 → Most (clauses m k) most_clauses most_words
  list_most k l =
      most_as (sym (clauses_pieces m k))
      (most_app _ _ (most_app _ _ (most_as (sym (start_piece m)) (most_app _ _ (state_most 0) initial_most))
      (most_few _ 29218 104866 k 64 l (λ t p. step_most (block_at one_hot_width m t)))) (end_most k))

-- The list of a well-formed model for a bound of at most 64 has at most so many clauses and words.
pub list_clauses_most : (m : Model) → T (well_formed m) → (k : ℕ) → k ≤ 64 → length (clauses m k) ≤ most_clauses
list_clauses_most m h k l = (list_most m h k l).clauses_most

pub list_words_most : (m : Model) → T (well_formed m) → (k : ℕ) → k ≤ 64 → length (words m k) ≤ most_words
unfolding words
list_words_most m h k l = (list_most m h k l).words_most
