-- The counts of the state clauses, of a step and of the whole list, from those of their parts.
use mathlib.Core.Path.{◌≡◌, refl, sym, ap, ap₂, ◌∙◌}
use mathlib.Core.Bool.{Bool, true, false, cond}
use mathlib.Core.List.{◌++◌}
use Prim.Native.Nat.{ℕ, ◌+◌, ◌*◌, ◌<◌}
use native.Mathlib.Nat.{mul_assoc}
use native.Mathlib.Omega.{arith}
use lib.Dec.{ltb}
use lib.ListN.{length}
use Rattle.model.specs.declared.Model.{Model}
use Rattle.model.specs.declared.Totals.{Totals}
use Rattle.model.specs.Indexed.{each, sum_below}
use Rattle.model.specs.Record.{invariant_at, edge_at}
use Rattle.model.specs.Automaton.{ceiling, state_size, variables}
use Rattle.model.specs.Bounds.{KnownTotals}
use Rattle.model.proofs.IndexedLaws.{length_each, sum_const, sum_none, sum_suc, sum_closed}
use Rattle.model.proofs.FormLaws.{variables_is, state_of_totals, choices_of_totals}
use Rattle.list.specs.Items.{block_at, next_block, invariant_of, invariant_items, state_items, initial_items}
use Rattle.list.specs.Items.{choice_items, delays_items, edge_of, edges_items, step_items}
use Rattle.list.specs.Clauses.{one_hot_width, group_clauses, clauses_of, clauses, words_of, words}
use Rattle.list.proofs.PieceClauses.{clauses_pieces, end_piece, start_piece, state_piece_lem, invariants_piece, step_piece_lem, edges_piece}
use Rattle.parts.specs.declared.Rule.TheVariants.{Keep, Rise}
use Rattle.parts.specs.declared.GroupTable.{GroupTable}
use Rattle.parts.specs.Rules.{part_clauses}
use Rattle.parts.specs.StateBlock.{size_at}
use Rattle.parts.specs.PartsOf.{leads_part, delay_part}
use Rattle.parts.specs.Pieces.{Known, group_piece, initial_piece, atom_piece, delay_pieces, edge_piece, edge_clauses}
use Rattle.parts.proofs.KnownLaws.{groups_piece_of, initial_piece_of, location_piece_of, front_piece_of, edge_piece_of, members_are}
use Rattle.counts.specs.Counted.{Counted}
use Rattle.counts.proofs.CountLaws.{counted_one, counted_app, counted_is, counted_as, counted_each}
use Rattle.counts.proofs.PartLaws.{words_each, part_count_lem, part_words_lem}

four : (f : ℕ → ℕ) (n : ℕ) → sum_below (λ i. f i * 4) n ≡ sum_below f n * 4
four f = sum_closed (λ i. f i * 4) (λ n. sum_below f n * 4) (omega (arith, sum_none f)) (λ n. omega (arith, sum_suc f n))

module _ {m : Model} {b : GroupTable} (k : Known m b) where
  -- ---- state clauses
  pub location_counted : (l : ℕ) {c w : ℕ} → l < m.locations → ((x o : ℕ) → Counted (each 4 (atom_piece b o x (invariant_at m l))) c w)
      → (o : ℕ) → Counted (clauses_of (invariant_of one_hot_width m o l)) c w
  location_counted l p s o = counted_as (location_piece_of k o l p) (s (o + l) o)

  pub invariants_counted : {c w : ℕ} (o : ℕ) → Counted (each m.locations (λ l. clauses_of (invariant_of one_hot_width m o l))) c w
      → Counted (clauses_of (invariant_items one_hot_width m o)) c w
  invariants_counted o s = counted_as (sym (invariants_piece m o)) s

  pub state_counted : {p q r s : ℕ} (o : ℕ) → Counted (each b.groups (group_piece b o)) p q
      → Counted (clauses_of (invariant_items one_hot_width m o)) r s → Counted (clauses_of (state_items one_hot_width m o)) (p + r) (q + s)
  state_counted o g i = counted_as (sym (state_piece_lem m o)) (counted_app (counted_as (groups_piece_of k o) g) i)

  -- ---- the start, less its state clauses: one clause for each group
  pub initial_counted : Counted (clauses_of (initial_items one_hot_width m)) b.groups (b.groups * 2)
  initial_counted =
      counted_as (initial_piece_of k) (counted_is (counted_each (initial_piece m b) b.groups (λ g. counted_one _)) (omega arith) refl)

  -- ---- a step
  -- a delay has a clause of three literals for each member of a state block
  pub delay_counted : (x o d : ℕ) → Counted (each b.groups (λ g. part_clauses x (delay_part b o d g))) b.state (b.state * 4)
  delay_counted x o d = record {
    clauses_are = sym (length_each (size_at b) b.groups (λ g. part_clauses x (delay_part b o d g)) (λ g. kept g (ltb g (1 + b.vars))) ∙ members_are k);
    words_are = sym (words_each (λ g. size_at b g * 4) b.groups (λ g. part_clauses x (delay_part b o d g)) (λ g. kept_words g (ltb g (1 + b.vars)))
        ∙ four (size_at b) b.groups ∙ ap (λ (n : ℕ). n * 4) (members_are k));
  }
    where
      kept : (g : ℕ) (t : Bool) → length (part_clauses x (leads_part b o o g g (cond t Keep (Rise d b.top)))) ≡ size_at b g
      kept g true = part_count_lem x (leads_part b o o g g Keep) ∙ omega (arith, sum_const (size_at b g) 1)
      kept g false = part_count_lem x (leads_part b o o g g (Rise d b.top)) ∙ omega (arith, sum_const (size_at b g) 1)

      kept_words : (g : ℕ) (t : Bool) → length (words_of (part_clauses x (leads_part b o o g g (cond t Keep (Rise d b.top))))) ≡ size_at b g * 4
      kept_words g true = part_words_lem x (leads_part b o o g g Keep) ∙ sum_const (size_at b g) 4
      kept_words g false = part_words_lem x (leads_part b o o g g (Rise d b.top)) ∙ sum_const (size_at b g) 4

  -- the choice's group and the delays
  front_counted : {p q : ℕ} (o : ℕ) → ((first : ℕ) → Counted (group_clauses first b.choices) p q)
      → Counted (clauses_of (choice_items one_hot_width m o) ++ clauses_of (delays_items one_hot_width m o)) (p + (b.top + 1) * b.state)
      (q + (b.top + 1) * b.state * 4)
  front_counted o g =
      counted_as (front_piece_of k o)
      (counted_is (counted_app (g (o + b.state)) (counted_each (delay_pieces b o) (b.top + 1) (λ d. delay_counted (o + b.state + d) o d))) refl
      (omega (arith, mul_assoc (b.top + 1) b.state 4)))

  pub edge_counted : (e : ℕ) {c w : ℕ} → e < m.used → ((x o : ℕ) → Counted (each (b.groups + 5) (edge_piece x b (edge_at m e) o)) c w)
      → (o : ℕ) → Counted (clauses_of (edge_of one_hot_width m o e)) c w
  unfolding edge_clauses
  edge_counted e l s o =
      counted_as (edge_piece_of k o (o + state_size m + (ceiling m + 1 + e)) e l refl) (s (o + state_size m + (ceiling m + 1 + e)) o)

  pub edges_counted : {c w : ℕ} (o : ℕ) → Counted (each m.used (λ e. clauses_of (edge_of one_hot_width m o e))) c w
      → Counted (clauses_of (edges_items one_hot_width m o)) c w
  edges_counted o s = counted_as (sym (edges_piece m o)) s

  pub moves_counted : {p q r s : ℕ} (o : ℕ) → ((first : ℕ) → Counted (group_clauses first b.choices) p q)
      → Counted (clauses_of (edges_items one_hot_width m o)) r s
      → Counted (clauses_of (choice_items one_hot_width m o) ++ clauses_of (delays_items one_hot_width m o) ++ clauses_of (edges_items one_hot_width m o))
      (p + (b.top + 1) * b.state + r) (q + (b.top + 1) * b.state * 4 + s)
  moves_counted o g e = counted_app (front_counted o g) e

  -- ---- the whole list: start, n steps, end
  pub list_counted : {p q r s : ℕ} (n : ℕ) → ((o : ℕ) → Counted (clauses_of (state_items one_hot_width m o)) p q)
      → ((o : ℕ) → Counted (clauses_of (choice_items one_hot_width m o) ++ clauses_of (delays_items one_hot_width m o)
      ++ clauses_of (edges_items one_hot_width m o)) r s)
      → Counted (clauses m n) (p + b.groups + n * (r + p) + 1) (q + b.groups * 2 + n * (s + q) + 2)
  list_counted {p} {q} {r} {s} n state moves =
      counted_as (sym (clauses_pieces m n))
      (counted_app (counted_app (counted_as (sym (start_piece m)) (counted_app (state 0) initial_counted))
      (counted_each (λ t. clauses_of (step_items one_hot_width m (block_at one_hot_width m t))) n (λ t. step (block_at one_hot_width m t))))
      (counted_as (sym (end_piece m n)) (counted_one _)))
    where
      step : (o : ℕ) → Counted (clauses_of (step_items one_hot_width m o)) (r + p) (s + q)
      step o = counted_as (sym (step_piece_lem m o)) (counted_app (moves o) (state (next_block one_hot_width m o)))

-- ---- with the totals that the code has: S and H
pub known_variables : (m : Model) (z : Totals) → KnownTotals m z → (k : ℕ) → z.state + k * (z.state + z.choices) ≡ variables m k
known_variables m z known k = ap₂ (λ (a b : ℕ). a + k * (a + b)) (state_of_totals m z known) (choices_of_totals m z known) ∙ sym (variables_is m k)

-- ---- the words of the list
pub list_words : (m : Model) (k : ℕ) {p q : ℕ} → Counted (clauses m k) p q → q ≡ length (words m k)
unfolding words
list_words m k s = s.words_are
