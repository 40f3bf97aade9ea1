-- Each row of the list for k is the row of its kind that begins at the first state block, with every variable raised to the row's own block; and the
-- row at the first block names the variables of the list for 1 alone and, where that list is short, has no more words than a piece may have.
use mathlib.Core.Path.{◌≡◌, refl, sym, ap, ◌∙◌}
use mathlib.Core.Logic.{⊎_elim}
use mathlib.Core.Bool.{Bool, true, false, cond}
use mathlib.Core.List.{List}
use Prim.Native.Nat.{ℕ, ◌+◌, ◌-◌, ◌≤◌, ◌<◌}
use native.Mathlib.Nat.{add_assoc}
use native.Mathlib.Omega.{arith}
use borrow.Author.Tests.{le-leb, lt-leb, eq-eqb, ne_eqb}
use lib.Dec.{T, eqb, ltb, leb}
use lib.IntN.{nat_abs}
use lib.ListN.{length}
use Rattle.model.specs.declared.Model.{Model}
use Rattle.model.specs.Indexed.{each, sum_below}
use Rattle.model.specs.Automaton.{ceiling, choices, group_size, variables}
use Rattle.model.specs.Form.{well_formed}
use Rattle.model.proofs.IndexedLaws.{lt_or_le, sum_mono, sum_below_lem}
use Rattle.model.proofs.FormLaws.{variables_is}
use Rattle.list.specs.Lists.{All}
use Rattle.list.specs.Items.{offset, block_at, next_block, invariant_of, choice_items, delay_items, edge_of, end_items}
use Rattle.list.specs.Clauses.{Clause, words_of, one_hot_width, group_clauses, clauses_of, words}
use Rattle.list.proofs.ListLaws.{each_cong}
use Rattle.list.proofs.Raised.{raised, raised_none, raised_each, group_raised, invariant_raised, choice_raised, delay_raised, edge_raised, end_raised}
use Rattle.parts.specs.StateBlock.{component_at}
use Rattle.counts.proofs.PartLaws.{words_each}
use Rattle.emission.specs.Cut.{most_piece_words, group_count, state_piece, step_piece, row_pieces, piece_of, row_of, base_row, base_bound}
use Rattle.emission.proofs.CutLaws.{row_start, row_step, row_end, of_step, of_end, cut_joined, piece_words_most}
use Rattle.emission.proofs.CutLaws.{words_named, row_inside, piece_clauses_inside}

-- ---- a piece from the state block at d + o
-- One of two pieces, by a test that has nothing to do with the block.
cond_raised : (d : ℕ) (t : Bool) {x y : List Clause} (a b : List Clause) → x ≡ raised d a → y ≡ raised d b → cond t x y ≡ raised d (cond t a b)
cond_raised d true a b p q = p
cond_raised d false a b p q = q

module _ (m : Model) (d : ℕ) where
  -- A piece of state clauses.
  state_raised : (o p : ℕ) → state_piece m (d + o) p ≡ raised d (state_piece m o p)
  unfolding state_piece
  state_raised o p =
      let x = component_at m p in
      let at : ℕ = offset one_hot_width m x in
      let invariant = clauses_of (invariant_of one_hot_width m o (p - group_count m)) in
      cond_raised d (ltb p (group_count m)) (group_clauses (o + at) (group_size m x)) invariant
      (ap (λ (b : ℕ). group_clauses b (group_size m x)) (add_assoc d o at) ∙ group_raised d (o + at) (group_size m x))
      (invariant_raised m d o (p - group_count m))

  -- A piece of a step.
  step_raised : (o p : ℕ) → step_piece m (d + o) p ≡ raised d (step_piece m o p)
  unfolding step_piece
  step_raised o p =
      let q : ℕ = p - (1 + choices m) in
      let next : ℕ = next_block one_hot_width m o in
      let e : next_block one_hot_width m (d + o) ≡ d + next = omega arith in
      let after = state_piece m next q in
      let edge = clauses_of (edge_of one_hot_width m o (p - (ceiling m + 2))) in
      let delay = clauses_of (delay_items one_hot_width m o (p - 1)) in
      let rest = cond (leb p (choices m)) edge after in
      cond_raised d (eqb p 0) (clauses_of (choice_items one_hot_width m o)) (cond (leb p (ceiling m + 1)) delay rest) (choice_raised m d o)
      (cond_raised d (leb p (ceiling m + 1)) delay rest (delay_raised m d o (p - 1))
      (cond_raised d (leb p (choices m)) edge after (edge_raised m d o (p - (ceiling m + 2)))
      (ap (λ (s : ℕ). state_piece m s q) e ∙ state_raised next q)))

-- ---- the row at the first state block
-- What holds of the start and the step of the list for 1 and of the end of the list for 0 holds of the row at the first block.
kinds : (k r : ℕ) (C : ℕ → ℕ → Type 0) → (r ≡ 0 → C 1 0) → ((r ≡ 0 → ⊥) → r ≤ k → C 1 1) → (k < r → C 0 1) → C (base_bound k r) (base_row r)
kinds k r C start step end = ⊎_elim
    (λ z. let e : r ≡ 0 = omega arith in rw (eq-eqb r 0 e, le-leb r k (omega arith)) (start e))
    (λ z. let e : r ≡ 0 → ⊥ = λ q. omega arith in ⊎_elim
    (λ l. let h : r ≤ k = omega arith in rw (ne_eqb r 0 e, le-leb r k h) (step e h))
    (λ l. let h : k < r = omega arith in rw (ne_eqb r 0 e, lt-leb r k h) (end h)) (lt_or_le r (k + 1))) (lt_or_le r 1)

module _ (m : Model) (k r : ℕ) where
  -- The bound of the list that has the row at the first state block.
  abbrev j : ℕ
  j = base_bound k r

  -- The number of that row.
  abbrev s : ℕ
  s = base_row r

  -- Where the row's own state block begins.
  abbrev own : ℕ
  own = block_at one_hot_width m (r - 1)

  -- The row at the first block has as many pieces as the row.
  pub base_pieces : row_pieces m (base_bound k r) (base_row r) ≡ row_pieces m k r
  base_pieces = kinds k r (λ j s. row_pieces m j s ≡ row_pieces m k r)
      (λ e. row_start m 1 0 refl ∙ sym (row_start m k r e))
      (λ e h. row_step m 1 1 (λ q. omega arith) (omega arith) ∙ sym (row_step m k r e h))
      (λ h. row_end m 0 1 (omega arith) ∙ sym (row_end m k r h))

  -- The start is the same in every list.
  start_same : (p : ℕ) → piece_of m k 0 p ≡ piece_of m 1 0 p
  unfolding piece_of
  start_same p = refl

  -- Each piece of the row is that of the row at the first block, raised.
  pub piece_raised : r ≤ k + 1 → (p : ℕ) → piece_of m k r p ≡ raised (block_at one_hot_width m (r - 1)) (piece_of m (base_bound k r) (base_row r) p)
  piece_raised l p = kinds k r (λ j s. piece_of m k r p ≡ raised own (piece_of m j s p)) start step end
    where
      start : r ≡ 0 → piece_of m k r p ≡ raised own (piece_of m 1 0 p)
      start e =
          let z : r - 1 ≡ 0 = omega arith in
          let none : block_at one_hot_width m 0 ≡ 0 = omega arith in
          ap (λ (i : ℕ). piece_of m k i p) e ∙ start_same p ∙ sym (raised_none (piece_of m 1 0 p)) ∙
          ap (λ (d : ℕ). raised d (piece_of m 1 0 p)) (sym (ap (block_at one_hot_width m) z ∙ none))

      step : (r ≡ 0 → ⊥) → r ≤ k → piece_of m k r p ≡ raised own (piece_of m 1 1 p)
      step e h =
          let here : own ≡ own + block_at one_hot_width m 0 = omega arith in
          of_step m k r p e h ∙ ap (λ (o : ℕ). step_piece m o p) here ∙ step_raised m own (block_at one_hot_width m 0) p ∙
          ap (raised own) (sym (of_step m 1 1 p (λ q. omega arith) (omega arith)))

      end : k < r → piece_of m k r p ≡ raised own (piece_of m 0 1 p)
      end h =
          let last : k ≡ r - 1 = omega arith in
          let piece = clauses_of (end_items one_hot_width m 0) in
          of_end m k r p h ∙ end_raised m k ∙ ap (λ (i : ℕ). raised (block_at one_hot_width m i) piece) last ∙
          ap (raised own) (sym (of_end m 0 1 p (omega arith)))

  -- So is the row.
  pub row_raised : r ≤ k + 1 → row_of m k r ≡ raised (block_at one_hot_width m (r - 1)) (row_of m (base_bound k r) (base_row r))
  row_raised l =
      each_cong (row_pieces m k r) (piece_of m k r) (λ p. raised own (piece_of m j s p)) (λ p h. piece_raised l p) ∙
      sym (raised_each own (row_pieces m k r) (piece_of m j s)) ∙
      ap (λ (n : ℕ). raised own (each n (piece_of m j s))) (sym base_pieces)

  -- ---- its variables and its words
  -- It is a row of its list.
  base_row_le : base_row r ≤ base_bound k r + 1
  base_row_le = kinds k r (λ j s. s ≤ j + 1) (λ e. omega arith) (λ e h. omega arith) (λ h. omega arith)

  -- Its list has no more variables than the list for 1.
  base_variables : variables m (base_bound k r) ≤ variables m 1
  base_variables = kinds k r (λ j s. variables m j ≤ variables m 1) (λ e. omega arith) (λ e h. omega arith)
      (λ h. omega (arith, variables_is m 0, variables_is m 1))

  -- Each word of a piece names a variable of the list for 1 or is 0.
  pub base_piece_inside : T (well_formed m) → (p : ℕ) → p < row_pieces m k r
      → All (λ w. nat_abs w ≤ variables m 1) (words_of (piece_of m (base_bound k r) (base_row r) p))
  base_piece_inside ok p h =
      words_named base_variables (piece_of m j s p) (piece_clauses_inside m ok j s p base_row_le (omega (arith, base_pieces)))

  -- So does each word of the row.
  pub base_row_inside : T (well_formed m) → All (λ w. nat_abs w ≤ variables m 1) (words_of (row_of m (base_bound k r) (base_row r)))
  base_row_inside ok = words_named base_variables (row_of m j s) (row_inside m ok j s base_row_le)

-- A row has no more words than its list.
row_words : (m : Model) (k r : ℕ) → r ≤ k + 1 → length (words_of (row_of m k r)) ≤ length (words m k)
unfolding words
row_words m k r h =
    let len : ℕ → ℕ = λ i. length (words_of (row_of m k i)) in
    let joined = ap (λ (l : List Clause). length (words_of l)) (cut_joined m k) in
    let sum : length (words m k) ≡ sum_below len (k + 2) = joined ∙ words_each len (k + 2) (row_of m k) (λ i. refl) in
    omega (arith, sum, sum_mono len r (k + 2) (omega arith))

-- The end has no more words than a piece.
end_words : (m : Model) → T (well_formed m) → length (words_of (row_of m 0 1)) ≤ most_piece_words
end_words m ok =
    let n : ℕ = row_pieces m 0 1 in
    let len : ℕ → ℕ = λ p. length (words_of (piece_of m 0 1 p)) in
    let sum : length (words_of (row_of m 0 1)) ≡ sum_below len n = words_each len n (piece_of m 0 1) (λ p. refl) in
    omega (arith, sum, row_end m 0 1 (omega arith), sum_below_lem len n most_piece_words (piece_words_most m ok 0 1))

-- Where the list for 1 has no more words than a piece may have, neither has a row at the first block.
pub base_row_most : (m : Model) (k r : ℕ) → T (well_formed m) → length (words m 1) ≤ most_piece_words
    → length (words_of (row_of m (base_bound k r) (base_row r))) ≤ most_piece_words
base_row_most m k r ok h = kinds k r (λ j s. length (words_of (row_of m j s)) ≤ most_piece_words)
    (λ e. omega (arith, row_words m 1 0 (omega arith)))
    (λ e l. omega (arith, row_words m 1 1 (omega arith)))
    (λ l. end_words m ok)
