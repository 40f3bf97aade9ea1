-- The numbered pieces of the list: which piece a number names; joined they are the list; how many words a piece has at most, and that each of its
-- words names one of the list's variables.
use mathlib.Core.Path.{◌≡◌, refl, sym, ap, ap₂, subst, ◌∙◌}
use mathlib.Core.Logic.{⊎_elim}
use mathlib.Core.Bool.{Bool, true, false, cond}
use mathlib.Core.List.{List, [], ◌∷◌, ◌++◌, map}
use Prim.Native.Nat.{ℕ, suc, ◌+◌, ◌-◌, ◌≤◌, ◌<◌}
use native.Mathlib.Numerals.{add-one}
use native.Mathlib.Omega.{arith}
use borrow.Author.Tests.{lt-ltb, le-ltb, le-leb, lt-leb, eq-eqb, ne_eqb}
use lib.Dec.{T, eqb, leb}
use lib.IntN.{ℤ, pos, neg_ℤ, nat_abs}
use lib.ListN.{length}
use Rattle.model.specs.declared.Model.{Model}
use Rattle.model.specs.Indexed.{each}
use Rattle.model.specs.Automaton.{ceiling, choices, group_size, variables}
use Rattle.model.specs.Form.{well_formed}
use Rattle.model.proofs.IndexedLaws.{lt_or_le, each_zero}
use Rattle.model.proofs.FormLaws.{WellFormed, formed, choices_is, choices_le, variables_le}
use Rattle.list.specs.Lists.{All}
use Rattle.list.specs.Items.{offset, state_width, block_at, next_block, invariant_of, state_items, start_items, initial_items, choice_items, delay_items}
use Rattle.list.specs.Items.{edge_of, step_items, end_items}
use Rattle.list.specs.Clauses.{Literal, bare, negated, Clause, word, clause_words, words_of, one_hot_width, group_clauses, clauses_of, clauses}
use Rattle.list.proofs.ListLaws.{all_app, all_each, each_cong, each_add, each_more}
use Rattle.list.proofs.PieceClauses.{clauses_pieces, start_piece, state_piece_lem, groups_piece, invariants_piece}
use Rattle.list.proofs.PieceClauses.{step_piece_lem, choice_piece, delays_piece, edges_piece}
use Rattle.list.proofs.Within.{index, ClauseInside, clauses_inside}
use Rattle.parts.specs.Numbering.{most_variables}
use Rattle.parts.specs.StateBlock.{component_at}
use Rattle.parts.proofs.GroupLaws.{over_groups, many_le}
use Rattle.counts.proofs.CountLaws.{Most}
use Rattle.counts.proofs.GroupLaws.{counted_group, group_32}
use Rattle.counts.proofs.PieceBounds.{edge_most, invariant_most, delay_most, initial_most, end_most, choice_most}
use Rattle.emission.specs.Cut.{most_piece_words, group_count, state_count, state_piece, step_count, step_piece, row_pieces, piece_of, row_of}

-- ---- a test that is known
module _ {A : Type 0} {t : Bool} (x y : A) where
  yes : t ≡ true → cond t x y ≡ x
  yes e = rw e

  no : t ≡ false → cond t x y ≡ y
  no e = rw e

module _ (m : Model) where
  -- ---- a piece of state clauses
  pub state_group : (o p : ℕ) → p < group_count m
      → state_piece m o p ≡ group_clauses (o + offset one_hot_width m (component_at m p)) (group_size m (component_at m p))
  unfolding state_piece
  state_group o p h = yes _ _ (lt-ltb p (group_count m) h)

  pub state_invariant : (o p : ℕ) → group_count m ≤ p → state_piece m o p ≡ clauses_of (invariant_of one_hot_width m o (p - group_count m))
  unfolding state_piece
  state_invariant o p h = no _ _ (le-ltb p (group_count m) h)

  -- ---- a piece of a step
  pub step_choice : (o p : ℕ) → p ≡ 0 → step_piece m o p ≡ clauses_of (choice_items one_hot_width m o)
  unfolding step_piece
  step_choice o p h = yes _ _ (eq-eqb p 0 h)

  pub step_delay : (o p : ℕ) → (p ≡ 0 → ⊥) → p ≤ ceiling m + 1 → step_piece m o p ≡ clauses_of (delay_items one_hot_width m o (p - 1))
  unfolding step_piece
  step_delay o p e h = no _ _ (ne_eqb p 0 e) ∙ yes _ _ (le-leb p (ceiling m + 1) h)

  pub step_edge : (o p : ℕ) → ceiling m + 1 < p → p ≤ choices m
      → step_piece m o p ≡ clauses_of (edge_of one_hot_width m o (p - (ceiling m + 2)))
  unfolding step_piece
  step_edge o p h l = no _ _ (ne_eqb p 0 (λ e. omega arith)) ∙ no _ _ (lt-leb p (ceiling m + 1) h) ∙ yes _ _ (le-leb p (choices m) l)

  pub step_state : (o p : ℕ) → choices m < p → step_piece m o p ≡ state_piece m (next_block one_hot_width m o) (p - (1 + choices m))
  unfolding step_piece
  step_state o p h =
      no _ _ (ne_eqb p 0 (λ e. omega arith)) ∙ no _ _ (lt-leb p (ceiling m + 1) (omega (arith, choices_is m))) ∙ no _ _ (lt-leb p (choices m) h)

  -- ---- a row and its pieces
  module _ (k r : ℕ) where
    pub row_start : r ≡ 0 → row_pieces m k r ≡ state_count m + 1
    unfolding row_pieces
    row_start e = yes _ _ (eq-eqb r 0 e)

    pub row_step : (r ≡ 0 → ⊥) → r ≤ k → row_pieces m k r ≡ step_count m
    unfolding row_pieces
    row_step e h = no _ _ (ne_eqb r 0 e) ∙ yes _ _ (le-leb r k h)

    pub row_end : k < r → row_pieces m k r ≡ 1
    unfolding row_pieces
    row_end h = no _ _ (ne_eqb r 0 (λ e. omega arith)) ∙ no _ _ (lt-leb r k h)

    pub start_state : (p : ℕ) → r ≡ 0 → p < state_count m → piece_of m k r p ≡ state_piece m 0 p
    unfolding piece_of
    start_state p e h = yes _ _ (eq-eqb r 0 e) ∙ yes _ _ (lt-ltb p (state_count m) h)

    pub start_initial : (p : ℕ) → r ≡ 0 → state_count m ≤ p → piece_of m k r p ≡ clauses_of (initial_items one_hot_width m)
    unfolding piece_of
    start_initial p e h = yes _ _ (eq-eqb r 0 e) ∙ no _ _ (le-ltb p (state_count m) h)

    pub of_step : (p : ℕ) → (r ≡ 0 → ⊥) → r ≤ k → piece_of m k r p ≡ step_piece m (block_at one_hot_width m (r - 1)) p
    unfolding piece_of
    of_step p e h = no _ _ (ne_eqb r 0 e) ∙ yes _ _ (le-leb r k h)

    pub of_end : (p : ℕ) → k < r → piece_of m k r p ≡ clauses_of (end_items one_hot_width m k)
    unfolding piece_of
    of_end p h = no _ _ (ne_eqb r 0 (λ e. omega arith)) ∙ no _ _ (lt-leb r k h)

-- ---- the pieces, joined
abbrev both : {a b x y : List Clause} → a ≡ x → b ≡ y → a ++ b ≡ x ++ y
both p q = ap₂ (λ (u v : List Clause). u ++ v) p q

-- one piece alone
pub each_1 : (f : ℕ → List Clause) → each 1 f ≡ f 0
each_1 f = each_more 0 f ∙ ap (λ (l : List Clause). l ++ f 0) (each_zero f)

-- n pieces are two stretches of pieces
two : {n : ℕ} (a b : ℕ) {f : ℕ → List Clause} (g h : ℕ → List Clause) → n ≡ a + b → ((i : ℕ) → i < a → f i ≡ g i)
    → ((i : ℕ) → i < b → f (a + i) ≡ h i) → each n f ≡ each a g ++ each b h
two a b {f} g h e p q = ap (λ (i : ℕ). each i f) e ∙ each_add a b f ∙ both (each_cong a f g p) (each_cong b (λ i. f (a + i)) h q)

module _ (m : Model) where
  state_joined : (o : ℕ) → each (state_count m) (state_piece m o) ≡ clauses_of (state_items one_hot_width m o)
  state_joined o =
      two (group_count m) m.locations (λ g. group_clauses (o + offset one_hot_width m (component_at m g)) (group_size m (component_at m g)))
      (λ l. clauses_of (invariant_of one_hot_width m o l)) refl (state_group m o) (λ l h. invariant l) ∙
      both (over_groups m (λ x. group_clauses (o + offset one_hot_width m x) (group_size m x)) ∙ sym (groups_piece m o)) (sym (invariants_piece m o)) ∙
      sym (state_piece_lem m o)
    where
      invariant : (l : ℕ) → state_piece m o (group_count m + l) ≡ clauses_of (invariant_of one_hot_width m o l)
      invariant l =
          let e : group_count m + l - group_count m ≡ l = omega arith in
          state_invariant m o (group_count m + l) (omega arith) ∙ ap (λ (i : ℕ). clauses_of (invariant_of one_hot_width m o i)) e

  step_joined : (o : ℕ) → each (step_count m) (step_piece m o) ≡ clauses_of (step_items one_hot_width m o)
  step_joined o =
      let next = next_block one_hot_width m o in
      let front = 1 + (ceiling m + 1) in
      two (front + m.used) (state_count m) (step_piece m o) (state_piece m next) (omega (arith, choices_is m)) (λ i h. refl) (λ i h. state i) ∙
      both (two front m.used (step_piece m o) (λ e. clauses_of (edge_of one_hot_width m o e)) refl (λ i h. refl) edge ∙
      both (two 1 (ceiling m + 1) (λ i. clauses_of (choice_items one_hot_width m o)) (λ d. clauses_of (delay_items one_hot_width m o d)) refl
      (λ i h. step_choice m o i (omega arith)) delay ∙
      both (each_1 (λ i. clauses_of (choice_items one_hot_width m o))) (sym (delays_piece m o))) (sym (edges_piece m o))) (state_joined next) ∙
      sym (step_piece_lem m o)
    where
      delay : (d : ℕ) → d < ceiling m + 1 → step_piece m o (1 + d) ≡ clauses_of (delay_items one_hot_width m o d)
      delay d h =
          let e : 1 + d - 1 ≡ d = omega arith in
          step_delay m o (1 + d) (λ q. omega arith) (omega arith) ∙ ap (λ (i : ℕ). clauses_of (delay_items one_hot_width m o i)) e

      edge : (e : ℕ) → e < m.used → step_piece m o (1 + (ceiling m + 1) + e) ≡ clauses_of (edge_of one_hot_width m o e)
      edge e h =
          let q : 1 + (ceiling m + 1) + e - (ceiling m + 2) ≡ e = omega arith in
          step_edge m o (1 + (ceiling m + 1) + e) (omega arith) (omega (arith, choices_is m))
          ∙ ap (λ (i : ℕ). clauses_of (edge_of one_hot_width m o i)) q

      state : (i : ℕ) → step_piece m o (1 + (ceiling m + 1) + m.used + i) ≡ state_piece m (next_block one_hot_width m o) i
      state i =
          let q : 1 + (ceiling m + 1) + m.used + i - (1 + choices m) ≡ i = omega (arith, choices_is m) in
          step_state m o (1 + (ceiling m + 1) + m.used + i) (omega (arith, choices_is m)) ∙ ap (state_piece m (next_block one_hot_width m o)) q

  -- ---- rows
  -- row 0, joined, is the start
  pub start_joined : (k : ℕ) → row_of m k 0 ≡ clauses_of (start_items one_hot_width m)
  start_joined k =
      two (state_count m) 1 (state_piece m 0) (λ i. clauses_of (initial_items one_hot_width m)) (row_start m k 0 refl) (λ i h. start_state m k 0 i refl h)
      (λ i h. start_initial m k 0 (state_count m + i) refl (omega arith)) ∙
      both (state_joined 0) (each_1 (λ i. clauses_of (initial_items one_hot_width m))) ∙ sym (start_piece m)

  -- row t + 1 is the step from state t
  pub row_joined : (k t : ℕ) → t < k → row_of m k (1 + t) ≡ clauses_of (step_items one_hot_width m (block_at one_hot_width m t))
  row_joined k t h =
      let e : 1 + t - 1 ≡ t = omega arith in
      let o = block_at one_hot_width m t in
      ap (λ (n : ℕ). each n (piece_of m k (1 + t))) (row_step m k (1 + t) (λ q. omega arith) (omega arith)) ∙
      each_cong (step_count m) (piece_of m k (1 + t)) (step_piece m o)
      (λ p l. of_step m k (1 + t) p (λ q. omega arith) (omega arith) ∙ ap (λ (s : ℕ). step_piece m (block_at one_hot_width m s) p) e) ∙ step_joined o

  -- every row after k is the end
  pub end_joined : (k r : ℕ) → k < r → row_of m k r ≡ clauses_of (end_items one_hot_width m k)
  end_joined k r h =
      ap (λ (n : ℕ). each n (piece_of m k r)) (row_end m k r h) ∙ each_1 (piece_of m k r) ∙ of_end m k r 0 h

-- Of any model, the pieces make up the list, row after row.
pub cut_joined : (m : Model) (k : ℕ) → clauses m k ≡ each (k + 2) (row_of m k)
cut_joined m k =
    let step : ℕ → List Clause = λ t. clauses_of (step_items one_hot_width m (block_at one_hot_width m t)) in
    let n : k + 2 ≡ 1 + k + 1 = omega arith in
    clauses_pieces m k ∙ sym (
    two (1 + k) 1 (row_of m k) (λ i. clauses_of (end_items one_hot_width m k)) n (λ i h. refl) (λ i h. end_joined m k (1 + k + i) (omega arith)) ∙
    both (two 1 k (λ i. clauses_of (start_items one_hot_width m)) step refl
    (λ i h. let z : i ≡ 0 = omega arith in ap (row_of m k) z ∙ start_joined m k) (row_joined m k) ∙
    ap (λ (l : List Clause). l ++ each k step) (each_1 (λ i. clauses_of (start_items one_hot_width m))))
    (each_1 (λ i. clauses_of (end_items one_hot_width m k))))

-- The rows from the first on make up the list.
pub rows_from_first : (m : Model) (k : ℕ) → clauses m k ≡ each (k + 2) (λ i. row_of m k (0 + i))
rows_from_first m k =
    cut_joined m k ∙ each_cong (k + 2) (row_of m k) (λ i. row_of m k (0 + i)) (λ i h. let e : i ≡ 0 + i = omega arith in ap (row_of m k) e)

-- ---- how many pieces a row has, and how many words a piece
module _ (m : Model) (ok : T (well_formed m)) where
  abbrev wf : WellFormed m
  wf = formed m ok

  -- a row has at most 90 pieces: 1 + 64 + 9 + 16
  pub row_pieces_most : (k r : ℕ) → row_pieces m k r ≤ 90
  unfolding row_pieces
  row_pieces_most k r = by (eqb r 0) (leb r k)
    where
      by : (s t : Bool) → cond s (state_count m + 1) (cond t (step_count m) 1) ≤ 90
      by true t = omega (arith, wf.vars_le, wf.clocks_le, wf.locations_le)
      by false true = omega (arith, choices_le m wf, wf.vars_le, wf.clocks_le, wf.locations_le)
      by false false = omega arith

  abbrev Short : List Clause → Type 0
  Short cs = length (words_of cs) ≤ most_piece_words

  short : {cs ds : List Clause} {c w : ℕ} → cs ≡ ds → Most ds c w → w ≤ most_piece_words → Short cs
  short e s l = subst Short (sym e) (omega (arith, s.words_most))

  state_short : (o p : ℕ) → p < state_count m → Short (state_piece m o p)
  state_short o p h = ⊎_elim
      (λ l. short (state_group m o p l) (group_32 _ _ (many_le m wf p)) (omega arith))
      (λ l. short (state_invariant m o p l) (invariant_most m ok o (p - group_count m) (omega arith)) (omega arith))
      (lt_or_le p (group_count m))

  step_short : (o p : ℕ) → p < step_count m → Short (step_piece m o p)
  step_short o p h = ⊎_elim (λ l. short (step_choice m o p (omega arith)) (choice_most m ok o) (omega arith))
      (λ l. ⊎_elim (λ d. short (step_delay m o p (λ e. omega arith) (omega arith)) (delay_most m ok o (p - 1)) (omega arith))
      (λ d. ⊎_elim
      (λ e. short (step_edge m o p (omega arith) (omega arith)) (edge_most m ok o (p - (ceiling m + 2)) (omega (arith, choices_is m))) (omega arith))
      (λ e. subst Short (sym (step_state m o p (omega arith))) (state_short (next_block one_hot_width m o) (p - (1 + choices m)) (omega arith)))
      (lt_or_le p (1 + choices m))) (lt_or_le p (ceiling m + 2))) (lt_or_le p 1)

  start_short : (k p : ℕ) → Short (piece_of m k 0 p)
  start_short k p = ⊎_elim
      (λ l. subst Short (sym (start_state m k 0 p refl l)) (state_short 0 p l))
      (λ l. short (start_initial m k 0 p refl l) (initial_most m ok) (omega arith)) (lt_or_le p (state_count m))

  -- No piece has more than 6,113 words.
  pub piece_words_most : (k r p : ℕ) → p < row_pieces m k r → length (words_of (piece_of m k r p)) ≤ most_piece_words
  piece_words_most k r p h = ⊎_elim
      (λ z. let e : r ≡ 0 = omega arith in subst (λ (i : ℕ). Short (piece_of m k i p)) (sym e) (start_short k p))
      (λ z. ⊎_elim
      (λ l. let q : r ≤ k = omega arith in let z : r ≡ 0 → ⊥ = λ e. omega arith in
      subst Short (sym (of_step m k r p z q)) (step_short (block_at one_hot_width m (r - 1)) p (omega (arith, row_step m k r z q))))
      (λ l. short (of_end m k r p (omega arith)) (end_most m ok k) (omega arith)) (lt_or_le r (k + 1))) (lt_or_le r 1)

-- The group of 64 choices has just as many.
pub choice_words : (m : Model) (k r : ℕ) → 1 ≤ r → r ≤ k → choices m ≡ 64 → length (words_of (piece_of m k r 0)) ≡ most_piece_words
choice_words m k r h l e =
    let o = block_at one_hot_width m (r - 1) in
    ap (λ (l : List Clause). length (words_of l))
    (of_step m k r 0 (λ q. omega arith) l ∙ step_choice m o 0 refl ∙ choice_piece m o ∙ ap (group_clauses (o + state_width one_hot_width m)) e)
    ∙ sym (counted_group (o + state_width one_hot_width m) 64).words_are

-- ---- the variables that the words of a piece name
-- A word is 0 or names a variable of at most M.
abbrev Named : ℕ → ℤ → Type 0
Named M w = nat_abs w ≤ M

module _ {N M : ℕ} (most : N ≤ M) where
  -- The word of a literal that has one of the first N variables.
  word_named : (l : Literal) → index l < N → Named M (word l)
  word_named (bare i) h = omega arith
  word_named (negated i) h =
      let e : nat_abs (neg_ℤ (pos (i + 1))) ≡ suc i = ap (λ (n : ℕ). nat_abs (neg_ℤ (pos n))) (add-one i) in
      omega arith

  -- The words of a clause's literals.
  literals_named : (c : Clause) → ClauseInside N c → All (Named M) (map word c)
  literals_named [] h = tt
  literals_named (l ∷ c) h = (word_named l h.0, literals_named c h.1)

  -- The words of clauses that name the first N variables alone.
  pub words_named : (cs : List Clause) → All (ClauseInside N) cs → All (λ w. nat_abs w ≤ M) (words_of cs)
  unfolding words_of clause_words
  words_named [] h = tt
  words_named (c ∷ cs) h =
      (all_app (Named M) (map word c ++ (pos 0 ∷ [])) (words_of cs)).1
      ((all_app (Named M) (map word c) (pos 0 ∷ [])).1 (literals_named c h.0, (omega arith, tt)), words_named cs h.1)

-- Of a well-formed model, the clauses of a row name the list's variables alone,
pub row_inside : (m : Model) → T (well_formed m) → (k r : ℕ) → r ≤ k + 1 → All (ClauseInside (variables m k)) (row_of m k r)
row_inside m ok k r l =
    let N : ℕ = variables m k in
    let P : List Clause → Type 0 = All (ClauseInside N) in
    (all_each (ClauseInside N) (k + 2) (row_of m k)).0 (subst P (cut_joined m k) (clauses_inside m ok k)) r (omega arith)

-- and so do those of a piece.
pub piece_clauses_inside : (m : Model) → T (well_formed m) → (k r p : ℕ) → r ≤ k + 1 → p < row_pieces m k r
    → All (ClauseInside (variables m k)) (piece_of m k r p)
piece_clauses_inside m ok k r p l q = (all_each (ClauseInside (variables m k)) (row_pieces m k r) (piece_of m k r)).0 (row_inside m ok k r l) p q

-- Of a well-formed model and a bound of at most 64, every word of a piece names a variable of at most 21,776 or is 0.
pub piece_inside : (m : Model) → T (well_formed m) → (k r p : ℕ) → k ≤ 64 → r ≤ k + 1 → p < row_pieces m k r
    → All (λ w. nat_abs w ≤ most_variables) (words_of (piece_of m k r p))
piece_inside m ok k r p h l q = words_named (variables_le m (formed m ok) k h) (piece_of m k r p) (piece_clauses_inside m ok k r p l q)

-- The same of the whole list.
pub list_inside : (m : Model) → T (well_formed m) → (k : ℕ) → k ≤ 64 → All (λ w. nat_abs w ≤ most_variables) (words_of (clauses m k))
list_inside m ok k h = words_named (variables_le m (formed m ok) k h) (clauses m k) (clauses_inside m ok k)
