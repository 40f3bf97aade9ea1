-- The pieces of the list by the table of a well-formed model, and that all of them can be written.
use Rattle.std.proofs.Common.{ℕ, ◌+◌, ◌-◌, ◌≤◌, ◌<◌, ◌≡◌, List, [], ◌∷◌, ◌++◌, T, length, ℤ, arith, refl, sym, ap, ap₂, ◌∙◌}
use native.Mathlib.Nat.{suc-mul}
use Rattle.model.specs.declared.Model.{Model}
use Rattle.model.specs.Indexed.{each}
use Rattle.model.specs.Record.{atom_at, update_at, reset_at, edge_at}
use Rattle.model.specs.Automaton.{ceiling, state_size, choices}
use Rattle.model.specs.Form.{well_formed}
use Rattle.model.proofs.FormLaws.{formed, state_size_le, choices_is}
use Rattle.list.specs.Items.{block_at, start_items, state_items, invariant_of}
use Rattle.list.specs.Items.{end_items, choice_items, delay_items, delays_items, edges_items, edge_of}
use Rattle.list.specs.Clauses.{Clause, bare, negated, one, one_hot_width, group_clauses, clauses_of}
use Rattle.list.proofs.ListLaws.{each_cong}
use Rattle.list.proofs.PieceClauses.{end_piece, edges_piece, delays_piece, step_piece_lem}
use Rattle.list.proofs.PieceClauses.{next_block_lem as next_is}
use Rattle.list.proofs.OneHot.{block_is}
use Rattle.parts.specs.declared.GroupTable.{GroupTable}
use Rattle.parts.specs.StateBlock.{first_at, size_at}
use Rattle.parts.specs.Numbering.{variable_number, most_variables}
use Rattle.parts.specs.Rules.{Fits}
use Rattle.parts.specs.PartsOf.{next_at, atom_part, update_part, reset_part, edge_part}
use Rattle.parts.specs.Pieces.{Known, group_piece, atom_piece, edge_clauses, step_clauses}
use Rattle.parts.proofs.NumberingLaws.{variable_number_lem, block_most}
use Rattle.parts.proofs.GroupLaws.{first_is, size_is}
use Rattle.parts.proofs.EdgeParts.{source_part, target_part, guard_part, counter_part, clock_part}
use Rattle.parts.proofs.EdgeKinds.{edge_kinds, update_piece, reset_piece}
use Rattle.parts.proofs.KnownLaws.{wf, known_bounded, known_groups, known_state, known_choices, known_top, at_most_nine}
use Rattle.parts.proofs.KnownLaws.{edge_fits_of, edge_piece_of}
use Rattle.emission.specs.Writable.{StateFits, StepFits}
use Rattle.emission.specs.Written.{RoomFor}
use Rattle.emission.specs.Cut.{most_piece_words, state_piece, step_piece, row_pieces, piece_of, row_of}
use Rattle.emission.proofs.PartRows.{fits_as}
use Rattle.emission.proofs.CutLaws.{each_1, state_group, state_invariant, step_choice, step_delay, step_edge, step_state, piece_words_most}
use Rattle.emission.proofs.CutLaws.{start_joined, row_joined}

-- the target's number is one more than its variable
pub end_is : (m : Model) (k n : ℕ) → n ≡ variable_number m k m.target → clauses_of (end_items one_hot_width m k) ≡ one (bare (n - 1) ∷ [])
end_is m k n e =
    let q : block_at one_hot_width m k + 0 + m.target ≡ n - 1 = omega (arith, e, variable_number_lem m k m.target) in
    end_piece m k ∙ ap (λ (n : ℕ). one (bare n ∷ [])) q

pub target_number : (m : Model) → T (well_formed m) → (k n : ℕ) → k ≤ 64 → n ≡ variable_number m k m.target → (1 ≤ n) × (n ≤ most_variables)
target_number m ok k n h e =
    let f = formed m ok in (
      omega (arith, e, variable_number_lem m k m.target),
      omega (arith, e, variable_number_lem m k m.target, block_most m f k h, f.target_ok, f.locations_le),
    )

module _ {m : Model} {b : GroupTable} (k : Known m b) where
  -- a state block of a list for a bound of at most 64
  pub block_below : (t o : ℕ) → t ≤ 64 → o ≡ block_at one_hot_width m t → StateFits m o
  block_below t o h e = omega (arith, e, block_most m (wf k) t h, state_size_le m (wf k))

  after_block : (t : ℕ) → block_at one_hot_width m (t + 1) ≡ block_at one_hot_width m t + state_size m + choices m
  after_block t = omega (arith, block_is m (t + 1), block_is m t, suc-mul t (state_size m + choices m))

  pub step_below : (t o : ℕ) → t < 64 → o ≡ block_at one_hot_width m t → StepFits m o
  step_below t o h e = omega (arith, e, block_below (t + 1) _ (omega arith) refl, after_block t)

  -- ---- an edge
  -- its variables, as the choice M + 1 + e of the step from the state block at o
  module _ (o : ℕ) (h : StepFits m o) (e : ℕ) (l : e < m.used) where
    fit : (j : ℕ) → j < b.groups + 5 → Fits (edge_part b (edge_at m e) o j) most_variables
    fit = edge_fits_of k o most_variables h e l

    pub choice_below : o + b.state + b.top + 1 + e < most_variables
    choice_below = omega (arith, known_state k, known_top k, choices_is m)

    pub source_in : o + (edge_at m e).source < most_variables
    source_in = omega (arith, (fits_as (source_part b (edge_at m e) o) (fit 0 (omega arith))).after_in)

    pub target_in : next_at b o + (edge_at m e).target < most_variables
    target_in = omega (arith, (fits_as (target_part b (edge_at m e) o) (fit 1 (omega arith))).after_in)

    pub guard_fits : (j : ℕ) → j < 4 → Fits (atom_part b o (atom_at (edge_at m e).guard j)) most_variables
    guard_fits j q = fits_as (guard_part b (edge_at m e) o j q) (fit (2 + j) (omega (arith, (known_bounded k).vars_in)))

    pub updates_fit : (i : ℕ) → i < b.vars → Fits (update_part b o (edge_at m e).order i (update_at (edge_at m e) i)) most_variables
    updates_fit i q = fits_as (counter_part b (edge_at m e) o i q) (fit (6 + i) (omega (arith, (known_bounded k).vars_in)))

    pub resets_fit : (i : ℕ) → i < b.groups - (1 + b.vars) → Fits (reset_part b o i (reset_at (edge_at m e) i)) most_variables
    resets_fit i q = fits_as (clock_part b (edge_at m e) o i) (fit (6 + b.vars + i) (omega (arith, (known_bounded k).vars_in)))

  -- its clauses, kind after kind
  pub edge_is : (o e : ℕ) → e < m.used → let d = edge_at m e in let x = o + b.state + b.top + 1 + e in
      clauses_of (edge_of one_hot_width m o e)
      ≡ one (negated x ∷ bare (o + d.source) ∷ []) ++ one (negated x ∷ bare (next_at b o + d.target) ∷ []) ++ each 4 (atom_piece b o x d.guard)
      ++ each b.vars (update_piece b x o d) ++ each (b.groups - (1 + b.vars)) (reset_piece b x o d)
  unfolding edge_clauses
  edge_is o e l =
      let x = o + b.state + b.top + 1 + e in
      sym (edge_piece_of k o x e l (omega (arith, known_state k, known_top k))) ∙ edge_kinds b x o (edge_at m e) (known_bounded k).vars_in

  -- ---- delays
  pub delays_are : (o : ℕ) → clauses_of (delays_items one_hot_width m o) ≡ each (b.top + 1) (λ d. clauses_of (delay_items one_hot_width m o d))
  delays_are o = delays_piece m o ∙ ap (λ (n : ℕ). each (n + 1) (λ d. clauses_of (delay_items one_hot_width m o d))) (sym (known_top k))

  -- ---- a piece of state clauses
  pub group_is : (o p : ℕ) → p < b.groups → state_piece m o p ≡ group_piece b o p
  group_is o p h =
      let n : p < 9 = omega (arith, at_most_nine k) in
      state_group m o p (omega (arith, known_groups k)) ∙ ap₂ (λ (s i : ℕ). group_clauses (o + s) i)
      (sym (ap (λ (x : GroupTable). first_at x p) k.is ∙ first_is m p n)) (sym (ap (λ (x : GroupTable). size_at x p) k.is ∙ size_is m p n))

  pub invariant_is : (o p : ℕ) → b.groups ≤ p → state_piece m o p ≡ clauses_of (invariant_of one_hot_width m o (p - b.groups))
  invariant_is o p h =
      let e : p - (1 + m.vars + m.clocks) ≡ p - b.groups = omega (arith, known_groups k) in
      state_invariant m o p (omega (arith, known_groups k)) ∙ ap (λ (i : ℕ). clauses_of (invariant_of one_hot_width m o i)) e

-- ---- a step
pub edges_are : (m : Model) (o : ℕ) → clauses_of (edges_items one_hot_width m o) ≡ each m.used (λ i. clauses_of (edge_of one_hot_width m o (0 + i)))
edges_are m o =
    edges_piece m o ∙ each_cong m.used (λ i. clauses_of (edge_of one_hot_width m o i)) (λ i. clauses_of (edge_of one_hot_width m o (0 + i)))
    (λ i l. let z : i ≡ 0 + i = omega arith in ap (λ (e : ℕ). clauses_of (edge_of one_hot_width m o e)) z)

pub step_is : (m : Model) (t o next : ℕ) → o ≡ block_at one_hot_width m t → next ≡ block_at one_hot_width m (t + 1)
    → step_clauses m t ≡ clauses_of (choice_items one_hot_width m o) ++ clauses_of (delays_items one_hot_width m o)
    ++ clauses_of (edges_items one_hot_width m o) ++ clauses_of (state_items one_hot_width m next)
unfolding step_clauses
step_is m t o next e f =
    let own = block_at one_hot_width m t in
    step_piece_lem m own ∙ ap₂ (λ (p n : ℕ). clauses_of (choice_items one_hot_width m p) ++ clauses_of (delays_items one_hot_width m p)
    ++ clauses_of (edges_items one_hot_width m p) ++ clauses_of (state_items one_hot_width m n)) (sym e) (next_is m t ∙ sym f)

-- ---- a piece of the step from the state block at o, that of state t
module _ {m : Model} {b : GroupTable} (k : Known m b) (t o p : ℕ) (at_o : o ≡ block_at one_hot_width m t) where
  here : (f : ℕ → List Clause) → f (block_at one_hot_width m t) ≡ f o
  here f = ap f (sym at_o)

  pub choice_is : p ≡ 0 → step_piece m (block_at one_hot_width m t) p ≡ clauses_of (choice_items one_hot_width m o)
  choice_is h = here (λ s. step_piece m s p) ∙ step_choice m o p h

  pub delay_is : (p ≡ 0 → ⊥) → p ≤ b.top + 1 → step_piece m (block_at one_hot_width m t) p ≡ clauses_of (delay_items one_hot_width m o (p - 1))
  delay_is e h = here (λ s. step_piece m s p) ∙ step_delay m o p e (omega (arith, known_top k))

  pub one_edge_is : b.top + 1 < p → p ≤ b.choices
      → step_piece m (block_at one_hot_width m t) p ≡ each 1 (λ i. clauses_of (edge_of one_hot_width m o (p - (1 + (b.top + 1)) + i)))
  one_edge_is h l =
      let z : p - (ceiling m + 2) ≡ p - (1 + (b.top + 1)) + 0 = omega (arith, known_top k) in
      here (λ s. step_piece m s p) ∙ step_edge m o p (omega (arith, known_top k)) (omega (arith, known_choices k)) ∙
      ap (λ (n : ℕ). clauses_of (edge_of one_hot_width m o n)) z ∙
      sym (each_1 (λ i. clauses_of (edge_of one_hot_width m o (p - (1 + (b.top + 1)) + i))))

pub state_after_is : {m : Model} {b : GroupTable} → Known m b → (t next p : ℕ) → next ≡ block_at one_hot_width m (t + 1) → b.choices < p
    → step_piece m (block_at one_hot_width m t) p ≡ state_piece m next (p - (1 + b.choices))
state_after_is {m} k t next p e h =
    step_state m (block_at one_hot_width m t) p (omega (arith, known_choices k)) ∙
    ap₂ (λ (s n : ℕ). state_piece m s (p - (1 + n))) (next_is m t ∙ sym e) (sym (known_choices k))

-- a buffer for the longest piece has room for each
pub piece_room : (m : Model) → T (well_formed m) → (n r p : ℕ) {buffer : List ℤ} → p < row_pieces m n r → most_piece_words ≤ length buffer
    → RoomFor (piece_of m n r p) buffer 0
piece_room m ok n r p h l = record { words = record { room = omega (arith, piece_words_most m ok n r p h) } }

-- ---- a row and its pieces
module _ (m : Model) (k r : ℕ) where
  -- a row numbered 0 is the start
  pub start_row : r ≡ 0 → row_of m k r ≡ clauses_of (start_items one_hot_width m)
  start_row e = ap (row_of m k) e ∙ start_joined m k

  -- a row numbered 1 to k is the step from the state before
  pub step_row : (r ≡ 0 → ⊥) → r ≤ k → row_of m k r ≡ step_clauses m (r - 1)
  unfolding step_clauses
  step_row e h =
      let q : r ≡ 1 + (r - 1) = omega arith in
      ap (row_of m k) q ∙ row_joined m k (r - 1) (omega arith)
