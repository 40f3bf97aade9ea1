-- The rows of the list as text: what a row's words at the first block and the table of its texts give; the rows joined; rows that repeat one another.
use mathlib.Core.Path.{◌≡◌, refl, sym, ap, subst, ◌∙◌}
use mathlib.Core.Bool.{Bool, true, false, cond, true≢false, ◌&&◌}
use mathlib.Core.List.{List}
use Prim.Native.Nat.{ℕ, ◌+◌, ◌-◌, ◌≤◌, ◌<◌}
use native.Mathlib.Nat.{mul-le-mul_right}
use native.Mathlib.Omega.{arith}
use lib.Dec.{T, eqb, leb}
use lib.IntN.{ℤ, nat_abs}
use lib.ListN.{length, take, drop, length-append}
use lib.Seq.{length-take-le, take_at}
use borrow.Author.Tests.{leb-true, eqb-true, le-leb, ne_eqb}
use Rattle.model.specs.declared.Model.{Model}
use Rattle.model.specs.Indexed.{each}
use Rattle.model.specs.Automaton.{state_size, choices, variables}
use Rattle.model.specs.Form.{well_formed}
use Rattle.model.proofs.FormLaws.{formed, state_size_le, choices_le}
use Rattle.list.specs.Lists.{All}
use Rattle.list.specs.Items.{block_at}
use Rattle.list.specs.Clauses.{Clause, one_hot_width, clauses, words_of}
use Rattle.list.proofs.OneHot.{block_is}
use Rattle.list.proofs.Raised.{raised}
use Rattle.parts.proofs.NumberingLaws.{block_most}
use Rattle.emission.specs.Cut.{most_piece_words, row_pieces, piece_of, row_of, base_row, base_bound}
use Rattle.emission.specs.Written.{WroteClauses}
use Rattle.emission.proofs.CutLaws.{cut_joined, each_1, piece_words_most}
use Rattle.emission.proofs.CutRaised.{base_pieces, piece_raised, row_raised, base_piece_inside, base_row_inside, base_row_most}
use Rattle.dimacs.specs.File.{lines_of, first_line, file}
use Rattle.dimacs.specs.Rows.{digit_count, follows_step, repeats_row, FewWords, Holds}
use Rattle.dimacs.specs.Texts.{most_near, entries_text, HasText, TextsOf}
use Rattle.dimacs.proofs.LineLaws.{lines_each}
use Rattle.dimacs.proofs.RowLaws.{has_texts, entries_lines, lines_same}

-- clauses that were written from the start
pub wrote_holds : (base : List Clause) {old new : List ℤ} {n : ℕ} → WroteClauses base old new 0 n → Holds base new n
wrote_holds base {old} {new} {n} w =
    let long : length (words_of base) ≡ n = omega (arith, w.words.ends) in
    record {
      fits = omega (arith, w.words.fits, w.words.long);
      front = ap (take n) w.words.list ∙ take_at (words_of base) (drop n old) n long;
    }

-- so many words are held
holds_many : (base : List Clause) {l : List ℤ} {n : ℕ} → Holds base l n → n ≡ length (words_of base)
holds_many base {l} {n} h = sym (length-take-le n l h.fits) ∙ ap length h.front

module _ (m : Model) (ok : T (well_formed m)) (k r : ℕ) where
  pub held_piece_most : (p : ℕ) → p < row_pieces m k r → {l : List ℤ} {n : ℕ} → Holds (piece_of m (base_bound k r) (base_row r) p) l n → n ≤ most_piece_words
  held_piece_most p h held =
      let base = piece_of m (base_bound k r) (base_row r) p in
      omega (arith, holds_many base held, piece_words_most m ok (base_bound k r) (base_row r) p (omega (arith, h, base_pieces m k r)))

  pub held_row_most : FewWords m → {l : List ℤ} {n : ℕ} → Holds (row_of m (base_bound k r) (base_row r)) l n → n ≤ most_piece_words
  held_row_most few held = omega (arith, holds_many (row_of m (base_bound k r) (base_row r)) held, base_row_most m k r ok few)

module _ (m : Model) (ok : T (well_formed m)) where
  -- two states and a choice have at most 608 variables
  pub near_most : variables m 1 ≤ most_near
  unfolding variables
  near_most = omega (arith, state_size_le m (formed m ok), choices_le m (formed m ok))

  pub near_small : (t : ℕ) → t ≤ 64 → block_at one_hot_width m t + variables m 1 < 100000
  near_small t h = omega (arith, near_most, block_most m (formed m ok) t h)

  -- ---- words at the first block, and the table of a row
  module _ (k r : ℕ) (hk : k ≤ 64) (hr : r ≤ k + 1) {texts : List ℕ} (t : TextsOf (block_at one_hot_width m (r - 1)) (variables m 1) texts) where
    small : block_at one_hot_width m (r - 1) + variables m 1 < 100000
    small = near_small (r - 1) (omega arith)

    abbrev Inside : List ℤ → Type 0
    Inside ws = All (λ w. nat_abs w ≤ variables m 1) ws

    texts_of : {ws zs : List ℤ} → ws ≡ zs → Inside zs → All (HasText texts) ws
    texts_of {ws} {zs} e h = rw e (has_texts small near_most t zs h)

    lines_of_lem : {ws : List ℤ} {cs : List Clause} (base : List Clause) → ws ≡ words_of base → Inside (words_of base)
        → cs ≡ raised (block_at one_hot_width m (r - 1)) base → entries_text texts ws ≡ lines_of cs
    lines_of_lem base e h q = ap (entries_text texts) e ∙ entries_lines small near_most t base h ∙ ap lines_of (sym q)

    -- a piece
    module _ (p : ℕ) (hp : p < row_pieces m k r) {ws : List ℤ} (e : ws ≡ words_of (piece_of m (base_bound k r) (base_row r) p)) where
      pub piece_texts : All (HasText texts) ws
      piece_texts = texts_of e (base_piece_inside m k r ok p hp)

      pub piece_lines : entries_text texts ws ≡ lines_of (piece_of m k r p)
      piece_lines = lines_of_lem (piece_of m (base_bound k r) (base_row r) p) e (base_piece_inside m k r ok p hp) (piece_raised m k r hr p)

    -- a whole row
    module _ {ws : List ℤ} (e : ws ≡ words_of (row_of m (base_bound k r) (base_row r))) where
      pub row_texts : All (HasText texts) ws
      row_texts = texts_of e (base_row_inside m k r ok)

      pub row_lines : entries_text texts ws ≡ lines_of (row_of m k r)
      row_lines = lines_of_lem (row_of m (base_bound k r) (base_row r)) e (base_row_inside m k r ok) (row_raised m k r hr)

-- ---- pieces and rows, joined
module _ (m : Model) (k : ℕ) where
  pub row_pieces_joined : (r : ℕ) → lines_of (row_of m k r) ≡ each (row_pieces m k r) (λ p. lines_of (piece_of m k r p))
  row_pieces_joined r = lines_each (row_pieces m k r) (piece_of m k r)

  pub rows_joined : lines_of (clauses m k) ≡ each (k + 2) (λ r. lines_of (row_of m k r))
  rows_joined = ap lines_of (cut_joined m k) ∙ lines_each (k + 2) (row_of m k)

  -- the file's length, row by row
  pub file_long : length (file m k) ≡ length (first_line (variables m k) (length (clauses m k))) + length (each (k + 2) (λ r. lines_of (row_of m k r)))
  unfolding file
  file_long =
      let first = first_line (variables m k) (length (clauses m k)) in
      length-append first (lines_of (clauses m k)) ∙ ap (λ (l : List ℕ). length first + length l) rows_joined

-- ---- the row of the same kind at the first block
pub base_bound_most : (k r : ℕ) → base_bound k r ≤ 1
base_bound_most k r = go (leb r k)
  where
    go : (b : Bool) → cond b 1 0 ≤ 1
    go true = omega arith
    go false = omega arith

pub base_row_first : (r : ℕ) → base_row r ≤ 1
base_row_first r = go (eqb r 0)
  where
    go : (b : Bool) → cond b 0 1 ≤ 1
    go true = omega arith
    go false = omega arith

-- one row alone, by what the code knows
pub one_row : (m : Model) (k r : ℕ) {i j : ℕ} → i ≡ base_bound k r → j ≡ base_row r
    → each 1 (λ n. row_of m i (j + n)) ≡ row_of m (base_bound k r) (base_row r)
one_row m k r {i} {j} ei ej =
    let none : j + 0 ≡ j = omega arith in
    each_1 (λ n. row_of m i (j + n)) ∙ ap (row_of m i) none ∙ (λ t. row_of m (ei t) (ej t))

-- ---- a step after a step
both_true : (x y : Bool) → x && y ≡ true → (x ≡ true) × (y ≡ true)
both_true true y e = (refl, e)
both_true false y e = absurd (true≢false (sym e))

module _ (m : Model) (k r : ℕ) where
  pub follows : follows_step k r ≡ true → (2 ≤ r) × (r ≤ k)
  follows e = let b = both_true (leb 2 r) (leb r k) e in (leb-true 2 r b.0, leb-true r k b.1)

  -- the words at the first block are those of the one step of the list for 1
  pub step_base : (r ≡ 0 → ⊥) → r ≤ k → row_of m (base_bound k r) (base_row r) ≡ row_of m 1 1
  step_base z h = λ i. row_of m (cond (le-leb r k h i) 1 0) (cond (ne_eqb r 0 z i) 0 1)

  -- what is held for row r, as what comes before the next row
  pub held_before : {l : List ℤ} {n : ℕ} → Holds (row_of m (base_bound k r) (base_row r)) l n
      → Holds (row_of m (base_bound k (r + 1 - 1)) (base_row (r + 1 - 1))) l n
  held_before {l} {n} h =
      let back : r ≡ r + 1 - 1 = omega arith in
      subst (λ (i : ℕ). Holds (row_of m (base_bound k i) (base_row i)) l n) back h

-- ---- steps whose numbers all have as many digits
module _ (m : Model) (ok : T (well_formed m)) (k r : ℕ) where
  blocks_rise : (a b : ℕ) → a ≤ b → block_at one_hot_width m a ≤ block_at one_hot_width m b
  blocks_rise a b h = omega (arith, block_is m a, block_is m b, mul-le-mul_right (state_size m + choices m) h)

  step_raised : (s : ℕ) → (s ≡ 0 → ⊥) → s ≤ k → row_of m k s ≡ raised (block_at one_hot_width m (s - 1)) (row_of m 1 1)
  step_raised s z h = row_raised m k s (omega arith) ∙ ap (raised (block_at one_hot_width m (s - 1))) (step_base m k s z h)

  pub repeats_long : repeats_row m k r ≡ true → length (lines_of (row_of m k r)) ≡ length (lines_of (row_of m k (r - 1)))
  unfolding repeats_row
  repeats_long e =
      let b = both_true (follows_step k r) _ e in
      let f = follows m k r b.0 in
      let two : 2 ≤ r = f.0 in
      let most : r ≤ k = f.1 in
      let before = block_at one_hot_width m (r - 1 - 1) in
      let here = block_at one_hot_width m (r - 1) in
      let n = variables m 1 in
      let same : digit_count (before + 1) ≡ digit_count (here + n) = eqb-true _ _ b.1 in
      let inside = subst (λ (cs : List Clause). All (λ w. nat_abs w ≤ n) (words_of cs)) (step_base m k r (λ q. omega arith) most) (base_row_inside m k r ok) in
      ap (λ (cs : List Clause). length (lines_of cs)) (step_raised r (λ q. omega arith) most)
      ∙ sym (lines_same before here n (blocks_rise (r - 1 - 1) (r - 1) (omega arith)) same (row_of m 1 1) inside)
      ∙ ap (λ (cs : List Clause). length (lines_of cs)) (sym (step_raised (r - 1) (λ q. omega arith) (omega arith)))

-- ---- whether a row repeats the one before
module _ (m : Model) (k r : ℕ) where
  pub repeats_follows : repeats_row m k r ≡ true → (2 ≤ r) × (r ≤ k)
  unfolding repeats_row
  repeats_follows e = follows m k r (both_true (follows_step k r) _ e).0

  pub not_repeats : follows_step k r ≡ false → repeats_row m k r ≡ false
  unfolding repeats_row
  not_repeats e = rw e refl

  -- by what the code knows: where the two rows begin, how many variables they name, and how many digits the least and the greatest number have
  pub if_repeats : {a b n x y : ℕ} → follows_step k r ≡ true → a ≡ block_at one_hot_width m (r - 1 - 1) → b ≡ block_at one_hot_width m (r - 1)
      → n ≡ variables m 1
      → x ≡ digit_count (a + 1) → y ≡ digit_count (b + n) → eqb x y ≡ repeats_row m k r
  unfolding repeats_row
  if_repeats {a} {b} {n} {x} {y} e ea eb en ex ey =
      (λ i. eqb ((ex ∙ ap (λ (u : ℕ). digit_count (u + 1)) ea) i) ((ey ∙ (λ j. digit_count (eb j + en j))) i)) ∙ sym (rw e refl)
