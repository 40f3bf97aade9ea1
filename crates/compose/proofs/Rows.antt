-- Rows of the same length, one after the other, and the place of an element in them.
use Rattle.std.specs.Prelude.{ℕ, zero, suc, ◌+◌, ◌*◌, ◌/◌, ◌%◌, ◌≤◌, ◌<◌, ◌++◌, length, get_or, ◌≡◌}
use Rattle.std.proofs.Common.{arith, sym, ap, ◌∙◌, length-append}
use native.Mathlib.Nat.{not-suc-le-zero, mul-le-mul}
use lib.ListN.{get_or-append, get_or-eq_default}
use lib.Seq.{get_or-append-add}
use Rattle.std.proofs.Math.Nat.{div-lt_iff_lt-mul}
use Rattle.model.specs.Indexed.{each, list_below}
use Rattle.model.proofs.IndexedLaws.{below_cases, length_list, get_d_list}

-- the number of a pair is below the product
pub pair_lt : (n m i j : ℕ) → i < n → j < m → i * m + j < n * m
pair_lt n m i j p q = let same : m ≤ m = omega arith in omega (arith, q, mul-le-mul p same)

module _ {A : Type 0} (g : ℕ → ℕ → A) (m : ℕ) where
  pub length_rows : (n : ℕ) → length (each n (λ i. list_below (g i) m)) ≡ n * m
  unfolding each
  length_rows zero = omega arith
  length_rows (suc n) = length-append (each n (λ i. list_below (g i) m)) (list_below (g n) m) ∙ omega (arith, length_rows n, length_list (g n) m)

  -- element j of row i
  pub each_at : (d : A) (n i j : ℕ) → i < n → j < m → get_or (each n (λ i. list_below (g i) m)) (i * m + j) d ≡ g i j
  unfolding each
  each_at d zero i j p q = absurd (not-suc-le-zero p)
  each_at d (suc n) i j p q =
      let rows = each n (λ i. list_below (g i) m) in
      below_cases i n p
      (λ e. let here : i * m + j ≡ length rows + j = ap (λ (k : ℕ). k * m + j) e ∙ omega (arith, length_rows n) in
      ap (λ (k : ℕ). get_or (rows ++ list_below (g n) m) k d) here ∙ get_or-append-add rows (list_below (g n) m) j d ∙ get_d_list d (g n) m j q
      ∙ ap (λ (k : ℕ). g k j) (sym e))
      (λ l. get_or-append rows (list_below (g n) m) d (i * m + j) (omega (arith, length_rows n, pair_lt n m i j l q)) ∙ each_at d n i j l q)

-- the row and the column of a place
pub row_lt : (n m k : ℕ) → k < n * m → k / m < n
row_lt n zero k l = absurd (omega (arith, l))
row_lt n (suc m) k l = (div-lt_iff_lt-mul {k = suc m} {x = k} {y = n} (omega arith)).1 l

pub column_lt : (n m k : ℕ) → k < n * m → k % m < m
column_lt n zero k l = absurd (omega (arith, l))
column_lt n (suc m) k l = omega arith

pub place_of : (n m k : ℕ) → k < n * m → k / m * m + k % m ≡ k
place_of n zero k l = absurd (omega (arith, l))
place_of n (suc m) k l = omega arith

pub row_at : {A : Type 0} (g : ℕ → ℕ → A) (d : A) (n m k : ℕ) → k < n * m → get_or (each n (λ i. list_below (g i) m)) k d ≡ g (k / m) (k % m)
row_at g d n m k l =
    ap (λ (i : ℕ). get_or (each n (λ i. list_below (g i) m)) i d) (sym (place_of n m k l))
    ∙ each_at g m d n (k / m) (k % m) (row_lt n m k l) (column_lt n m k l)

pub row_none : {A : Type 0} (g : ℕ → ℕ → A) (d : A) (n m k : ℕ) → n * m ≤ k → get_or (each n (λ i. list_below (g i) m)) k d ≡ d
row_none g d n m k l = get_or-eq_default (each n (λ i. list_below (g i) m)) d (omega (arith, l, length_rows g m n))
