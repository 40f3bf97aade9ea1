-- A table that a loop fills from its start, and what is read from it.
use mathlib.Core.Path.{◌≡◌, ap, ◌∙◌}
use mathlib.Core.List.{List}
use Prim.Native.Nat.{ℕ, ◌≤◌, ◌<◌}
use native.Mathlib.Omega.{arith}
use lib.ListN.{length, get_or}
use borrow.Author.Tests.{lt-ltb, le-ltb}
use Rattle.model.specs.Indexed.{list_below}
use Rattle.model.proofs.IndexedLaws.{length_list, get_d_list}
use Rattle.list.specs.Items.{Item}
use Rattle.list.specs.Clauses.{clauses_of}
use Rattle.counts.specs.Tables.{slot_of, Table}

-- ---- a slot
slot_before : (piece : ℕ → List Item) (n i : ℕ) → i < n → slot_of piece n i ≡ length (clauses_of (piece i))
slot_before piece n i l = rw (lt-ltb i n l)

slot_from : (piece : ℕ → List Item) (n i : ℕ) → n ≤ i → slot_of piece n i ≡ 0
slot_from piece n i l = rw (le-ltb i n l)

module _ {piece : ℕ → ℕ → List Item} {n slots most : ℕ} {table : List ℕ} (t : Table piece n slots most table) where
  pub slots_are : length table ≡ slots
  slots_are = ap length (t.table_is 0) ∙ length_list (slot_of (piece 0) n) slots

  slot_is : (o i : ℕ) → i < slots → get_or table i 0 ≡ slot_of (piece o) n i
  slot_is o i l = ap (λ (x : List ℕ). get_or x i 0) (t.table_is o) ∙ get_d_list 0 (slot_of (piece o) n) slots i l

  pub clauses_are : n ≤ slots → (i : ℕ) → i < n → (o : ℕ) → get_or table i 0 ≡ length (clauses_of (piece o i))
  clauses_are h i l o = slot_is o i (omega (arith, h, l)) ∙ slot_before (piece o) n i l

-- ---- a table that is made slot by slot
pub table_made : {piece : ℕ → ℕ → List Item} {n slots most : ℕ} {table : List ℕ} → n ≤ slots → ((o : ℕ) → table ≡ list_below (slot_of (piece o) n) slots)
    → ((i : ℕ) → i < n → length (clauses_of (piece 0 i)) ≤ most) → Table piece n slots most table
table_made {piece} {n} {slots} {most} {table} h t few = record {
  table_is = t;
  few = λ i l. omega (
    arith,
    few i l,
    ap (λ (x : List ℕ). get_or x i 0) (t 0) ∙ get_d_list 0 (slot_of (piece 0) n) slots i (omega (arith, h, l)) ∙ slot_before (piece 0) n i l,
  );
}
