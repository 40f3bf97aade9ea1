-- The parts of atoms and edges have the same rules and sizes wherever the state block begins, so they are counted at 0; and how many they have at most.
use mathlib.Core.Path.{◌≡◌, refl, sym, ap, ◌∙◌}
use mathlib.Core.Bool.{Bool, true, false, cond}
use mathlib.Core.List.{List}
use Prim.Native.Nat.{ℕ, ◌+◌, ◌-◌, ◌≤◌}
use lib.Dec.{eqb, ltb}
use Rattle.model.specs.declared.Relation.{Relation}
use Rattle.model.specs.declared.Atom.{Atom}
use Rattle.model.specs.declared.Atom.TheVariants.{Blank, OnClock, OnCounter}
use Rattle.model.specs.declared.Update.{Update}
use Rattle.model.specs.declared.Update.TheVariants.{Constant, Sum, Keep as KeepIt}
use Rattle.model.specs.declared.ClockUpdate.{ClockUpdate}
use Rattle.model.specs.declared.ClockUpdate.TheVariants.{Unchanged, Reset, Copy}
use Rattle.model.specs.declared.Edge.{Edge}
use Rattle.model.specs.Indexed.{each}
use Rattle.model.specs.Record.{atom_at, update_at, reset_at}
use native.Mathlib.Omega.{arith}
use Rattle.parts.specs.declared.Rule.TheVariants.{Set, Forbid}
use Rattle.parts.specs.declared.Part.{Part}
use Rattle.parts.specs.Rules.{part_clauses}
use Rattle.parts.specs.declared.GroupTable.{GroupTable}
use Rattle.parts.specs.StateBlock.{size_at, Bounded}
use Rattle.parts.specs.PartsOf.{next_at, exclude_part, atom_part, set_part, update_part, reset_part, edge_part}
use Rattle.parts.specs.Pieces.{atom_piece, edge_piece}
use Rattle.counts.specs.Counted.{Counted}
use Rattle.counts.specs.PartCounts.{part_count, part_words}
use Rattle.counts.proofs.CountLaws.{Most, most_few}
use Rattle.counts.proofs.PartLaws.{counted_part, most_part, rule_words_le, exclude_words_le}

-- a part without its places
abbrev kind : Part → Part
kind p = record { rule = p.rule; before = 0; size = p.size; after = 0; into = 0 }

atom_kind : (b : GroupTable) (o : ℕ) (a : Atom) → kind (atom_part b o a) ≡ kind (atom_part b 0 a)
atom_kind b o Blank = refl
atom_kind b o (OnClock x relation constant) = refl
atom_kind b o (OnCounter x relation constant) = refl

update_kind : (b : GroupTable) (o : ℕ) (order : List ℕ) (i : ℕ) (u : Update) → kind (update_part b o order i u) ≡ kind (update_part b 0 order i u)
update_kind b o order i KeepIt = refl
update_kind b o order i (Constant n) = refl
update_kind b o order i (Sum w z) = refl

reset_kind : (b : GroupTable) (o i : ℕ) (u : ClockUpdate) → kind (reset_part b o i u) ≡ kind (reset_part b 0 i u)
reset_kind b o i Unchanged = refl
reset_kind b o i Reset = refl
reset_kind b o i (Copy w) = refl

-- a part of an edge, by four tests of its number
abbrev picked : GroupTable → Edge → ℕ → Bool → Bool → Bool → Bool → ℕ → Part
picked b e j p q r s o =
    cond p (set_part o (size_at b 0) (Set e.source))
    (cond q (set_part (next_at b o) (size_at b 0) (Set e.target))
    (cond r (atom_part b o (atom_at e.guard (j - 2)))
    (cond s (update_part b o e.order (j - 6) (update_at e (j - 6))) (reset_part b o (j - 6 - b.vars) (reset_at e (j - 6 - b.vars))))))

edge_kind : (b : GroupTable) (e : Edge) (o j : ℕ) → kind (edge_part b e o j) ≡ kind (edge_part b e 0 j)
unfolding edge_part
edge_kind b e o j = by (eqb j 0) (eqb j 1) (ltb j 6) (ltb (j - 6) b.vars)
  where
    by : (p q r s : Bool) → kind (picked b e j p q r s o) ≡ kind (picked b e j p q r s 0)
    by true q r s = refl
    by false true r s = refl
    by false false true s = atom_kind b o (atom_at e.guard (j - 2))
    by false false false true = update_kind b o e.order (j - 6) (update_at e (j - 6))
    by false false false false = reset_kind b o (j - 6 - b.vars) (reset_at e (j - 6 - b.vars))

-- ---- so their clauses and words are counted at 0
module _ (b : GroupTable) (o x : ℕ) {c w : ℕ} where
  pub atom_counted : (a : Atom) → c ≡ part_count (atom_part b 0 a) → w ≡ part_words (atom_part b 0 a) → Counted (part_clauses x (atom_part b o a)) c w
  atom_counted a p q = counted_part x (atom_part b o a) (p ∙ ap part_count (sym (atom_kind b o a))) (q ∙ ap part_words (sym (atom_kind b o a)))

  pub edge_part_counted : (e : Edge) (j : ℕ) → c ≡ part_count (edge_part b e 0 j) → w ≡ part_words (edge_part b e 0 j) → Counted (edge_piece x b e o j) c w
  edge_part_counted e j p q =
      counted_part x (edge_part b e o j) (p ∙ ap part_count (sym (edge_kind b e o j))) (q ∙ ap part_words (sym (edge_kind b e o j)))

-- ---- at most 32 values each
module _ (b : GroupTable) (h : Bounded b) (o : ℕ) where
  pub atom_small : (a : Atom) → (atom_part b o a).size ≤ 32
  atom_small Blank = omega arith
  atom_small (OnClock x relation constant) = h.size_le (1 + b.vars + x)
  atom_small (OnCounter x relation constant) = h.size_le (1 + x)

  update_small : (order : List ℕ) (i : ℕ) (u : Update) → (update_part b o order i u).size ≤ 32
  update_small order i KeepIt = h.size_le (1 + i)
  update_small order i (Constant n) = omega arith
  update_small order i (Sum w z) = h.size_le (1 + w)

  reset_small : (i : ℕ) (u : ClockUpdate) → (reset_part b o i u).size ≤ 32
  reset_small i Unchanged = h.size_le (1 + b.vars + i)
  reset_small i Reset = omega arith
  reset_small i (Copy w) = h.size_le (1 + b.vars + w)

  pub edge_small : (e : Edge) (j : ℕ) → (edge_part b e o j).size ≤ 32
  unfolding edge_part
  edge_small e j = by (eqb j 0) (eqb j 1) (ltb j 6) (ltb (j - 6) b.vars)
    where
      by : (p q r s : Bool) → (picked b e j p q r s o).size ≤ 32
      by true q r s = omega arith
      by false true r s = omega arith
      by false false true s = atom_small (atom_at e.guard (j - 2))
      by false false false true = update_small e.order (j - 6) (update_at e (j - 6))
      by false false false false = reset_small (j - 6 - b.vars) (reset_at e (j - 6 - b.vars))

  -- the clauses of an atom have two literals
  exclude_most : (x g : ℕ) (relation : Relation) (constant : ℕ) → Most (part_clauses x (exclude_part b o g relation constant)) 32 96
  exclude_most x g relation constant =
      most_part x (exclude_part b o g relation constant) 3 96 (exclude_words_le relation constant) (omega (arith, h.size_le g)) (h.size_le g)

  pub atom_most : (x : ℕ) (a : Atom) → Most (part_clauses x (atom_part b o a)) 32 96
  atom_most x Blank = most_part x (atom_part b o Blank) 4 96 (rule_words_le Forbid) (omega arith) (omega arith)
  atom_most x (OnClock y relation constant) = exclude_most x (1 + b.vars + y) relation constant
  atom_most x (OnCounter y relation constant) = exclude_most x (1 + y) relation constant

  pub atoms_most : (x : ℕ) (atoms : List Atom) (n : ℕ) → n ≤ 4 → Most (each n (atom_piece b o x atoms)) 128 384
  atoms_most x atoms n l = most_few (atom_piece b o x atoms) 32 96 n 4 l (λ k p. atom_most x (atom_at atoms k))
