-- The part of an atom, an update, a reset or a delay as a row, case by case, by the groups that are read of the table.
use Rattle.std.proofs.Common.{ℕ, ◌+◌, ◌≤◌, ◌<◌, ◌≡◌, List, cond, leb, ltb, [], Some, None, arith, sym, ap, subst, ◌∙◌, get_or, ℤ}
use borrow.Author.Tests.{lt-ltb, le-ltb, le-leb, lt-leb}
use Rattle.model.specs.declared.Relation.{Relation}
use Rattle.model.specs.declared.Atom.{Atom}
use Rattle.model.specs.declared.Atom.TheVariants.{Blank, OnClock, OnCounter}
use Rattle.model.specs.declared.Update.{Update}
use Rattle.model.specs.declared.Update.TheVariants.{Constant, Sum, Keep as KeepIt}
use Rattle.model.specs.declared.ClockUpdate.{ClockUpdate}
use Rattle.model.specs.declared.ClockUpdate.TheVariants.{Unchanged, Reset, Copy}
use Rattle.model.proofs.IndexedLaws.{each_zero}
use Rattle.parts.specs.declared.Group.{Group}
use Rattle.parts.specs.declared.GroupTable.{GroupTable}
use Rattle.parts.specs.declared.Part.{Part}
use Rattle.parts.specs.declared.Rule.{Rule}
use Rattle.parts.specs.declared.Rule.TheVariants.{Exclude, Keep, Rise, Shift, Set, Forbid}
use Rattle.parts.specs.Numbering.{most_variables}
use Rattle.parts.specs.Rules.{part_clauses, row_clauses, reach, Fits}
use Rattle.parts.specs.StateBlock.{empty_group, first_at, size_at}
use Rattle.parts.specs.PartsOf.{next_at, exclude_part, atom_part, leads_part, set_part, greatest_at, read_at, update_part, reset_part, delay_part}
use Rattle.parts.proofs.PartPieces.{part_is}
use Rattle.emission.specs.declared.state.Comparison.{Comparison}
use Rattle.emission.specs.Compared.{comparison}

-- a part that fits, under another name
pub fits_as : {p q : Part} {n : ℕ} → p ≡ q → Fits p n → Fits q n
fits_as e f = rw e at f

-- a rule reaches no further for the values up to v than for all
pub reach_le : (rule : Rule) (v n : ℕ) → v < n → reach (v + 1) rule ≤ reach n rule
reach_le (Exclude relation constant) v n h = omega arith
reach_le Keep v n h = omega arith
reach_le (Rise d top) v n h = omega arith
reach_le (Shift offset greatest) v n h = omega arith
reach_le (Set u) v n h = omega arith
reach_le Forbid v n h = omega arith

-- The part is a row of n values: its groups begin at y and z, and its variables are few enough.
pub record Row (x : ℕ) (p : Part) (y z n : ℕ) (rule : Rule) : Type 0 where
  pub is : part_clauses x p ≡ row_clauses x y z n rule
  pub size_le : n ≤ 32
  pub before_in : y + n ≤ most_variables
  pub after_in : z + reach n rule ≤ most_variables

module _ (x : ℕ) {p : Part} (f : Fits p most_variables) where
  row : (y z n w : ℕ) (rule : Rule) → p ≡ record { rule = rule; before = y; size = n; after = z; into = w } → Row x p y z n rule
  row y z n w rule e =
      let g = fits_as e f in
      record { is = ap (part_clauses x) e ∙ part_is x y z n w rule; size_le = g.size_le; before_in = g.before_in; after_in = g.after_in }

-- ---- the groups that the table has there
-- What the table has at g is this group.
abbrev At : GroupTable → ℕ → Group → Type 0
At b g group = group ≡ get_or b.blocks g empty_group

module _ (b : GroupTable) where
  exclude_by : (g o : ℕ) (relation : Relation) (constant : ℕ) {group : Group} → At b g group
      → exclude_part b o g relation constant
      ≡ record { rule = Exclude relation constant; before = o + group.first; size = group.size; after = 0; into = 0 }
  exclude_by g o relation constant e =
      ap (λ (x : Group). record { rule = Exclude relation constant; before = o + x.first; size = x.size; after = 0; into = 0 }) (sym e)

  set_by : (g o : ℕ) (rule : Rule) {group : Group} → At b g group
      → set_part (next_at b o + first_at b g) (size_at b g) rule ≡ set_part (next_at b o + group.first) group.size rule
  set_by g o rule e = ap (λ (x : Group). set_part (next_at b o + x.first) x.size rule) (sym e)

  leads_by : (g h from o : ℕ) (rule : Rule) {group after : Group} → At b g group → At b h after
      → leads_part b from o g h rule
      ≡ record { rule = rule; before = from + group.first; size = group.size; after = next_at b o + after.first; into = after.size }
  leads_by g h from o rule e f =
      λ k. record { rule = rule; before = from + (sym e k).first; size = (sym e k).size; after = next_at b o + (sym f k).first; into = (sym f k).size }

  module _ (x o : ℕ) where
    -- ---- atoms
    -- a blank slot asks nothing
    pub atom_none : (atom : Atom) → None ≡ comparison b.vars atom → part_clauses x (atom_part b o atom) ≡ []
    atom_none Blank e = part_is x 0 0 0 0 Forbid ∙ each_zero _
    atom_none (OnClock v relation constant) e = cc
    atom_none (OnCounter v relation constant) e = cc

    compared : (g : ℕ) (relation : Relation) (constant : ℕ) (r : Comparison) → r ≡ record { group = g; relation = relation; constant = constant }
        → {group : Group} → At b r.group group → Fits (exclude_part b o g relation constant) most_variables
        → Row x (exclude_part b o g relation constant) (o + group.first) 0 group.size (Exclude r.relation r.constant)
    compared g relation constant r e {group} =
        subst (λ (s : Comparison). At b s.group group → Fits (exclude_part b o g relation constant) most_variables
        → Row x (exclude_part b o g relation constant) (o + group.first) 0 group.size (Exclude s.relation s.constant)) (sym e)
        (λ a f. row x f _ _ _ _ _ (exclude_by g o relation constant a))

    -- any other asks of each value of its group that it meets the comparison
    pub atom_row : (atom : Atom) (r : Comparison) → Some r ≡ comparison b.vars atom → {group : Group} → At b r.group group
        → Fits (atom_part b o atom) most_variables → Row x (atom_part b o atom) (o + group.first) 0 group.size (Exclude r.relation r.constant)
    atom_row Blank r e a f = cc
    atom_row (OnClock v relation constant) r e a f = compared (1 + b.vars + v) relation constant r (cc) a f
    atom_row (OnCounter v relation constant) r e a f = compared (1 + v) relation constant r (cc) a f

    -- ---- updates
    module _ (order : List ℕ) (i : ℕ) {u : Update} {group : Group} (a : At b (1 + i) group) (f : Fits (update_part b o order i u) most_variables) where
      pub keep_row : u ≡ KeepIt → Row x (update_part b o order i u) (o + group.first) (next_at b o + group.first) group.size Keep
      keep_row e = row x f _ _ _ _ _ (ap (update_part b o order i) e ∙ leads_by (1 + i) (1 + i) o o Keep a a)

      constant : (n : ℕ) (rule : Rule) → u ≡ Constant n → cond (leb n (greatest_at b i)) (Set n) Forbid ≡ rule
          → Row x (update_part b o order i u) 0 (next_at b o + group.first) 1 rule
      constant n rule e q =
          row x f _ _ _ _ _ (ap (update_part b o order i) e ∙ ap (set_part (next_at b o + first_at b (1 + i)) (size_at b (1 + i))) q ∙ set_by (1 + i) o rule a)

      pub set_row : (n : ℕ) → u ≡ Constant n → n ≤ greatest_at b i → Row x (update_part b o order i u) 0 (next_at b o + group.first) 1 (Set n)
      set_row n e h = constant n (Set n) e (rw (le-leb n (greatest_at b i) h))

      pub forbid_row : (n : ℕ) → u ≡ Constant n → greatest_at b i < n → Row x (update_part b o order i u) 0 (next_at b o + group.first) 1 Forbid
      forbid_row n e h = constant n Forbid e (rw (lt-leb n (greatest_at b i) h))

      pub sum_row : (w : ℕ) (z : ℤ) {y : ℤ} {from : ℕ} {source : Group} → y ≡ z → u ≡ Sum w z → from ≡ read_at b o order w i → At b (1 + w) source
          → Row x (update_part b o order i u) (from + source.first) (next_at b o + group.first) source.size (Shift y (greatest_at b i))
      sum_row w z {y} {from} q e r s =
          row x f _ _ _ _ _ (ap (update_part b o order i) (e ∙ ap (Sum w) (sym q))
          ∙ ap (λ (t : ℕ). leads_part b t o (1 + w) (1 + i) (Shift y (greatest_at b i))) (sym r)
          ∙ leads_by (1 + w) (1 + i) from o (Shift y (greatest_at b i)) s a)

    -- ---- clocks
    module _ (i : ℕ) {u : ClockUpdate} {group : Group} (a : At b (1 + b.vars + i) group) (f : Fits (reset_part b o i u) most_variables) where
      pub unchanged_row : u ≡ Unchanged → Row x (reset_part b o i u) (o + group.first) (next_at b o + group.first) group.size Keep
      unchanged_row e = row x f _ _ _ _ _ (ap (reset_part b o i) e ∙ leads_by (1 + b.vars + i) (1 + b.vars + i) o o Keep a a)

      pub reset_row : u ≡ Reset → Row x (reset_part b o i u) 0 (next_at b o + group.first) 1 (Set 0)
      reset_row e = row x f _ _ _ _ _ (ap (reset_part b o i) e ∙ set_by (1 + b.vars + i) o (Set 0) a)

      pub copy_row : (w : ℕ) {source : Group} → u ≡ Copy w → At b (1 + b.vars + w) source
          → Row x (reset_part b o i u) (o + source.first) (next_at b o + group.first) source.size Keep
      copy_row w e s = row x f _ _ _ _ _ (ap (reset_part b o i) e ∙ leads_by (1 + b.vars + w) (1 + b.vars + i) o o Keep s a)

    -- ---- delays
    module _ (d g : ℕ) {group : Group} (a : At b g group) (f : Fits (delay_part b o d g) most_variables) where
      delay : (rule : Rule) → cond (ltb g (1 + b.vars)) Keep (Rise d b.top) ≡ rule
          → Row x (delay_part b o d g) (o + group.first) (next_at b o + group.first) group.size rule
      delay rule q = row x f _ _ _ _ _ (ap (leads_part b o o g g) q ∙ leads_by g g o o rule a a)

      pub stays_row : g < 1 + b.vars → Row x (delay_part b o d g) (o + group.first) (next_at b o + group.first) group.size Keep
      stays_row h = delay Keep (rw (lt-ltb g (1 + b.vars) h))

      pub rises_row : 1 + b.vars ≤ g → Row x (delay_part b o d g) (o + group.first) (next_at b o + group.first) group.size (Rise d b.top)
      rises_row h = delay (Rise d b.top) (rw (le-ltb g (1 + b.vars) h))
