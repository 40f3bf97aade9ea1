-- The parts of the list that atoms, delays and edges ask for, at the state block that begins at o and the one after it.
use Rattle.std.specs.Prelude.{cond, List, ℕ, ◌+◌, ◌-◌, ◌<◌, eqb, ltb, leb, get_or}
use Rattle.model.specs.declared.Relation.{Relation}
use Rattle.model.specs.declared.Atom.{Atom}
use Rattle.model.specs.declared.Atom.TheVariants.{Blank, OnClock, OnCounter}
use Rattle.model.specs.declared.Update.{Update}
use Rattle.model.specs.declared.Update.TheVariants.{Constant, Sum, Keep as KeepIt}
use Rattle.model.specs.declared.ClockUpdate.{ClockUpdate}
use Rattle.model.specs.declared.ClockUpdate.TheVariants.{Unchanged, Reset, Copy}
use Rattle.model.specs.declared.Edge.{Edge}
use Rattle.model.specs.Record.{blank_counter, atom_at, update_at, reset_at}
use Rattle.model.specs.Automaton.{set_earlier}
use Rattle.parts.specs.declared.Rule.{Rule}
use Rattle.parts.specs.declared.Rule.TheVariants.{Exclude, Keep, Rise, Shift, Set, Forbid}
use Rattle.parts.specs.declared.Part.{Part}
use Rattle.parts.specs.declared.GroupTable.{GroupTable}
use Rattle.parts.specs.StateBlock.{first_at, size_at}

-- Where the state block after the one at o begins.
abbrev pub next_at : GroupTable → ℕ → ℕ
next_at b o = o + b.state + b.choices

-- Group g at o under a comparison: values that fail it are ruled out.
abbrev pub exclude_part : GroupTable → ℕ → ℕ → Relation → ℕ → Part
exclude_part b o g relation constant = record { rule = Exclude relation constant; before = o + first_at b g; size = size_at b g; after = 0; into = 0 }

-- An atom; a blank slot asks nothing.
abbrev pub atom_part : GroupTable → ℕ → Atom → Part
atom_part b o Blank = record { rule = Forbid; before = 0; size = 0; after = 0; into = 0 }
atom_part b o (OnClock x relation constant) = exclude_part b o (1 + b.vars + x) relation constant
atom_part b o (OnCounter x relation constant) = exclude_part b o (1 + x) relation constant

-- Group g of the state block at `from` leads to group h of the state after the one at o.
abbrev pub leads_part : GroupTable → ℕ → ℕ → ℕ → ℕ → Rule → Part
leads_part b from o g h rule = record { rule = rule; before = from + first_at b g; size = size_at b g; after = next_at b o + first_at b h; into = size_at b h }

-- Delay d on group g: a clock rises to M at most, all else stays.
abbrev pub delay_part : GroupTable → ℕ → ℕ → ℕ → Part
delay_part b o d g = leads_part b o o g g (cond (ltb g (1 + b.vars)) Keep (Rise d b.top))

-- One clause, of a group that begins at `after`.
abbrev pub set_part : ℕ → ℕ → Rule → Part
set_part after into rule = record { rule = rule; before = 0; size = 1; after = after; into = into }

-- The greatest value of counter i.
abbrev pub greatest_at : GroupTable → ℕ → ℕ
greatest_at b i = (get_or b.counters i blank_counter).greatest

-- Where the state block begins in which an update of counter i reads counter w: the one after if w is set earlier.
abbrev pub read_at : GroupTable → ℕ → List ℕ → ℕ → ℕ → ℕ
read_at b o order w i = cond (set_earlier order w i) (next_at b o) o

-- An update of counter i.
abbrev pub update_part : GroupTable → ℕ → List ℕ → ℕ → Update → Part
update_part b o order i KeepIt = leads_part b o o (1 + i) (1 + i) Keep
update_part b o order i (Constant n) = set_part (next_at b o + first_at b (1 + i)) (size_at b (1 + i)) (cond (leb n (greatest_at b i)) (Set n) Forbid)
update_part b o order i (Sum w offset) = leads_part b (read_at b o order w i) o (1 + w) (1 + i) (Shift offset (greatest_at b i))

-- An update of clock i: unchanged, reset, or a copy of clock w.
abbrev pub reset_part : GroupTable → ℕ → ℕ → ClockUpdate → Part
reset_part b o i Unchanged = leads_part b o o (1 + b.vars + i) (1 + b.vars + i) Keep
reset_part b o i Reset = set_part (next_at b o + first_at b (1 + b.vars + i)) (size_at b (1 + b.vars + i)) (Set 0)
reset_part b o i (Copy w) = leads_part b o o (1 + b.vars + w) (1 + b.vars + i) Keep

-- Part j of an edge: its source, its target, four guard atoms, each counter, each clock.
unfoldable pub edge_part : GroupTable → Edge → ℕ → ℕ → Part
edge_part b e o j =
    cond (eqb j 0) (set_part o (size_at b 0) (Set e.source)) (
    cond (eqb j 1) (set_part (next_at b o) (size_at b 0) (Set e.target)) (
    cond (ltb j 6) (atom_part b o (atom_at e.guard (j - 2))) (
    cond (ltb (j - 6) b.vars) (update_part b o e.order (j - 6) (update_at e (j - 6))) (
    reset_part b o (j - 6 - b.vars) (reset_at e (j - 6 - b.vars))))))

-- The table has the group that an atom names.
abbrev pub AtomIn : GroupTable → Atom → Type 0
AtomIn b Blank = Unit {0}
AtomIn b (OnClock x relation constant) = 1 + b.vars + x < 9
AtomIn b (OnCounter x relation constant) = 1 + x < 9

-- The table has the group that an update reads.
abbrev pub UpdateIn : Update → Type 0
UpdateIn KeepIt = Unit {0}
UpdateIn (Constant n) = Unit {0}
UpdateIn (Sum w offset) = 1 + w < 9

-- The table has the group that an update of a clock reads.
abbrev pub ResetIn : GroupTable → ClockUpdate → Type 0
ResetIn b Unchanged = Unit {0}
ResetIn b Reset = Unit {0}
ResetIn b (Copy w) = 1 + b.vars + w < 9
