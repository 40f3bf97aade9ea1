-- The value of an inv or when line: atoms, the tests of such a line, and the slots that an accepted one fills.
use Rattle.std.specs.Prelude.{ℕ, ◌-◌, List, ◌++◌, map, Bool, true, false, cond, not, length, get_or, drop, replicate, ltb, leb, eqb}
use Rattle.text.specs.bytes.Bytes.{number_of, leading, following, items_of}
use Rattle.text.specs.bytes.Faulty.{any_of, Checked}
use Rattle.text.specs.declared.bytes.LineFault.{LineFault}
use Rattle.std.specs.Prelude.{Option, Some, None, is_some, Result}
use Rattle.text.specs.declared.bytes.Faults.{Faults}
use Rattle.model.specs.declared.Relation.{Relation}
use Rattle.model.specs.declared.Relation.TheVariants.{Less, LessEqual, Equal, GreaterEqual, Greater, NotEqual}
use Rattle.model.specs.declared.Atom.{Atom}
use Rattle.model.specs.declared.Atom.TheVariants.{Blank, OnClock, OnCounter}
use Rattle.model.specs.Record.{blank_atom}
use Rattle.text.specs.declared.atoms.RelationRead.{RelationRead}
use Rattle.text.specs.declared.atoms.AtomRead.{AtomRead}
use Rattle.text.specs.declared.atoms.AtomRead.TheVariants.{ClockAtom, CounterAtom}

-- ---- one item: x or v, a number, a relation, a number
-- the relation that the bytes a and b begin with: < (60), <=, > (62), >=, = (61), != (33 61)
-- and how many of them it takes
abbrev pub sign : Relation → ℕ → Option RelationRead
sign r bytes = Some (record { relation = r; width = bytes })

unfoldable pub relation_at : ℕ → ℕ → Option RelationRead
relation_at a b =
    cond (eqb a 60) (cond (eqb b 61) (sign LessEqual 2) (sign Less 1))
    (cond (eqb a 62) (cond (eqb b 61) (sign GreaterEqual 2) (sign Greater 1))
    (cond (eqb a 61) (sign Equal 1)
    (cond (eqb a 33) (cond (eqb b 61) (sign NotEqual 2) None) None)))

-- the relation that the bytes begin with
abbrev pub relation_of : List ℕ → Option RelationRead
relation_of l = relation_at (get_or l 0 0) (get_or l 1 0)

-- how many bytes a relation has
abbrev pub width : Option RelationRead → ℕ
width None = 0
width (Some r) = r.width

-- != on a clock is not of the form
abbrev pub clock_atom : ℕ → Relation → ℕ → Option AtomRead
clock_atom x Less c = Some (ClockAtom x Less c)
clock_atom x LessEqual c = Some (ClockAtom x LessEqual c)
clock_atom x Equal c = Some (ClockAtom x Equal c)
clock_atom x GreaterEqual c = Some (ClockAtom x GreaterEqual c)
clock_atom x Greater c = Some (ClockAtom x Greater c)
clock_atom x NotEqual c = None

-- x (120) names a clock, v (118) a counter
abbrev pub named_atom : ℕ → ℕ → Relation → ℕ → Option AtomRead
named_atom name i r c = cond (eqb name 120) (clock_atom i r c) (cond (eqb name 118) (Some (CounterAtom i r c)) None)

-- the atom, if the relation is one
abbrev pub related_atom : ℕ → ℕ → Option RelationRead → ℕ → Option AtomRead
related_atom name i None c = None
related_atom name i (Some r) c = named_atom name i r.relation c

-- the atom, if its constant is a number
abbrev pub valued_atom : ℕ → ℕ → Option RelationRead → Option ℕ → Option AtomRead
valued_atom name i r None = None
valued_atom name i r (Some c) = related_atom name i r c

-- the atom, if the clock or counter has a number
abbrev pub made_atom : ℕ → Option ℕ → Option RelationRead → Option ℕ → Option AtomRead
made_atom name None r c = None
made_atom name (Some i) r c = valued_atom name i r c

-- what follows the name and its number
abbrev pub after_name : List ℕ → List ℕ
after_name l = following (drop 1 l)

-- x or v, its number, a relation, a number
unfoldable pub atom_of : List ℕ → Option AtomRead
atom_of l = made_atom (get_or l 0 0) (leading (drop 1 l)) (relation_of (after_name l)) (number_of (drop (width (relation_of (after_name l))) (after_name l)))

-- a counter in inv is not of the form
abbrev pub on_clocks : Option AtomRead → Option AtomRead
on_clocks None = None
on_clocks (Some (ClockAtom x r c)) = Some (ClockAtom x r c)
on_clocks (Some (CounterAtom v r c)) = None

-- an item of a line that may name counters, as when does, or may not, as inv
abbrev pub item_of : Bool → List ℕ → Option AtomRead
item_of counters l = cond counters (atom_of l) (on_clocks (atom_of l))

-- ---- the tests of the line, each over all items
-- 3: an item is not of its form
abbrev pub is_malformed : Option AtomRead → Bool
is_malformed a = not (is_some a)

-- a clock is compared with 0 to 30, a counter with 0 to 31
abbrev pub is_outside : Option AtomRead → Bool
is_outside None = false
is_outside (Some (ClockAtom x r c)) = ltb 30 c
is_outside (Some (CounterAtom v r c)) = ltb 31 c

-- 5: a clock or counter is not declared
abbrev pub is_undeclared : ℕ → ℕ → Option AtomRead → Bool
is_undeclared clocks vars None = false
is_undeclared clocks vars (Some (ClockAtom x r c)) = leb clocks x
is_undeclared clocks vars (Some (CounterAtom v r c)) = leb vars v

-- 3, 4, 5, and 7: more than four items
unfoldable pub atom_faults : ℕ → ℕ → List (Option AtomRead) → Faults
atom_faults clocks vars items = record {
  malformed = any_of is_malformed items;
  crowded = ltb 4 (length items);
  outside = any_of is_outside items;
  undeclared = any_of (is_undeclared clocks vars) items;
  unordered = false;
}

-- ---- the slots: filled from the first, the others blank
-- the atom that an item stands for
abbrev pub atom_in : Option AtomRead → Atom
atom_in None = Blank
atom_in (Some (ClockAtom x r c)) = OnClock x r c
atom_in (Some (CounterAtom v r c)) = OnCounter v r c

-- its slot
abbrev pub slot_of : Option AtomRead → Atom
slot_of a = atom_in a

-- the slots of all items, and blank ones up to four
unfoldable pub atom_slots : List (Option AtomRead) → List Atom
atom_slots items = map slot_of items ++ replicate (4 - length items) blank_atom

-- the answer to a value: its slots where it has no faults
abbrev pub AtomsOf : ℕ → ℕ → List (Option AtomRead) → Result (List Atom) LineFault → Type 0
AtomsOf clocks vars items = Checked (atom_faults clocks vars items) (atom_slots items)

-- ---- the items of an inv and of a when value
-- inv: atoms on clocks alone
unfoldable pub inv_items : List ℕ → List (Option AtomRead)
inv_items v = map (item_of false) (items_of v)

-- when: atoms on clocks and counters
unfoldable pub when_items : List ℕ → List (Option AtomRead)
when_items v = map (item_of true) (items_of v)
