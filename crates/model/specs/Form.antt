-- Well-formed records and states: within all limits, naming only what is declared, atom slots filled from the first, unused slots blank (number 0, label 0, no atom, keep, no reset and no copy), the order names each counter that is set once.
use Rattle.std.specs.Prelude.{ℕ, ◌+◌, List, Bool, true, false, not, ◌&&◌, cond, ltb, leb, eqb, nat_abs, get_or}
use Rattle.model.specs.declared.Relation.{Relation}
use Rattle.model.specs.declared.Relation.TheVariants.{Less, LessEqual, Equal, GreaterEqual, Greater, NotEqual}
use Rattle.model.specs.declared.Atom.{Atom}
use Rattle.model.specs.declared.Atom.TheVariants.{Blank, OnClock, OnCounter}
use Rattle.model.specs.declared.Update.{Update}
use Rattle.model.specs.declared.Update.TheVariants.{Keep, Constant, Sum}
use Rattle.model.specs.declared.ClockUpdate.{ClockUpdate}
use Rattle.model.specs.declared.ClockUpdate.TheVariants.{Unchanged, Reset, Copy}
use Rattle.model.specs.declared.Counter.{Counter}
use Rattle.model.specs.declared.Edge.{Edge}
use Rattle.model.specs.declared.Model.{Model}
use Rattle.model.specs.declared.State.{State}
use Rattle.model.specs.Indexed.{all_below}
use Rattle.model.specs.Record.{blank_update, blank_reset, blank_counter, atom_at, update_at, counter_in, invariant_at, edge_at}
use Rattle.model.specs.Automaton.{ceiling, value, counter, clock, is_keep, listed, place_in}

-- ---- atoms
-- the comparison is !=
abbrev pub is_not_equal : Relation → Bool
is_not_equal Less = false
is_not_equal LessEqual = false
is_not_equal Equal = false
is_not_equal GreaterEqual = false
is_not_equal Greater = false
is_not_equal NotEqual = true

-- an atom compares a clock with 0 to 30 by < <= = >= >, or a counter with 0 to 31 by those or !=
abbrev pub atom_formed : ℕ → ℕ → Atom → Bool
atom_formed clocks vars Blank = true
atom_formed clocks vars (OnClock x r c) = ltb x clocks && leb c 30 && not (is_not_equal r)
atom_formed clocks vars (OnCounter v r c) = ltb v vars && leb c 31

-- the slot holds no atom
abbrev pub is_blank : Atom → Bool
is_blank Blank = true
is_blank (OnClock x r c) = false
is_blank (OnCounter v r c) = false

-- no atom stands after a blank slot
abbrev pub no_gap : Atom → Atom → Bool
no_gap before after = cond (is_blank before) (is_blank after) true

-- every slot holds a formed atom or none
unfoldable pub each_formed : ℕ → ℕ → List Atom → Bool
each_formed clocks vars atoms = all_below (λ k. atom_formed clocks vars (atom_at atoms k)) 4

-- slots are filled from the first
unfoldable pub filled_from_first : List Atom → Bool
filled_from_first atoms = all_below (λ k. no_gap (atom_at atoms k) (atom_at atoms (k + 1))) 3

-- the atoms of an invariant or a guard, where so many clocks and counters are declared
unfoldable pub atoms_formed : ℕ → ℕ → List Atom → Bool
atoms_formed clocks vars atoms = each_formed clocks vars atoms && filled_from_first atoms

-- ---- counters
-- greatest value 0 to 31, initial value up to it
abbrev pub counter_formed : Counter → Bool
counter_formed c = leb c.greatest 31 && leb c.initial c.greatest

-- the slot is blank: numbers 0
abbrev pub is_blank_counter : Counter → Bool
is_blank_counter c = eqb c.greatest 0 && eqb c.initial 0

-- a declared counter is formed; an unused slot is blank
abbrev pub counter_slot_formed : ℕ → Counter → ℕ → Bool
counter_slot_formed vars c i = cond (ltb i vars) (counter_formed c) (is_blank_counter c)

-- every counter slot
unfoldable pub counters_formed : ℕ → List Counter → Bool
counters_formed vars counters = all_below (λ i. counter_slot_formed vars (get_or counters i blank_counter) i) 4

-- ---- invariants
-- an invariant holds clock atoms alone, so it is formed where no counter is declared; an unused slot holds no atom, so it is formed where no clock is declared either
abbrev pub invariant_slot_formed : Model → ℕ → Bool
invariant_slot_formed m l = cond (ltb l m.locations) (atoms_formed m.clocks 0 (invariant_at m l)) (atoms_formed 0 0 (invariant_at m l))

-- every invariant slot
unfoldable pub invariants_formed : Model → Bool
invariants_formed m = all_below (invariant_slot_formed m) 16

-- ---- edges
-- keep, a constant 0 to 31, or a declared counter plus an offset -31 to 31
abbrev pub update_formed : ℕ → Update → Bool
update_formed vars Keep = true
update_formed vars (Constant c) = leb c 31
update_formed vars (Sum w offset) = ltb w vars && leb (nat_abs offset) 31

-- unchanged, a reset, or a copy of a declared clock
abbrev pub clock_update_formed : ℕ → ClockUpdate → Bool
clock_update_formed clocks Unchanged = true
clock_update_formed clocks Reset = true
clock_update_formed clocks (Copy w) = ltb w clocks

-- the slot is blank: neither reset nor copy
abbrev pub is_unchanged : ClockUpdate → Bool
is_unchanged Unchanged = true
is_unchanged Reset = false
is_unchanged (Copy w) = false

-- only a declared counter is set
abbrev pub update_slot_formed : ℕ → Update → ℕ → Bool
update_slot_formed vars u i = cond (ltb i vars) (update_formed vars u) (is_keep u)

-- every update slot of an edge
unfoldable pub updates_formed : ℕ → List Update → Bool
updates_formed vars slots = all_below (λ i. update_slot_formed vars (get_or slots i blank_update) i) 4

-- slot k of the order: as many slots as there are counters not kept name one of these each, which no slot before names; the others are blank
abbrev pub order_slot_formed : Edge → ℕ → Bool
order_slot_formed e k =
    cond (ltb k (listed e))
    (ltb (counter_in e.order k) 4 && not (is_keep (update_at e (counter_in e.order k))) && eqb (place_in e.order (counter_in e.order k)) k)
    (eqb (counter_in e.order k) 0)

-- the order names each counter not kept exactly once and is blank beyond
unfoldable pub order_formed : Edge → Bool
order_formed e = all_below (order_slot_formed e) 4

-- only a declared clock is reset or becomes a copy
abbrev pub reset_slot_formed : ℕ → ClockUpdate → ℕ → Bool
reset_slot_formed clocks u i = cond (ltb i clocks) (clock_update_formed clocks u) (is_unchanged u)

-- every clock slot of an edge
unfoldable pub resets_formed : ℕ → List ClockUpdate → Bool
resets_formed clocks slots = all_below (λ i. reset_slot_formed clocks (get_or slots i blank_reset) i) 4

-- an edge names only declared locations, clocks and counters, and is within the limits; its label is 0 to 15
unfoldable pub edge_formed : ℕ → ℕ → ℕ → Edge → Bool
edge_formed locations clocks vars e =
    ltb e.source locations && ltb e.target locations && leb e.label 15 && atoms_formed clocks vars e.guard && updates_formed vars e.updates &&
    order_formed e && resets_formed clocks e.resets

-- the slot is blank: label 0, and formed where nothing but location 0 is declared, so location 0 twice, no atom, keep, a blank order, clocks unchanged
abbrev pub is_blank_edge : Edge → Bool
is_blank_edge e = eqb e.label 0 && edge_formed 1 0 0 e

-- a used slot holds a formed edge; an unused slot is blank
abbrev pub edge_slot_formed : Model → ℕ → Bool
edge_slot_formed m e = cond (ltb e m.used) (edge_formed m.locations m.clocks m.vars (edge_at m e)) (is_blank_edge (edge_at m e))

-- every edge slot
unfoldable pub edges_formed : Model → Bool
edges_formed m = all_below (edge_slot_formed m) 32

-- ---- the record
-- 1 to 16 locations, one initial, one target, 0 to 4 clocks, 0 to 4 counters, 0 to 32 edges
unfoldable pub head_formed : Model → Bool
head_formed m =
    leb 1 m.locations && leb m.locations 16 && ltb m.initial m.locations && ltb m.target m.locations &&
    leb m.clocks 4 && leb m.vars 4 && leb m.used 32

-- a well-formed record (else refusal 20)
unfoldable pub well_formed : Model → Bool
well_formed m = head_formed m && counters_formed m.vars m.counters && invariants_formed m && edges_formed m

-- ---- a given state (else refusal 10)
-- a declared slot shows 0 to its greatest value; an unused slot is 0
abbrev pub slot_in_group : ℕ → ℕ → ℕ → ℕ → Bool
slot_in_group declared greatest v i = cond (ltb i declared) (leb v greatest) (eqb v 0)

-- every counter slot
unfoldable pub counters_in_group : ℕ → List Counter → State → Bool
counters_in_group vars counters s = all_below (λ i. slot_in_group vars (get_or counters i blank_counter).greatest (value s (counter i)) i) 4

-- every clock slot
unfoldable pub clocks_in_group : ℕ → ℕ → State → Bool
clocks_in_group clocks top s = all_below (λ i. slot_in_group clocks top (value s (clock i)) i) 4

-- each number of the state is in its group
unfoldable pub state_formed : Model → State → Bool
state_formed m s = ltb s.location m.locations && counters_in_group m.vars m.counters s && clocks_in_group m.clocks (ceiling m) s
