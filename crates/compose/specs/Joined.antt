-- What two models join: the second's clocks and counters are shifted up, and the first model's part stands first.
use Rattle.std.specs.Prelude.{ℕ, ◌+◌, ◌-◌, ◌*◌, cond, List, ltb, replicate}
use Rattle.model.specs.declared.Atom.{Atom}
use Rattle.model.specs.declared.Atom.TheVariants.{Blank, OnClock, OnCounter}
use Rattle.model.specs.declared.Update.{Update}
use Rattle.model.specs.declared.Update.TheVariants.{Keep, Constant, Sum}
use Rattle.model.specs.declared.ClockUpdate.{ClockUpdate}
use Rattle.model.specs.declared.ClockUpdate.TheVariants.{Unchanged, Reset, Copy}
use Rattle.model.specs.declared.Edge.{Edge}
use Rattle.model.specs.Indexed.{list_below, sum_below}
use Rattle.model.specs.Record.{blank_atom, blank_update, blank_reset, atom_at, update_at, counter_in, reset_at}
use Rattle.model.specs.Automaton.{listed}
use Rattle.model.specs.Form.{is_blank}

-- ---- the second's numbers shifted up, by the first's clocks and counters
-- the clock or the counter of an atom
abbrev pub shifted_atom : ℕ → ℕ → Atom → Atom
shifted_atom clocks vars Blank = Blank
shifted_atom clocks vars (OnClock x r c) = OnClock (clocks + x) r c
shifted_atom clocks vars (OnCounter v r c) = OnCounter (vars + v) r c

-- the counter that an update reads
abbrev pub shifted_update : ℕ → Update → Update
shifted_update vars Keep = Keep
shifted_update vars (Constant c) = Constant c
shifted_update vars (Sum w offset) = Sum (vars + w) offset

-- the clock that a copy reads
abbrev pub shifted_reset : ℕ → ClockUpdate → ClockUpdate
shifted_reset clocks Unchanged = Unchanged
shifted_reset clocks Reset = Reset
shifted_reset clocks (Copy w) = Copy (clocks + w)

-- ---- locations
-- location (i, j), where the second model has so many locations
abbrev pub joined_location : ℕ → ℕ → ℕ → ℕ
joined_location locations i j = i * locations + j

-- ---- atoms
-- how many atoms an invariant or a guard has
unfoldable pub atom_count : List Atom → ℕ
atom_count atoms = sum_below (λ k. cond (is_blank (atom_at atoms k)) 0 1) 4

-- slot k: the first's atoms, then the second's
abbrev pub joined_atom : ℕ → ℕ → List Atom → List Atom → ℕ → Atom
joined_atom clocks vars first second k = cond (ltb k (atom_count first)) (atom_at first k) (shifted_atom clocks vars (atom_at second (k - atom_count first)))

-- the atoms of two invariants or of two guards
unfoldable pub joined_atoms : ℕ → ℕ → List Atom → List Atom → List Atom
joined_atoms clocks vars first second = list_below (λ k. (joined_atom clocks vars first second k)) 4

-- ---- updates with their order, and resets
-- counter i: the first's counters, then the second's
abbrev pub joined_update : ℕ → Edge → Edge → ℕ → Update
joined_update vars e f i = cond (ltb i vars) (update_at e i) (shifted_update vars (update_at f (i - vars)))

-- the updates of two edges
unfoldable pub joined_updates : ℕ → Edge → Edge → List Update
joined_updates vars e f = list_below (λ i. (joined_update vars e f i)) 4

-- slot k of the order: the counters that the first edge sets, in its order, then those that the second sets, in its order; the others are 0
abbrev pub joined_place : ℕ → Edge → Edge → ℕ → ℕ
joined_place vars e f k =
    cond (ltb k (listed e)) (counter_in e.order k) (cond (ltb k (listed e + listed f)) (vars + counter_in f.order (k - listed e)) 0)

-- the order of two edges
unfoldable pub joined_order : ℕ → Edge → Edge → List ℕ
joined_order vars e f = list_below (joined_place vars e f) 4

-- clock i: the first's clocks, then the second's
abbrev pub joined_reset : ℕ → Edge → Edge → ℕ → ClockUpdate
joined_reset clocks e f i = cond (ltb i clocks) (reset_at e i) (shifted_reset clocks (reset_at f (i - clocks)))

-- the clock updates of two edges
unfoldable pub joined_resets : ℕ → Edge → Edge → List ClockUpdate
joined_resets clocks e f = list_below (λ i. (joined_reset clocks e f i)) 4

-- ---- edges
-- standing still in a location: from it to itself, with no guard, no update and no reset
unfoldable pub standing : ℕ → Edge
standing l = record {
  source = l;
  target = l;
  label = 0;
  guard = replicate 4 blank_atom;
  updates = replicate 4 blank_update;
  order = replicate 4 0;
  resets = replicate 4 blank_reset;
}

-- edge e of the first model and edge f of the second as one edge with the given label; the first has so many clocks and counters, the second so many locations
unfoldable pub joined_edge : ℕ → ℕ → ℕ → ℕ → Edge → Edge → Edge
joined_edge clocks vars locations label e f = record {
  source = joined_location locations e.source f.source;
  target = joined_location locations e.target f.target;
  label = label;
  guard = joined_atoms clocks vars e.guard f.guard;
  updates = joined_updates vars e f;
  order = joined_order vars e f;
  resets = joined_resets clocks e f;
}
