-- Reading the record, and the blank model.
use Rattle.std.specs.Prelude.{ℕ, List, [], get_or, replicate}
use Rattle.model.specs.declared.Atom.{Atom}
use Rattle.model.specs.declared.Atom.TheVariants.{Blank}
use Rattle.model.specs.declared.Update.{Update}
use Rattle.model.specs.declared.Update.TheVariants.{Keep}
use Rattle.model.specs.declared.ClockUpdate.{ClockUpdate}
use Rattle.model.specs.declared.ClockUpdate.TheVariants.{Unchanged}
use Rattle.model.specs.declared.Counter.{Counter}
use Rattle.model.specs.declared.Invariant.{Invariant}
use Rattle.model.specs.declared.Edge.{Edge}
use Rattle.model.specs.declared.Model.{Model}

-- ---- blank slots
-- no atom
abbrev pub blank_atom : Atom
blank_atom = Blank

-- keep
abbrev pub blank_update : Update
blank_update = Keep

-- unchanged
abbrev pub blank_reset : ClockUpdate
blank_reset = Unchanged

-- numbers 0
abbrev pub blank_counter : Counter
blank_counter = record { greatest = 0; initial = 0 }

-- four blank slots
abbrev pub blank_invariant : Invariant
blank_invariant = record { atoms = replicate 4 blank_atom }

-- numbers 0, so location 0 twice and private, and blank slots
abbrev pub blank_edge : Edge
blank_edge = record { source = 0; target = 0; label = 0; guard = replicate 4 blank_atom; updates = replicate 4 blank_update; order = replicate 4 0; resets = replicate 4 blank_reset }

-- the blank model: one location, initial and target 0
unfoldable pub blank_model : Model
blank_model = record {
  locations = 1;
  initial = 0;
  target = 0;
  clocks = 0;
  vars = 0;
  counters = replicate 4 blank_counter;
  invariants = replicate 16 blank_invariant;
  used = 0;
  edges = replicate 32 blank_edge;
}

-- ---- what stands in a slot
-- what is read past the ends of the arrays, which are always full
abbrev pub past_invariant : Invariant
past_invariant = record { atoms = [] }

-- the same for edges
abbrev pub past_edge : Edge
past_edge = record { source = 0; target = 0; label = 0; guard = []; updates = []; order = []; resets = [] }

-- the atom in slot k of an invariant or a guard
abbrev pub atom_at : List Atom → ℕ → Atom
atom_at atoms k = get_or atoms k blank_atom

-- the update of counter i
abbrev pub update_at : Edge → ℕ → Update
update_at e i = get_or e.updates i blank_update

-- the counter in slot k of an order
abbrev pub counter_in : List ℕ → ℕ → ℕ
counter_in order k = get_or order k 0

-- the update of clock i
abbrev pub reset_at : Edge → ℕ → ClockUpdate
reset_at e i = get_or e.resets i blank_reset

-- the declaration of counter i
abbrev pub counter_at : Model → ℕ → Counter
counter_at m i = get_or m.counters i blank_counter

-- the atoms of the invariant of location l
abbrev pub invariant_at : Model → ℕ → List Atom
invariant_at m l = (get_or m.invariants l past_invariant).atoms

-- edge e
abbrev pub edge_at : Model → ℕ → Edge
edge_at m e = get_or m.edges e past_edge
