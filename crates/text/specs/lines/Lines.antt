-- The kinds of line: the key of each, the tests of its value, and what it puts into the model.
use Rattle.std.specs.Prelude.{ℕ}
use Rattle.text.specs.bytes.Ascii.{ascii}
use Rattle.text.specs.bytes.Bytes.{number_of, number_in}
use Rattle.text.specs.atoms.Atoms.{atom_faults, atom_slots, inv_items, when_items}
use Rattle.text.specs.updates.Sets.{set_faults, update_slots, order_slots, set_items}
use Rattle.text.specs.resets.Resets.{reset_faults, reset_slots, reset_items}
use Rattle.text.specs.line.Values.{number_faults, reference_faults, greatest_of, initial_of, counter_faults, counter_in}
use Rattle.text.specs.lines.Store.{with_locations, with_initial, with_target, with_clocks, with_vars, with_used, with_counter, with_invariant}
use Rattle.text.specs.lines.Store.{with_source, with_edge_target, with_label, with_guard, with_updates, with_resets}
use Rattle.text.specs.lines.Progress.{Progress, read_line}

-- 1 to 16 locations
unfoldable pub locations_line : Progress → Progress
locations_line = read_line (ascii "locations=") (λ m v. number_faults 1 16 (number_of v)) (λ m v. with_locations m (number_in (number_of v)))

-- one initial, one target
unfoldable pub init_line : Progress → Progress
init_line = read_line (ascii "init=") (λ m v. reference_faults m.locations (number_of v)) (λ m v. with_initial m (number_in (number_of v)))

unfoldable pub target_line : Progress → Progress
target_line = read_line (ascii "target=") (λ m v. reference_faults m.locations (number_of v)) (λ m v. with_target m (number_in (number_of v)))

-- 0 to 4 clocks, 0 to 4 counters
unfoldable pub clocks_line : Progress → Progress
clocks_line = read_line (ascii "clocks=") (λ m v. number_faults 0 4 (number_of v)) (λ m v. with_clocks m (number_in (number_of v)))

unfoldable pub vars_line : Progress → Progress
vars_line = read_line (ascii "vars=") (λ m v. number_faults 0 4 (number_of v)) (λ m v. with_vars m (number_in (number_of v)))

-- counter i
unfoldable pub var_line : ℕ → Progress → Progress
var_line i =
    read_line (ascii "var=") (λ m v. counter_faults (greatest_of v) (initial_of v)) (λ m v. with_counter m i (counter_in (greatest_of v) (initial_of v)))

-- the invariant of location l: up to 4 clock atoms
unfoldable pub inv_line : ℕ → Progress → Progress
inv_line l = read_line (ascii "inv=") (λ m v. atom_faults m.clocks m.vars (inv_items v)) (λ m v. with_invariant m l (atom_slots (inv_items v)))

-- 0 to 32 edges
unfoldable pub edges_line : Progress → Progress
edges_line = read_line (ascii "edges=") (λ m v. number_faults 0 32 (number_of v)) (λ m v. with_used m (number_in (number_of v)))

-- edge e: source and target location, label, guard, updates and their order, resets
unfoldable pub from_line : ℕ → Progress → Progress
from_line e = read_line (ascii "from=") (λ m v. reference_faults m.locations (number_of v)) (λ m v. with_source m e (number_in (number_of v)))

unfoldable pub to_line : ℕ → Progress → Progress
to_line e = read_line (ascii "to=") (λ m v. reference_faults m.locations (number_of v)) (λ m v. with_edge_target m e (number_in (number_of v)))

unfoldable pub label_line : ℕ → Progress → Progress
label_line e = read_line (ascii "label=") (λ m v. number_faults 0 15 (number_of v)) (λ m v. with_label m e (number_in (number_of v)))

unfoldable pub when_line : ℕ → Progress → Progress
when_line e = read_line (ascii "when=") (λ m v. atom_faults m.clocks m.vars (when_items v)) (λ m v. with_guard m e (atom_slots (when_items v)))

unfoldable pub set_line : ℕ → Progress → Progress
set_line e =
    read_line (ascii "set=") (λ m v. set_faults m.vars (set_items v)) (λ m v. with_updates m e (update_slots (set_items v)) (order_slots (set_items v)))

unfoldable pub reset_line : ℕ → Progress → Progress
reset_line e = read_line (ascii "reset=") (λ m v. reset_faults m.clocks (reset_items v)) (λ m v. with_resets m e (reset_slots (reset_items v)))
