-- The model that two models compose, and whether a record may hold it.
use Rattle.std.specs.Prelude.{ℕ, ◌+◌, ◌-◌, ◌*◌, Bool, true, ◌&&◌, cond, List, ltb, leb, eqb, length, replicate}
use Rattle.model.specs.declared.Counter.{Counter}
use Rattle.model.specs.declared.Invariant.{Invariant}
use Rattle.model.specs.declared.Edge.{Edge}
use Rattle.model.specs.declared.Model.{Model}
use Rattle.model.specs.Indexed.{each, list_below, all_below}
use Rattle.model.specs.Record.{blank_invariant, blank_edge, counter_at, invariant_at, edge_at}
use Rattle.compose.specs.Joined.{joined_location, atom_count, joined_atoms}
use Rattle.compose.specs.Moves.{shared, paired, moves, move_at, edge_of, placed}

-- ---- 38: more than a record may hold
-- the invariant of every pair of locations has at most 4 atoms
unfoldable pub invariants_fit : Model → Model → Bool
invariants_fit a b = all_below (λ i. all_below (λ j. leb (atom_count (invariant_at a i) + atom_count (invariant_at b j)) 4) b.locations) a.locations

-- the guard of an edge of the first and one of the second has at most 4 atoms, if they bear the same shared label
abbrev pub pair_fits : Model → Model → Edge → Edge → Bool
pair_fits a b e f = cond (shared a b e.label && eqb e.label f.label) (leb (atom_count e.guard + atom_count f.guard) 4) true

-- the guard of e and f has at most 4 atoms, if they move in a pair
abbrev pub guard_fits : Model → Model → ℕ → ℕ → Bool
guard_fits a b e f = cond (paired a b e f) (leb (atom_count (edge_at a e).guard + atom_count (edge_at b f).guard) 4) true

-- the guard of every pair that is formed has at most 4 atoms; a lone edge's guard is its own
unfoldable pub guards_fit : Model → Model → Bool
guards_fit a b = all_below (λ e. all_below (guard_fits a b e) b.used) a.used

-- at most 16 locations, 4 clocks, 4 counters, 32 edges, and 4 atoms in each invariant and guard
unfoldable pub fits : Model → Model → Bool
fits a b =
    leb (a.locations * b.locations) 16 && leb (a.clocks + b.clocks) 4 && leb (a.vars + b.vars) 4 && leb (length (moves a b)) 32 &&
    invariants_fit a b && guards_fit a b

-- ---- the record
-- the first's counters, then the second's
unfoldable pub joined_counters : Model → Model → List Counter
joined_counters a b = list_below (λ i. cond (ltb i a.vars) (counter_at a i) (counter_at b (i - a.vars))) 4

-- the invariant of location (i, j): both hold, the first's atoms first
abbrev pub joined_invariant : Model → Model → ℕ → ℕ → Invariant
joined_invariant a b i j = record { atoms = joined_atoms a.clocks a.vars (invariant_at a i) (invariant_at b j) }

-- the invariants of the locations (i, j), in the order of their numbers
unfoldable pub joined_invariants : Model → Model → List Invariant
joined_invariants a b = each a.locations (λ i. list_below (joined_invariant a b i) b.locations)

-- slot n of the edges: the edge of move n; the slots after the last move are blank
abbrev pub composed_edge : Model → Model → ℕ → Edge
composed_edge a b n = cond (ltb n (length (moves a b))) (edge_of a b (move_at a b n)) blank_edge

-- the two models as one: initial and target are the pairs
unfoldable pub composed : Model → Model → Model
composed a b = record {
  locations = a.locations * b.locations;
  initial = joined_location b.locations a.initial b.initial;
  target = joined_location b.locations a.target b.target;
  clocks = a.clocks + b.clocks;
  vars = a.vars + b.vars;
  counters = joined_counters a b;
  invariants = placed (replicate 16 blank_invariant) 0 (joined_invariants a b);
  used = length (moves a b);
  edges = list_below (composed_edge a b) 32;
}
