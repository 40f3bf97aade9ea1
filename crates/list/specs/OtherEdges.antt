-- Records and edges that differ in a part.
use Rattle.std.specs.Prelude.{List, ℕ}
use Rattle.model.specs.declared.ClockUpdate.{ClockUpdate}
use Rattle.model.specs.declared.Edge.{Edge}
use Rattle.model.specs.declared.Model.{Model}
use Rattle.model.specs.Indexed.{list_below}
use Rattle.model.specs.Record.{edge_at}

-- The edge e with the label and the clocks' updates given in place of its own; all else stays.
abbrev pub edge_with : Edge → ℕ → List ClockUpdate → Edge
edge_with e label resets = record {
  source = e.source;
  target = e.target;
  label = label;
  guard = e.guard;
  updates = e.updates;
  order = e.order;
  resets = resets;
}

-- The record m with the edges es in place of its own; all else stays.
abbrev pub with_edges : Model → List Edge → Model
with_edges m es = record {
  locations = m.locations;
  initial = m.initial;
  target = m.target;
  clocks = m.clocks;
  vars = m.vars;
  counters = m.counters;
  invariants = m.invariants;
  used = m.used;
  edges = es;
}

-- The record m with f of each edge in place of the edge.
abbrev pub map_edges : (Edge → Edge) → Model → Model
map_edges f m = with_edges m (list_below (λ e. f (edge_at m e)) 32)
