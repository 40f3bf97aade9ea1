-- A model or an edge with one part put in.
use Rattle.std.specs.Prelude.{ℕ, List, set}
use Rattle.model.specs.declared.Atom.{Atom}
use Rattle.model.specs.declared.Update.{Update}
use Rattle.model.specs.declared.ClockUpdate.{ClockUpdate}
use Rattle.model.specs.declared.Counter.{Counter}
use Rattle.model.specs.declared.Edge.{Edge}
use Rattle.model.specs.declared.Invariant.{Invariant}
use Rattle.model.specs.declared.Model.{Model}
use Rattle.model.specs.Record.{edge_at}

-- the model, and the edge, of these parts
abbrev model_of : ℕ → ℕ → ℕ → ℕ → ℕ → List Counter → List Invariant → ℕ → List Edge → Model
model_of l i t c v counters invariants u edges = record {
  locations = l;
  initial = i;
  target = t;
  clocks = c;
  vars = v;
  counters = counters;
  invariants = invariants;
  used = u;
  edges = edges;
}

abbrev edge_of : ℕ → ℕ → ℕ → List Atom → List Update → List ℕ → List ClockUpdate → Edge
edge_of s t label guard updates order resets =
    record { source = s; target = t; label = label; guard = guard; updates = updates; order = order; resets = resets }

-- ---- the numbers of the model
unfoldable pub with_locations : Model → ℕ → Model
with_locations m n = model_of n m.initial m.target m.clocks m.vars m.counters m.invariants m.used m.edges

unfoldable pub with_initial : Model → ℕ → Model
with_initial m n = model_of m.locations n m.target m.clocks m.vars m.counters m.invariants m.used m.edges

unfoldable pub with_target : Model → ℕ → Model
with_target m n = model_of m.locations m.initial n m.clocks m.vars m.counters m.invariants m.used m.edges

unfoldable pub with_clocks : Model → ℕ → Model
with_clocks m n = model_of m.locations m.initial m.target n m.vars m.counters m.invariants m.used m.edges

unfoldable pub with_vars : Model → ℕ → Model
with_vars m n = model_of m.locations m.initial m.target m.clocks n m.counters m.invariants m.used m.edges

unfoldable pub with_used : Model → ℕ → Model
with_used m n = model_of m.locations m.initial m.target m.clocks m.vars m.counters m.invariants n m.edges

-- ---- a slot of the model
unfoldable pub with_counter : Model → ℕ → Counter → Model
with_counter m i c = model_of m.locations m.initial m.target m.clocks m.vars (set m.counters i c) m.invariants m.used m.edges

unfoldable pub with_invariant : Model → ℕ → List Atom → Model
with_invariant m l atoms =
    let slots = set m.invariants l (record { atoms = atoms }) in
    model_of m.locations m.initial m.target m.clocks m.vars m.counters slots m.used m.edges

unfoldable pub with_edge : Model → ℕ → Edge → Model
with_edge m e edge = model_of m.locations m.initial m.target m.clocks m.vars m.counters m.invariants m.used (set m.edges e edge)

-- ---- a part of edge e
unfoldable pub with_source : Model → ℕ → ℕ → Model
with_source m e n = let edge = edge_at m e in with_edge m e (edge_of n edge.target edge.label edge.guard edge.updates edge.order edge.resets)

unfoldable pub with_edge_target : Model → ℕ → ℕ → Model
with_edge_target m e n = let edge = edge_at m e in with_edge m e (edge_of edge.source n edge.label edge.guard edge.updates edge.order edge.resets)

unfoldable pub with_label : Model → ℕ → ℕ → Model
with_label m e n = let edge = edge_at m e in with_edge m e (edge_of edge.source edge.target n edge.guard edge.updates edge.order edge.resets)

unfoldable pub with_guard : Model → ℕ → List Atom → Model
with_guard m e atoms = let edge = edge_at m e in with_edge m e (edge_of edge.source edge.target edge.label atoms edge.updates edge.order edge.resets)

-- the updates, and the order in which they are listed
unfoldable pub with_updates : Model → ℕ → List Update → List ℕ → Model
with_updates m e slots order = let edge = edge_at m e in with_edge m e (edge_of edge.source edge.target edge.label edge.guard slots order edge.resets)

unfoldable pub with_resets : Model → ℕ → List ClockUpdate → Model
with_resets m e slots = let edge = edge_at m e in with_edge m e (edge_of edge.source edge.target edge.label edge.guard edge.updates edge.order slots)
