-- A clock copied to itself, `x0:=x0`: the record in which such a clock is left unchanged is another one, with the same steps and the same list.
use Rattle.std.specs.Prelude.{◌≡◌, cond, ℕ, ◌<◌, T, eqb}
use Rattle.model.specs.declared.ClockUpdate.{ClockUpdate}
use Rattle.model.specs.declared.ClockUpdate.TheVariants.{Unchanged, Reset, Copy}
use Rattle.model.specs.declared.Edge.{Edge}
use Rattle.model.specs.declared.Model.{Model}
use Rattle.model.specs.declared.State.{State}
use Rattle.model.specs.Indexed.{list_below}
use Rattle.model.specs.Record.{reset_at, edge_at}
use Rattle.model.specs.Automaton.{step}
use Rattle.model.specs.Form.{well_formed}
use Rattle.list.specs.Items.{items}
use Rattle.list.specs.Clauses.{words}
use Rattle.list.specs.OtherEdges.{edge_with, map_edges}

-- The update of clock i; a copy of the clock itself becomes unchanged.
abbrev pub self_unchanged : ℕ → ClockUpdate → ClockUpdate
self_unchanged i Unchanged = Unchanged
self_unchanged i Reset = Reset
self_unchanged i (Copy w) = cond (eqb w i) Unchanged (Copy w)

-- The slot of clock i of an edge, with its update so changed.
abbrev pub self_slot : Edge → ℕ → ClockUpdate
self_slot e i = self_unchanged i (reset_at e i)

-- The edge with every slot so changed.
unfoldable pub self_edge : Edge → Edge
self_edge e = edge_with e e.label (list_below (self_slot e) 4)

-- The record with every edge so changed.
unfoldable pub self_model : Model → Model
self_model m = map_edges self_edge m

-- A self-copy is the same step and the same clauses in another record. The record so changed
pub record SelfCopies (m : Model) : Type 0 where
  -- is well formed,
  pub formed : T (well_formed (self_model m))
  -- has the same steps from every state,
  pub steps : (s : State) (b : ℕ) → step (self_model m) s b ≡ step m s b
  -- has the same list for every bound, in every layout and word for word in the first,
  pub lists : (width : ℕ → ℕ) (k : ℕ) → items width (self_model m) k ≡ items width m k
  pub same_words : (k : ℕ) → words (self_model m) k ≡ words m k
  -- and is another record, if a clock is copied to itself.
  pub another : (e i : ℕ) → e < 32 → i < 4 → reset_at (edge_at m e) i ≡ Copy i → self_model m ≡ m → ⊥
