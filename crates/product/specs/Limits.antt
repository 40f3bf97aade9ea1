-- When two models are too large together (38), and what the call on two records answers.
use Rattle.std.specs.Prelude.{ℕ, ◌+◌, ◌*◌, ◌<◌, ◌≡◌, ◌↔◌, T, length}
use Rattle.model.specs.declared.Model.{Model}
use Rattle.model.specs.Record.{blank_model, invariant_at, edge_at}
use Rattle.model.specs.Form.{well_formed}
use Rattle.compose.specs.Joined.{atom_count}
use Rattle.compose.specs.Moves.{paired, moves}
use Rattle.compose.specs.Composed.{composed}
use Rattle.compose.specs.ComposeCall.{compose_report}

-- the composed model has more locations, clocks, counters, edges or atoms than a record may hold: atoms in the invariant of any pair of locations, or in
-- the guard of a pair of edges that is formed
pub data Exceeds (a b : Model) : Type 0 where
  locations : 16 < a.locations * b.locations → Exceeds a b
  clocks : 4 < a.clocks + b.clocks → Exceeds a b
  counters : 4 < a.vars + b.vars → Exceeds a b
  edges : 32 < length (moves a b) → Exceeds a b
  invariant : (i j : ℕ) → i < a.locations → j < b.locations → 4 < atom_count (invariant_at a i) + atom_count (invariant_at b j) → Exceeds a b
  guard : (e f : ℕ) → e < a.used → f < b.used → T (paired a b e f) → 4 < atom_count (edge_at a e).guard + atom_count (edge_at b f).guard → Exceeds a b

-- both records are well formed
abbrev pub BothFormed : Model → Model → Type 0
BothFormed a b = T (well_formed a) × T (well_formed b)

-- 20 exactly for a record that is not well formed, then 38 exactly by the limits, each with the blank model; else the composed model
pub record ComposesExactly (a b : Model) : Type 0 where
  pub refuses_20 : ((compose_report a b).number ≡ 20) ↔ (BothFormed a b → ⊥)
  pub refuses_38 : ((compose_report a b).number ≡ 38) ↔ (BothFormed a b × Exceeds a b)
  pub accepts : ((compose_report a b).number ≡ 0) ↔ (BothFormed a b × (Exceeds a b → ⊥))
  pub accepted_model : (compose_report a b).number ≡ 0 → (compose_report a b).model ≡ composed a b
  pub refused_model : ((compose_report a b).number ≡ 0 → ⊥) → (compose_report a b).model ≡ blank_model
