-- Pieces of the list by number: a group of the state block at o, an atom, a delay, a part of an edge, an edge, a step.
use Rattle.std.specs.Prelude.{◌≡◌, List, [], ◌∷◌, ◌++◌, ℕ, ◌+◌, ◌≤◌, ◌<◌, T, length}
use Rattle.model.specs.declared.Atom.{Atom}
use Rattle.model.specs.declared.Edge.{Edge}
use Rattle.model.specs.declared.Model.{Model}
use Rattle.model.specs.Indexed.{each}
use Rattle.model.specs.Record.{atom_at, invariant_at}
use Rattle.model.specs.Automaton.{initial_value}
use Rattle.model.specs.Form.{well_formed}
use Rattle.list.specs.Items.{block_at, step_items, edge_of}
use Rattle.list.specs.Clauses.{bare, Clause, one, one_hot_width, group_clauses, clauses_of}
use Rattle.parts.specs.Rules.{part_clauses, Fits}
use Rattle.parts.specs.declared.GroupTable.{GroupTable}
use Rattle.parts.specs.StateBlock.{component_at, group_table, first_at, size_at}
use Rattle.parts.specs.PartsOf.{atom_part, delay_part, edge_part}

-- b is the table of the well-formed model m.
pub record Known (m : Model) (b : GroupTable) : Type 0 where
  pub formed : T (well_formed m)
  pub is : b ≡ group_table m

-- The groups of the state block at o have at most 64 members each and lie below n.
pub record BlockIn (b : GroupTable) (o n : ℕ) : Type 0 where
  pub groups_le : b.groups ≤ 9
  pub group_in : (g : ℕ) → g < b.groups → o + first_at b g + size_at b g ≤ n
  pub group_le : (g : ℕ) → g < b.groups → size_at b g ≤ 64

-- Group g: its group clauses.
abbrev pub group_piece : GroupTable → ℕ → ℕ → List Clause
group_piece b o g = group_clauses (o + first_at b g) (size_at b g)

-- Group g at its initial value.
abbrev pub initial_piece : Model → GroupTable → ℕ → List Clause
initial_piece m b g = one (bare (first_at b g + initial_value m (component_at m g)) ∷ [])

-- Atom k of an invariant or a guard, for the choice or location x.
abbrev pub atom_piece : GroupTable → ℕ → ℕ → List Atom → ℕ → List Clause
atom_piece b o x atoms k = part_clauses x (atom_part b o (atom_at atoms k))

-- The invariant of location l.
abbrev pub location_piece : Model → GroupTable → ℕ → ℕ → List Clause
location_piece m b o l = each 4 (atom_piece b o (o + l) (invariant_at m l))

-- Group g under delay d.
abbrev pub delay_piece : GroupTable → ℕ → ℕ → ℕ → List Clause
delay_piece b o d g = part_clauses (o + b.state + d) (delay_part b o d g)

-- Part j of an edge that is choice x.
abbrev pub edge_piece : ℕ → GroupTable → Edge → ℕ → ℕ → List Clause
edge_piece x b e o j = part_clauses x (edge_part b e o j)

-- Delay d.
abbrev pub delay_pieces : GroupTable → ℕ → ℕ → List Clause
delay_pieces b o d = each b.groups (delay_piece b o d)

-- The choice block after the state block at o and all that delays name lie below n, and a delay has a clause for each member of the state block.
pub record StepIn (b : GroupTable) (o n : ℕ) : Type 0 where
  pub choice_in : o + b.state + b.choices ≤ n
  pub delay_is_choice : b.top < b.choices
  pub delay_fits : (d g : ℕ) → g < b.groups → Fits (delay_part b o d g) n
  pub delay_clauses : (d : ℕ) → b.state ≡ length (delay_pieces b o d)

-- A step up to its edges: the choice's group, then the delays.
abbrev pub front_piece : GroupTable → ℕ → List Clause
front_piece b o = group_clauses (o + b.state) b.choices ++ each (b.top + 1) (delay_pieces b o)

-- Edge e, all its parts.
unfoldable pub edge_clauses : Model → ℕ → ℕ → List Clause
edge_clauses m o e = clauses_of (edge_of one_hot_width m o e)

-- Step t + 1, from state t.
unfoldable pub step_clauses : Model → ℕ → List Clause
step_clauses m t = clauses_of (step_items one_hot_width m (block_at one_hot_width m t))
