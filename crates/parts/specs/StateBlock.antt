-- The groups of a state block in block order, numbered from 0: the location, each counter, each clock.
use Rattle.std.specs.Prelude.{cond, ℕ, ◌+◌, ◌-◌, ◌≤◌, eqb, ltb, get_or}
use Rattle.model.specs.declared.Model.{Model}
use Rattle.model.specs.Indexed.{list_below}
use Rattle.model.specs.Automaton.{ceiling, state_size, choices, Component, loc, counter, clock, group_size}
use Rattle.list.specs.Items.{offset}
use Rattle.list.specs.Clauses.{one_hot_width}
use Rattle.parts.specs.declared.Group.{Group}
use Rattle.parts.specs.declared.GroupTable.{GroupTable}

-- The component whose group is number g.
abbrev pub component_at : Model → ℕ → Component
component_at m g = cond (eqb g 0) loc (cond (ltb (g - 1) m.vars) (counter (g - 1)) (clock (g - 1 - m.vars)))

-- What is read past the last group.
abbrev pub empty_group : Group
empty_group = record { first = 0; size = 0 }

-- Where group g begins in its state block, and how many members it has.
abbrev pub group_at : Model → ℕ → Group
group_at m g = record { first = offset one_hot_width m (component_at m g); size = group_size m (component_at m g) }

-- How many groups a state block has, where each group begins in it and how many members it has; M, S and H.
unfoldable pub group_table : Model → GroupTable
group_table m = record {
  groups = 1 + m.vars + m.clocks;
  blocks = list_below (group_at m) 9;
  counters = m.counters;
  vars = m.vars;
  top = ceiling m;
  state = state_size m;
  choices = choices m;
}

-- Where group g begins in its state block.
abbrev pub first_at : GroupTable → ℕ → ℕ
first_at b g = (get_or b.blocks g empty_group).first

-- How many members group g has.
abbrev pub size_at : GroupTable → ℕ → ℕ
size_at b g = (get_or b.blocks g empty_group).size

-- The numbers of a state block stay small.
pub record Bounded (b : GroupTable) : Type 0 where
  pub vars_in : 1 + b.vars ≤ b.groups
  pub groups_le : b.groups ≤ 5 + b.vars
  pub vars_le : b.vars ≤ 4
  pub first_le : (g : ℕ) → first_at b g ≤ 288
  pub size_le : (g : ℕ) → size_at b g ≤ 32
  pub state_le : b.state ≤ 272
  pub choices_le : b.choices ≤ 64
  pub top_le : b.top ≤ 31
