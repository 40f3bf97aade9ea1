-- How far a check of a piece of the list counts at most, where a group has at most 64 members, a state block 9 groups, and for 16 locations,
-- 32 edges and 64 steps. They are simple products, above what a model can reach: no count of the search passes most_counted, so no sum wraps.
use Rattle.std.specs.Prelude.{ℕ, ◌+◌, ◌*◌}
use Rattle.counts.specs.Tables.{most_invariant_clauses, most_edge_clauses}

-- A group: the clause of its members, and for each member less than 64 pairs.
abbrev pub most_group_clauses : ℕ
most_group_clauses = 1 + 64 * 64

-- The groups of a state block: the location's, 4 counters' and 4 clocks'.
abbrev pub most_block_clauses : ℕ
most_block_clauses = 9 * most_group_clauses

-- A part: one clause for each value, and no group that a rule reads has more than 32.
abbrev pub most_part_clauses : ℕ
most_part_clauses = 32

-- A state: the groups of its block, and an invariant for each location.
abbrev pub most_state_clauses : ℕ
most_state_clauses = most_block_clauses + 16 * most_invariant_clauses

-- The start: state 0, and the initial value of each group.
abbrev pub most_start_clauses : ℕ
most_start_clauses = most_state_clauses + 9

-- A delay: a part for each group.
abbrev pub most_delay_clauses : ℕ
most_delay_clauses = 9 * most_part_clauses

-- A step up to its edges: the choice's group, and M + 1 delays.
abbrev pub most_front_clauses : ℕ
most_front_clauses = most_group_clauses + 32 * most_delay_clauses

-- A step.
abbrev pub most_step_clauses : ℕ
most_step_clauses = most_front_clauses + 32 * most_edge_clauses + most_state_clauses

-- The whole list, the clause of the end too.
abbrev pub most_counted : ℕ
most_counted = most_start_clauses + 64 * most_step_clauses + 1
