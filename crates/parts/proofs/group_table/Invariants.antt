-- `group_table`: the first blocks are those of the definition; a group begins where the one before ends.
use Rattle.std.proofs.Common.{◌≡◌, ◌≤◌, ◌*◌, take, length}
use Rattle.list.specs.Clauses.{one_hot_width}
use Rattle.list.specs.Items.{offset}
use Rattle.model.specs.Indexed.{list_below}
use Rattle.parts.specs.StateBlock.{component_at, group_at}
use Rattle.parts.proofs.group_table.Given as goal

abbrev pub invariant-loop-g : goal.invariant-loop-g
invariant-loop-g l = record {
  long : length l.block-items ≡ 9;
  sum_le : l.sum ≤ l.g * 32;
  sum_is : l.sum ≡ offset one_hot_width l.m (component_at l.m l.g);
  blocks_are : take l.g l.block-items ≡ list_below (group_at l.m) l.g;
}
