-- check_groups: the clauses of the first groups are true.
use Rattle.std.proofs.Common.{arith, ap, ◌∙◌, ℕ, ◌+◌, ◌<◌, ◌≤◌, ◌≡◌, take, length, get_or, length-take, get_or-take}
use Rattle.list.specs.Clauses.{group_clauses}
use Rattle.model.proofs.IndexedLaws.{length_list}
use Rattle.parts.specs.declared.Group.{Group}
use Rattle.parts.specs.declared.GroupTable.{GroupTable}
use Rattle.parts.specs.declared.layout.Layout.{Layout}
use Rattle.parts.specs.StateBlock.{empty_group, group_at, group_table}
use Rattle.parts.proofs.KnownLaws.{at_most_nine, block_in}
use Rattle.parts.proofs.LayoutLaws.{known_of_layout}
use Rattle.search.proofs.CheckLaws.{checked_as, stopped, upto_done, upto_failed, upto_next, upto_none}
use Rattle.search.specs.Limits.{most_block_clauses}
use Rattle.search.proofs.pieces.check_groups.Goals as goal

-- the groups that are read
module _ (l : Layout) where
  long : length l.table.blocks ≡ 9
  unfolding group_table
  long = ap (λ (b : GroupTable). length b.blocks) l.grouped ∙ length_list (group_at l.model) 9

  within : (g : ℕ) → g < length (take l.table.groups l.table.blocks) → g < l.table.groups
  within g h = omega (arith, h, length-take l.table.groups l.table.blocks)

  read : (g : ℕ) → g < l.table.groups → get_or (take l.table.groups l.table.blocks) g empty_group ≡ get_or l.table.blocks g empty_group
  read g h = get_or-take l.table.groups l.table.blocks g empty_group h

  all_read : (g : ℕ) → length (take l.table.groups l.table.blocks) ≤ g → l.table.groups ≤ g
  all_read g h = omega (arith, h, length-take l.table.groups l.table.blocks, long, at_most_nine (known_of_layout l))

pub shared_ref_as_front-group-items : goal.shared_ref_as_front-group-items
shared_ref_as_front-group-items c = at_most_nine (known_of_layout c.args.layout.now)

pub loop-group-init : goal.loop-group-init
loop-group-init c = upto_none

pub offset_bounds-group-items-group-index : goal.offset_bounds-group-items-group-index
offset_bounds-group-items-group-index c =
    let l = within c.args.layout.now c.loop-group.group-index c.loop-group-test.true in
    record { fits = omega (arith, l, at_most_nine (known_of_layout c.args.layout.now)) }

pub check_group-requires : goal.check_group-requires
check_group-requires c =
    let layout = c.args.layout.now in
    let g = c.loop-group.group-index in
    let l = within layout g c.loop-group-test.true in
    let k = known_of_layout layout in
    let block = block_in k c.args.o (length c.args.a.now) c.requires.0 in
    rw (read layout g l) (block.group_in g l, block.group_le g l, omega (arith, c.loop-group.invariant.few, l, at_most_nine k, c.requires.1))

pub returns-in_err-count : goal.returns-in_err-count
returns-in_err-count c =
    let layout = c.args.layout.now in
    let g = c.loop-group.group-index in
    let l = within layout g c.loop-group-test.true in
    stopped c.from_residual.ensures.1
    (upto_failed c.loop-group.invariant most_block_clauses l
    (checked_as (ap (λ (x : Group). group_clauses (c.args.o + x.first) x.size) (read layout g l)) c.in_err-count.ensures)
    (omega (arith, l, at_most_nine (known_of_layout layout))))

pub loop-group-preserved : goal.loop-group-preserved
loop-group-preserved c =
    let layout = c.args.layout.now in
    let g = c.loop-group.group-index in
    let l = within layout g c.loop-group-test.true in
    upto_next c.loop-group.invariant l
    (checked_as (ap (λ (x : Group). group_clauses (c.args.o + x.first) x.size) (read layout g l)) c.in_ok-count.ensures)

pub returns : goal.returns
returns c =
    let layout = c.args.layout.now in
    upto_done c.loop-group.invariant most_block_clauses (all_read layout _ c.loop-group-test.false)
    (omega (arith, c.loop-group.invariant.le, at_most_nine (known_of_layout layout)))
