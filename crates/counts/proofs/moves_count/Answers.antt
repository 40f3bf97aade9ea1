-- `moves_count`: the choice's group, (M + 1) S clauses of three literals for the delays, the edges.
use Rattle.std.proofs.Common.{arith, ◌+◌, ◌*◌, ◌≤◌}
use native.Mathlib.Nat.{mul-le-mul}
use Rattle.parts.specs.declared.layout.Layout.{Layout}
use Rattle.parts.proofs.KnownLaws.{known_bounded}
use Rattle.parts.proofs.LayoutLaws.{known_of_layout}
use Rattle.counts.proofs.CountLaws.{clauses_le, words_le, counted_is}
use Rattle.counts.proofs.CountedList.{moves_counted}
use Rattle.counts.proofs.GroupLaws.{group_64}
use Rattle.counts.proofs.PieceBounds.{moves_most}
use Rattle.counts.proofs.moves_count.Goals as goal

delays_le : (l : Layout) → (l.table.top + 1) * l.table.state ≤ 8704
delays_le l =
    let h = known_bounded (known_of_layout l) in
    let t : l.table.top + 1 ≤ 32 = omega (arith, h.top_le) in
    mul-le-mul t h.state_le

pub overflow_mul-delays : goal.overflow_mul-delays
overflow_mul-delays c = record { fits = omega (arith, delays_le c.args.l.now) }

pub overflow_mul-waits : goal.overflow_mul-waits
overflow_mul-waits c = record { fits = omega (arith, delays_le c.args.l.now) }

pub group_count-requires : goal.group_count-requires
group_count-requires c = (known_bounded (known_of_layout c.args.l.now)).choices_le

pub add-requires : goal.add-requires
add-requires c =
    let l = c.args.l.now in
    let m = group_64 0 l.table.choices (known_bounded (known_of_layout l)).choices_le in
    (omega (arith, delays_le l, clauses_le (c.group_count.ensures 0) m), omega (arith, delays_le l, words_le (c.group_count.ensures 0) m))

pub add-requires-2 : goal.add-requires-2
add-requires-2 c =
    let l = c.args.l.now in
    let n = moves_counted (known_of_layout l) 0 c.group_count.ensures (c.edges_count.ensures 0) in
    let m = moves_most l.model l.formed 0 in
    (omega (arith, clauses_le n m, c.add.ensures.0), omega (arith, words_le n m, c.add.ensures.1))

pub returns : goal.returns
returns c o =
    counted_is (moves_counted (known_of_layout c.args.l.now) o c.group_count.ensures (c.edges_count.ensures o))
    (omega (arith, c.add.ensures.0, c.add-2.ensures.0)) (omega (arith, c.add.ensures.1, c.add-2.ensures.1))
