-- `state_count`: the groups, then the invariants.
use Rattle.std.proofs.Common.{arith}
use Rattle.parts.proofs.LayoutLaws.{known_of_layout}
use Rattle.counts.proofs.CountLaws.{clauses_le, words_le, counted_is}
use Rattle.counts.proofs.CountedList.{state_counted}
use Rattle.counts.proofs.PieceBounds.{state_most}
use Rattle.counts.proofs.state_count.Goals as goal

pub add-requires : goal.add-requires
add-requires c =
    let l = c.args.l.now in
    let n = state_counted (known_of_layout l) 0 (c.groups_count.ensures 0) (c.invariants_count.ensures 0) in
    let m = state_most l.model l.formed 0 in
    (omega (arith, clauses_le n m), omega (arith, words_le n m))

pub returns : goal.returns
returns c o =
    counted_is (state_counted (known_of_layout c.args.l.now) o (c.groups_count.ensures o) (c.invariants_count.ensures o)) c.add.ensures.0 c.add.ensures.1
