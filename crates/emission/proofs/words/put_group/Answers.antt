-- The group clauses: the clause of all members, then the pairs of each member, a member a turn.
use native.Mathlib.Omega.{arith}
use borrow.Author.Rules.{rules}
use Rattle.emission.proofs.ClauseLaws.{wrote_then, wrote_each, wrote_each_none, room_first, room_then, room_each}
use Rattle.list.specs.Clauses.{pairs, group_clauses}
use mathlib.Core.Path.{◌≡◌}
use Rattle.emission.proofs.words.put_group.Goals as goal

pub put_members-end-requires : goal.put_members-end-requires
unfolding group_clauses pairs
put_members-end-requires c = (search rules, room_first _ c.requires.1)

pub loop-i-init : goal.loop-i-init
loop-i-init c = (omega arith, wrote_each_none _ _ _ (omega arith))

pub put_pairs_of-end-requires : goal.put_pairs_of-end-requires
unfolding group_clauses pairs
put_pairs_of-end-requires c = (
  omega arith,
  omega arith,
  room_each _ _ _ c.loop-i.invariant.1 c.loop-i-test.true (room_then c.put_members-end.ensures
      c.requires.1),
)

pub loop-i-preserved : goal.loop-i-preserved
loop-i-preserved c = (omega arith, wrote_each _ _ c.loop-i.invariant.1 c.put_pairs_of-end.ensures)

pub returns : goal.returns
unfolding group_clauses pairs
returns c =
    let done : c.loop-i.i ≡ c.args.n = omega arith in
    wrote_then c.put_members-end.ensures (rw done at c.loop-i.invariant.1)
