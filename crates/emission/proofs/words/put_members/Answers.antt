-- The clause of all members: the words of the members so far, in the part of the buffer that is for them.
use Rattle.std.proofs.Common.{arith, rules, sym, ◌∙◌, ◌≡◌, ◌≤◌, ◌<◌, ℕ, ◌+◌, ◌-◌, length, take, drop, List}
use borrow.Rule.Slice.PartMut.{put_mid}
use lib.IntN.{ℤ}
use lib.ListN.{length-take, length-drop}
use Rattle.buffer.specs.Buffers.{Wrote}
use Rattle.model.specs.Indexed.{list_below}
use Rattle.std.proofs.lemmas.List.{length-set}
use Rattle.model.proofs.IndexedLaws.{list_none, length_list}
use Rattle.model.proofs.Filled.{filled, whole}
use Rattle.buffer.proofs.BufferLaws.{wrote_then, wrote_one}
use Rattle.list.specs.Clauses.{members}
use Rattle.emission.proofs.ClauseLaws.{wrote_part, wrote_clause, stored}
use Rattle.emission.proofs.Members.{member_word, members_words, members_room}
use Rattle.emission.proofs.words.put_members.Goals as goal

-- the part of the buffer that is for the members
part_long : (l : List ℤ) (at n m : ℕ) → at + n ≤ length l → m ≡ n → length (take m (drop at l)) ≡ n
part_long l at n m h e = simp (length-take, length-drop) (omega arith)

-- all members are written
written : (c : goal.After-memberitems-in-loop-v-1) → let a = c.args in
    Wrote (list_below (member_word a.b) a.n) a.out.now (put_mid a.at (a.at + a.n - a.at) a.out.now c.loop-v.member-items) a.at (a.at + a.n)
written c =
    let a = c.args in
    let v = c.loop-v.invariant in
    let room = members_room _ _ c.requires.1 in
    let n : a.at + a.n - a.at ≡ a.n = omega arith in
    let done : c.loop-v.v ≡ a.n = omega (arith, part_long a.out.now a.at _ _ (omega (arith, room)) n, c.loop-v-test.false, v.long, c.loop-v.auto.v-end) in
    let l = length_list (member_word a.b) a.n in
    wrote_part (omega (arith, l, n)) (omega (arith, l)) (whole (member_word a.b) _ v.long (rw done at v.so_far)) (omega (arith, l, room))

pub slice_bounds-member-items-end : goal.slice_bounds-member-items-end
slice_bounds-member-items-end c = omega (arith, members_room _ _ c.requires.1)

pub loop-v-init : goal.loop-v-init
loop-v-init c =
    let a = c.args in
    record { long = part_long a.out.now a.at a.n _ (omega (arith, members_room _ _ c.requires.1)) (omega arith); so_far = sym (list_none _) }

pub loop-v-preserved : goal.loop-v-preserved
loop-v-preserved c =
    let v = c.loop-v.invariant in
    let here : c.loop-v.v < length c.loop-v.member-items = omega (arith, v.long, c.loop-v-test.true) in
    record {
      long = length-set _ _ _ ∙ v.long;
      so_far = filled (member_word c.args.b) _ c.loop-v.v _ here v.so_far (stored c.positive.result c.positive.ensures (search rules));
    }

pub slice_set_of-out : goal.slice_set_of-out
slice_set_of-out c = omega (arith, members_room _ _ c.requires.1, (written c).long)

pub returns : goal.returns
returns c =
    wrote_clause (members c.args.b c.args.n) (members_words c.args.b c.args.n)
    (wrote_then (written c) (wrote_one _ _ _ (omega (arith, members_room _ _ c.requires.1, (written c).long))))
