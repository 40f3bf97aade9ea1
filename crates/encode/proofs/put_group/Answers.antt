-- `put_group`: the loop has written the first members of the group.
use Rattle.std.proofs.Common.{arith, rules, refl, ap, sym, ◌≡◌, ◌∙◌, ◌<◌, ◌≤◌, ◌+◌, ◌-◌, ◌++◌, ℕ, length, length-set, length-append, length-drop, take, drop}
use mathlib.Core.Bool.{cond, Bool, true, false}
use mathlib.Core.List.{List}
use lib.Dec.{eqb}
use lib.Seq.{take-length, length-take-le}
use mir.Val.{bool_byte}
use Rattle.model.proofs.Filled.{filled, whole}
use Rattle.model.proofs.IndexedLaws.{list_none}
use Rattle.std.proofs.lemmas.Slice.{put_mid-paste}
use borrow.Rule.Slice.PartMut.{put_mid}
use Rattle.buffer.specs.Buffers.{Wrote}
use Rattle.list.proofs.OneHot.{one_hot_length}
use Rattle.encode.proofs.put_group.Goals as goal

as_byte : (b : Bool) → bool_byte b ≡ cond b 1 0
as_byte true = refl
as_byte false = refl

-- a part of the buffer holds the piece
wrote_part : (p part old : List ℕ) (at n : ℕ) → at + n ≤ length old → part ≡ p → length p ≡ n → Wrote p old (put_mid at (at + n - at) old part) at (at + n)
wrote_part p part old at n h e l =
    let whole_piece : take n p ≡ p = ap (λ (k : ℕ). take k p) (sym l) ∙ take-length p in
    let pasted : put_mid at (at + n - at) old part ≡ take at old ++ p ++ drop (at + n) old =
    put_mid-paste at (at + n - at) old part p n e (omega arith) (sym l) ∙ ap (λ (x : List ℕ). take at old ++ x ++ drop (at + n) old) whole_piece in
    record {
      ends = omega (arith, l);
      fits = h;
      long = ap length pasted ∙ simp (length-append, length-drop) (omega (arith, length-take-le at old (omega arith), l));
      list = pasted;
    }

pub overflow_add-group : goal.overflow_add-group
overflow_add-group c = record { fits = omega (arith, one_hot_length c.args.n c.args.d, c.requires.room) }

pub slice_bounds-group-end : goal.slice_bounds-group-end
slice_bounds-group-end c = omega (arith, one_hot_length c.args.n c.args.d, c.requires.room)

pub loop-v-init : goal.loop-v-init
loop-v-init c = record {
  long = search (rules, one_hot_length c.args.n c.args.d, c.requires.room);
  members_are = sym (list_none _);
}

pub loop-v-preserved : goal.loop-v-preserved
loop-v-preserved c =
    let d = c.args.d in
    let here : c.loop-v.v < length c.loop-v.group = omega (arith, c.loop-v-test.true, c.loop-v.auto.group) in
    record {
      long = length-set _ _ _ ∙ c.loop-v.invariant.long;
      members_are = filled (λ v. cond (eqb v d) 1 0) _ _ _ here c.loop-v.invariant.members_are (c.from.ensures ∙ as_byte (eqb c.loop-v.v d));
    }

pub returns : goal.returns
returns c =
    let a = c.args in
    let n : ℕ = a.n in
    let room = c.requires.room in
    let v = c.loop-v.invariant in
    let d : ℕ = a.d in
    let at : c.loop-v.v ≡ n = omega (arith, c.loop-v-test.false, c.loop-v.auto.v-end, c.loop-v.auto.group, v.long) in
    let group = whole (λ v. cond (eqb v d) 1 0) c.loop-v.group v.long (rw at at v.members_are) in
    wrote_part _ _ _ _ _ (omega (arith, one_hot_length n d, room)) group (one_hot_length n d)
