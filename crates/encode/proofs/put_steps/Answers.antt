-- `put_steps`: the loop has walked the first bytes of the run to the state at hand and written their blocks.
use Rattle.std.proofs.Common.{arith, refl, sym, ap, ◌∙◌, ◌≡◌, ℕ, length, take}
use lib.Seq.{take-length}
use Rattle.model.proofs.RunLaws.{walk_nil}
use Rattle.model.proofs.FormLaws.{formed, ceiling_of_totals}
use Rattle.list.specs.Assignments.{one_hot, steps_bytes}
use Rattle.encode.proofs.BlockLaws.{steps_none, taken, reached_more, steps_more, steps_whole}
use Rattle.buffer.proofs.BufferLaws.{wrote_none, wrote_then, room_first, room_then, wrote_as, room_as}
use Rattle.encode.proofs.put_steps.Goals as goal

pub loop-byte-init : goal.loop-byte-init
loop-byte-init c = record {
  reached = (walk_nil _ _ _).1 refl;
  written = rw (steps_none c.args.m c.args.first) (wrote_none _ _ (omega (arith, c.requires.2.room)));
}

pub overflow_cast-z : goal.overflow_cast-z
overflow_cast-z c = record { fits = omega (arith, ceiling_of_totals _ _ c.totals-z.ensures, (formed c.args.m c.requires.0).ceiling_le) }

pub advance-requires : goal.advance-requires
advance-requires c = (c.requires.0, ceiling_of_totals _ _ c.totals-z.ensures)

pub unwrap-next-requires : goal.unwrap-next-requires
unwrap-next-requires c = taken _ _ _ _ _ c.loop-byte-test.true c.loop-byte.invariant.reached c.requires.1 c.advance.ensures

pub put_step-end-requires : goal.put_step-end-requires
put_step-end-requires c =
    let v = c.loop-byte.invariant in
    let pre = c.requires in
    let h = sym c.advance.ensures ∙ c.unwrap-next.ensures in (
      pre.0,
      c.totals-z.ensures,
      room_then v.written (room_first _ (room_as (steps_whole _ _ _ _ _ c.loop-byte-test.true v.reached _ h) pre.2)),
    )

pub loop-byte-preserved : goal.loop-byte-preserved
loop-byte-preserved c =
    let v = c.loop-byte.invariant in
    let l = c.loop-byte-test.true in
    let h = sym c.advance.ensures ∙ c.unwrap-next.ensures in
    record {
      reached = reached_more _ _ _ _ _ l v.reached _ h;
      written = wrote_as (steps_more _ _ _ _ _ l v.reached _ h) (wrote_then v.written c.put_step-end.ensures);
    }

pub returns : goal.returns
returns c =
    let done : c.loop-byte.byte-index ≡ length c.args.run.now = omega (arith, c.loop-byte-test.false) in
    let all : take c.loop-byte.byte-index c.args.run.now ≡ c.args.run.now = ap (λ (n : ℕ). take n c.args.run.now) done ∙ take-length c.args.run.now in
    wrote_as (sym (ap (steps_bytes one_hot c.args.m c.args.first) all)) c.loop-byte.invariant.written
