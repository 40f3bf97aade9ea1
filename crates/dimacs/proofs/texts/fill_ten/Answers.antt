-- `fill_ten`: the loop has filled the entries up to variable `k`; where there is one more, `x` is the entry of its number.
use mathlib.Core.Path.{◌≡◌}
use Rattle.dimacs.specs.Texts.{number_text, Entry}
use Prim.Native.Nat.{ℕ, ◌<◌, ◌≤◌, ◌+◌, ◌/◌, ◌^◌}
use native.Mathlib.Omega.{arith}
use lib.ListN.{length-set}
use Rattle.dimacs.proofs.TextLaws.{rising_first, rising_small, rising_next, number_room, texts_more}
use Rattle.dimacs.proofs.texts.fill_ten.Goals as goal

-- the entry from which the shift is known has two to six bytes
first : (n : ℕ) {x : ℕ} → n < 100000 → Entry (number_text n) x → (2 ≤ x / 2 ^ 56) × (x / 2 ^ 56 ≤ 6)
first n h e =
    let room = number_room h e in
    (room.0, room.1)

pub overflow_sub-rise : goal.overflow_sub-rise
overflow_sub-rise c =
    let few = first (c.args.o + (c.args.i + 1)) (omega arith) c.number_text-x.ensures in
    omega arith

pub overflow_shl-rise : goal.overflow_shl-rise
overflow_shl-rise c =
    let few = first (c.args.o + (c.args.i + 1)) (omega arith) c.number_text-x.ensures in
    omega arith

pub loop-k-init : goal.loop-k-init
loop-k-init c = (omega arith, omega arith, c.requires.0, λ _. rising_first (omega arith) c.number_text-x.ensures)

pub led-requires : goal.led-requires
led-requires c =
    let room = number_room (omega arith) (c.loop-k.invariant.3 c.loop-k-test.true).entry in
    (omega arith, room.1, room.2)

pub bounds-texts-v-in-loop-k : goal.bounds-texts-v-in-loop-k
bounds-texts-v-in-loop-k c = simp length-set (omega (arith, c.loop-k.invariant.2.long))

pub overflow_add-x : goal.overflow_add-x
overflow_add-x c =
    let is = c.loop-k.invariant.3 c.loop-k-test.true in
    let room = number_room (omega arith) is.entry in
    omega (arith, rising_small (omega arith) is)

pub loop-k-preserved : goal.loop-k-preserved
loop-k-preserved c =
    let loop = c.loop-k in
    let o = c.args.o in
    let sum : o + (loop.k + 1) + 1 ≡ o + (loop.k + 1 + 1) = omega arith in
    let is = loop.invariant.3 c.loop-k-test.true in (
      omega arith,
      omega arith,
      texts_more loop.x c.led.result loop.invariant.2 (omega arith) (omega arith) is.entry c.led.ensures,
      λ more. rw sum at (rising_next (omega arith) (λ e. omega arith) is),
    )

pub returns : goal.returns
returns c =
    let done : c.loop-k.k ≡ c.args.j = omega arith in
    rw done at c.loop-k.invariant.2
