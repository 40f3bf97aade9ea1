-- `number_text`: digit after digit before the space, as long as there are more.
use native.Mathlib.Omega.{arith}
use mathlib.Core.Path.{refl, sym, ap}
use Prim.Native.Nat.{ℕ, ◌/◌, ◌<◌}
use native.Mathlib.Nat.{mod-eq_of_lt}
use Rattle.decimal.specs.Decimal.{digit}
use Rattle.dimacs.proofs.TextLaws.{Tail, tail_none, tail_led, tail_end}
use Rattle.dimacs.proofs.texts.number_text.Goals as goal
use Rattle.dimacs.proofs.texts.number_text.Goals.{Else-d-lt10, Else-d-lt100, Else-d-lt1000, Else-d-lt10000}

-- what is put before the space where there are more digits
one : (c : Else-d-lt10) → let n = c.args.n in Tail n (n / 10) c.led-one.result
one c = tail_led _ (tail_none c.args.n) (omega arith) (omega arith) refl c.led-one.ensures

two : (c : Else-d-lt100) → let n = c.args.n in Tail n (n / 100) c.led-two.result
two c = tail_led _ (one c.before.before) (omega arith) (omega arith) refl c.led-two.ensures

three : (c : Else-d-lt1000) → let n = c.args.n in Tail n (n / 1000) c.led-three.result
three c = tail_led _ (two c.before.before) (omega arith) (omega arith) refl c.led-three.ensures

four : (c : Else-d-lt10000) →
    let n = c.args.n in
    Tail n (n / 10000) c.led-four.result
four c = tail_led _ (three c.before.before) (omega arith) (omega arith) refl c.led-four.ensures

-- the fifth digit is the first
fifth : (n : ℕ) → n < 100000 → n / 10000 < 10
fifth n h = omega arith

pub returns-then-d-lt10 : goal.returns-then-d-lt10
returns-then-d-lt10 c = tail_end _ (tail_none c.args.n) (omega arith) refl c.led-one.ensures

pub returns-then-d-lt100 : goal.returns-then-d-lt100
returns-then-d-lt100 c = tail_end _ (one c.before.before) (omega arith) refl c.led-two.ensures

pub returns-then-d-lt1000 : goal.returns-then-d-lt1000
returns-then-d-lt1000 c = tail_end _ (two c.before.before) (omega arith) refl c.led-three.ensures

pub returns-then-d-lt10000 : goal.returns-then-d-lt10000
returns-then-d-lt10000 c = tail_end _ (three c.before.before) (omega arith) refl c.led-four.ensures

pub led-requires : goal.led-requires
led-requires c =
    omega (arith, c.led-four.ensures, c.led-three.ensures, c.led-two.ensures, c.led-one.ensures)

pub returns : goal.returns
returns c =
    let small = fifth c.args.n c.requires in
    tail_end _ (four c.before) small (ap digit (sym (mod-eq_of_lt small))) c.led.ensures
