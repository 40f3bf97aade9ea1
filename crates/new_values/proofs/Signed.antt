-- Facts of a small signed number: its negation at a wider type, and what the tests on its sign tell.
use Prim.Native.Nat.{zero, suc, ◌<◌, ◌^◌, zero-le}
use mathlib.Core.Path.{◌≡◌, refl}
use mathlib.Core.Bool.{true, false, true≢false}
use native.Mathlib.Omega.{arith}
use lib.IntN.{ℤ, pos, negsuc, ◌-ℤ◌, nat_abs}
use lib.Signed.{lt_z, non_neg}
use lib.Dec.{T}
use borrow.Author.Tests.{le-ltb, lt-ltb, ltb-true}
use mir.Syntax.{w8, w16}
use mir.Val.{SFits, Fits}
use Rattle.new_values.specs.NewValues.{is_negative}

pub negative_test : (z : ℤ) → lt_z z (pos 0) ≡ is_negative z
negative_test (pos n) = le-ltb n 0 zero-le
negative_test (negsuc n) = refl

pub minus_fits : (z : ℤ) → SFits w8 z → SFits w16 (pos 0 -ℤ z)
minus_fits (pos zero) f = record { sfits = omega arith }
minus_fits (pos (suc n)) f = let h : suc n < 2 ^ 7 = f.sfits in record { sfits = rw (lt-ltb 0 (suc n) (omega arith)) (omega arith) }
minus_fits (negsuc n) f = let h : n < 2 ^ 7 = f.sfits in record { sfits = omega arith }

pub minus_up : (z : ℤ) → SFits w8 z → lt_z z (pos 0) ≡ true → T (non_neg (pos 0 -ℤ z)) × Fits w8 (nat_abs (pos 0 -ℤ z))
minus_up (pos n) f t = absurd (omega (arith, ltb-true n 0 t))
minus_up (negsuc n) f t = let h : n < 2 ^ 7 = f.sfits in (tt, record { fits = omega arith })

pub plus_up : (z : ℤ) → SFits w8 z → lt_z z (pos 0) ≡ false → T (non_neg z) × Fits w8 (nat_abs z)
plus_up (pos n) f t = let h : n < 2 ^ 7 = f.sfits in (tt, record { fits = omega arith })
plus_up (negsuc n) f t = absurd (true≢false t)

pub minus_abs : (z : ℤ) → nat_abs (pos 0 -ℤ z) ≡ nat_abs z
minus_abs (pos zero) = refl
minus_abs (pos (suc n)) = rw (lt-ltb 0 (suc n) (omega arith)) (omega arith)
minus_abs (negsuc n) = omega arith
