-- `failing_count`: for each relation the closed form of the sum over the values.
use Rattle.std.proofs.Common.{arith, ◌≡◌, Bool, true, false, cond, refl, ltb}
use mir.Val.{bool_byte}
use Rattle.counts.proofs.PartLaws.{fails_less, fails_less_equal, fails_equal, fails_greater_equal, fails_greater, fails_not_equal}
use Rattle.counts.proofs.part.failing_count.Goals as goal

as_number : (b : Bool) → bool_byte b ≡ cond b 1 0
as_number true = refl
as_number false = refl

pub returns-in-Less : goal.returns-in-Less
returns-in-Less c = rw c.in-Less.is (omega (arith, c.min.ensures, fails_less c.args.constant c.args.n))

pub returns-in-LessEqual : goal.returns-in-LessEqual
returns-in-LessEqual c = rw c.in-LessEqual.is (omega (arith, c.min-in-LessEqual.ensures, fails_less_equal c.args.constant c.args.n))

pub returns-in-Equal : goal.returns-in-Equal
returns-in-Equal c = rw c.in-Equal.is (omega (arith, as_number (ltb c.args.constant c.args.n), fails_equal c.args.constant c.args.n))

pub returns-in-GreaterEqual : goal.returns-in-GreaterEqual
returns-in-GreaterEqual c = rw c.in-GreaterEqual.is (omega (arith, c.min-in-GreaterEqual.ensures, fails_greater_equal c.args.constant c.args.n))

pub returns-in-Greater : goal.returns-in-Greater
returns-in-Greater c = rw c.in-Greater.is (omega (arith, c.min-in-Greater.ensures, fails_greater c.args.constant c.args.n))

pub returns-in-NotEqual : goal.returns-in-NotEqual
returns-in-NotEqual c = rw c.in-NotEqual.is (omega (arith, as_number (ltb c.args.constant c.args.n), fails_not_equal c.args.constant c.args.n))
