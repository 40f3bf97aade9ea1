-- `places`: between two powers of ten the number of digits is known, and dividing by 100,000 takes five away.
use native.Mathlib.Omega.{arith}
use Rattle.decimal.proofs.DecimalLaws.{length_small, length_five, digits_least, digits_most, digits_most_twenty}
use Rattle.decimal.proofs.+places.Goals as goal

pub returns-then-n-lt10 : goal.returns-then-n-lt10
returns-then-n-lt10 t c = (omega (arith, length_small c.args.n c.if-n-lt10.true), omega arith, omega arith)

pub returns-then-n-lt100 : goal.returns-then-n-lt100
returns-then-n-lt100 t c =
    let n = c.args.n in
    (omega (arith, digits_least 1 n (omega arith), digits_most 1 n (omega arith)), omega arith, omega arith)

pub returns-then-n-lt1000 : goal.returns-then-n-lt1000
returns-then-n-lt1000 t c =
    let n = c.args.n in
    (omega (arith, digits_least 2 n (omega arith), digits_most 2 n (omega arith)), omega arith, omega arith)

pub returns-then-n-lt10000 : goal.returns-then-n-lt10000
returns-then-n-lt10000 t c =
    let n = c.args.n in
    (omega (arith, digits_least 3 n (omega arith), digits_most 3 n (omega arith)), omega arith, omega arith)

pub returns-then-n-lt100000 : goal.returns-then-n-lt100000
returns-then-n-lt100000 t c =
    let n = c.args.n in
    (omega (arith, digits_least 4 n (omega arith), digits_most 4 n (omega arith)), omega arith, omega arith)

pub returns : goal.returns
returns t c =
    let n = c.args.n in
    let long = length_five n (omega arith) in
    let most = digits_most_twenty n (omega arith) in
    let known = c.places.ensures.0 in
    (omega (arith, long, known), omega arith, omega (arith, long, most, known))
