-- first_line_bytes: the key, two numbers, two spaces and LF.
use native.Mathlib.Omega.{arith}
use Rattle.dimacs.proofs.LineLaws.{first_line_long}
use Rattle.dimacs.proofs.lines.first_line_bytes.Goals as goal

pub returns : goal.returns
returns c =
    let a = c.args in
    omega (arith, c.places.ensures.0, c.places-2.ensures.0, first_line_long a.variables a.clauses)
