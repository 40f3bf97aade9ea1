-- How many pieces a row has, row by row.
use Rattle.std.proofs.Common.{arith, refl}
use Rattle.parts.proofs.KnownLaws.{known_choices}
use Rattle.parts.proofs.LayoutLaws.{known_of_layout}
use Rattle.emission.proofs.CutLaws.{row_start, row_step, row_end, row_pieces_most}
use Rattle.emission.proofs.pieces.row_pieces.Goals as goal

pub overflow_add-result : goal.overflow_add-result
overflow_add-result c =
    let l = c.args.layout.now in
    omega (arith, c.state_pieces.ensures, row_pieces_most l.model l.formed 0 0, row_start l.model 0 0 refl)

pub overflow_add-result-else-row-bound : goal.overflow_add-result-else-row-bound
overflow_add-result-else-row-bound c =
    let l = c.args.layout.now in
    let k = known_of_layout l in
    omega (arith, known_choices k, row_pieces_most l.model l.formed 1 1, row_step l.model 1 1 (λ q. omega arith) (omega arith))

pub overflow_add-result-else-row-bound-2 : goal.overflow_add-result-else-row-bound-2
overflow_add-result-else-row-bound-2 c =
    let l = c.args.layout.now in
    let k = known_of_layout l in
    let most = row_pieces_most l.model l.formed 1 1 in
    omega (arith, known_choices k, c.state_pieces-else-row-bound.ensures, most, row_step l.model 1 1 (λ q. omega arith) (omega arith))

pub returns-then-row-eq0 : goal.returns-then-row-eq0
returns-then-row-eq0 c =
    let a = c.args in
    omega (arith, c.state_pieces.ensures, row_start a.layout.now.model a.bound a.row c.if-row-eq0.true)

pub returns-else-row-bound : goal.returns-else-row-bound
returns-else-row-bound c =
    let a = c.args in
    let l = a.layout.now in
    omega (
      arith,
      known_choices (known_of_layout l),
      c.state_pieces-else-row-bound.ensures,
      row_step l.model a.bound a.row c.if-row-eq0.false c.if-row-bound.false,
    )

pub returns-then-row-bound : goal.returns-then-row-bound
returns-then-row-bound c =
    let a = c.args in
    omega (arith, row_end a.layout.now.model a.bound a.row c.if-row-bound.true)
