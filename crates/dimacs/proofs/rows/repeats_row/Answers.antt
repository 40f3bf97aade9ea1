-- repeats_row: by the digits of the least and of the greatest number of the two rows.
use Rattle.std.proofs.Common.{arith, sym, ◌∙◌, ◌-◌}
use Rattle.dimacs.proofs.BaseLaws.{follows, not_repeats, if_repeats, near_small}
use Rattle.dimacs.proofs.rows.repeats_row.Goals as goal

pub returns-then-not-follows_step : goal.returns-then-not-follows_step
returns-then-not-follows_step c =
    let a = c.args in
    sym (not_repeats a.layout.now.model a.bound a.row (sym c.follows_step.ensures ∙ c.if-not-follows_step.true))

pub overflow_sub-row : goal.overflow_sub-row
overflow_sub-row c =
    let a = c.args in
    let f = follows a.layout.now.model a.bound a.row (sym c.follows_step.ensures ∙ c.if-not-follows_step.false) in
    omega (arith, f.0)

pub row_start-least-requires : goal.row_start-least-requires
row_start-least-requires c =
    let a = c.args in
    let f = follows a.layout.now.model a.bound a.row (sym c.follows_step.ensures ∙ c.if-not-follows_step.false) in
    omega (arith, f.1, c.requires)

pub overflow_add-least : goal.overflow_add-least
overflow_add-least c =
    let a = c.args in
    let l = a.layout.now in
    let f = follows l.model a.bound a.row (sym c.follows_step.ensures ∙ c.if-not-follows_step.false) in
    omega (arith, c.row_start-least.ensures, near_small l.model l.formed (a.row - 1 - 1) (omega (arith, f.1, c.requires)))

pub row_start-requires : goal.row_start-requires
row_start-requires c =
    let a = c.args in
    let f = follows a.layout.now.model a.bound a.row (sym c.follows_step.ensures ∙ c.if-not-follows_step.false) in
    omega (arith, f.1, c.requires)

pub overflow_add-greatest : goal.overflow_add-greatest
overflow_add-greatest c =
    let a = c.args in
    let l = a.layout.now in
    let f = follows l.model a.bound a.row (sym c.follows_step.ensures ∙ c.if-not-follows_step.false) in
    omega (arith, c.row_start.ensures, c.row_width.ensures, near_small l.model l.formed (a.row - 1) (omega (arith, f.1, c.requires)))

pub returns : goal.returns
returns c =
    let a = c.args in
    let e = sym c.follows_step.ensures ∙ c.if-not-follows_step.false in
    let starts = if_repeats a.layout.now.model a.bound a.row e c.row_start-least.ensures c.row_start.ensures in
    starts c.row_width.ensures c.places.ensures.0 c.places-2.ensures.0
