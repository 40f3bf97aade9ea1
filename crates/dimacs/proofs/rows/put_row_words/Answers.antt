-- put_row_words: a step after a step has the same words.
use Rattle.std.proofs.Common.{arith, sym, ◌∙◌, List}
use mathlib.Core.Path.{subst}
use Rattle.list.specs.Clauses.{Clause}
use Rattle.dimacs.specs.Rows.{Holds}
use Rattle.dimacs.proofs.BaseLaws.{follows, step_base}
use Rattle.dimacs.proofs.rows.put_row_words.Goals as goal

pub returns-then-follows_step : goal.returns-then-follows_step
returns-then-follows_step c =
    let a = c.args in
    let m = a.layout.now.model in
    let e = sym c.follows_step.ensures ∙ c.if-follows_step.true in
    let f = follows m a.bound a.row e in
    let base = step_base m a.bound a.row (λ q. omega (arith, f.0)) f.1 in
    subst (λ (cs : List Clause). Holds cs a.words.now a.held) (sym base) (c.requires.2 e)
