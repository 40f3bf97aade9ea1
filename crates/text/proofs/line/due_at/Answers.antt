-- `due_at`: no LF, another key, or the due line; `find` gives the end of the line.
use Rattle.std.proofs.Common.{sym, subst, ◌∙◌, refl}
use Rattle.text.proofs.bytes.Library.{key_is}
use Rattle.text.proofs.line.DueLaws.{due_unended, due_other, due_found}
use Rattle.text.specs.line.DueLines.{DueLine}
use Rattle.text.proofs.line.due_at.Goals as goal

pub returns-in_err-end : goal.returns-in_err-end
returns-in_err-end c =
    subst (DueLine c.args.key.now c.args.text.now c.args.at) (sym c.from_residual.ensures) (due_unended c.args.key.now c.in_err-end.ensures refl)

pub returns-in_err-value : goal.returns-in_err-value
returns-in_err-value c =
    let other = sym (key_is c.args.key.now _) ∙ c.in_err-value.ensures.cases in
    subst (DueLine c.args.key.now c.args.text.now c.args.at) (sym c.from_residual-in_err-value.ensures)
    (due_other c.args.key.now c.in_ok-end.ensures.0 c.in_ok-end.ensures.1 other)

pub returns : goal.returns
returns c =
    let due = sym (key_is c.args.key.now _) ∙ c.in_ok-value.ensures.cases.0 in
    due_found c.args.key.now c.in_ok-end.ensures.0 c.in_ok-end.ensures.1 due _ c.in_ok-value.ensures.cases.1 refl
