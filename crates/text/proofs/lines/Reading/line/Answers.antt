-- `Reading::line`: another line, the first fault of its value, or the line read.
use Rattle.std.proofs.Common.{rules, ◌≡◌, Ok, Err, subst}
use Rattle.text.specs.line.DueLines.{DueLine}
use Rattle.text.proofs.bytes.Library.{form_refused, form_read}
use Rattle.text.proofs.lines.Settling.{line_other, line_fault, line_read}
use Rattle.text.proofs.lines.Reading.line.Goals as goal

pub returns-in_err-due : goal.returns-in_err-due
returns-in_err-due g c =
    λ faults put stores.
    let p = form_refused c.at.result c.due_at.result c.ok_or.ensures.value c.in_err-due.was in
    let e : c.from_residual.result ≡ Err c.in_err-due.field-0.0 = search rules in
    let other = subst (DueLine c.args.key.now c.args.text.now c.args.self.at) p.0 c.due_at.ensures in
    rw (e, p.1) (line_other c.args.key.now faults put c.args.text.now c.args.self other _ c.at.ensures)

pub returns-in-Ok : goal.returns-in-Ok
returns-in-Ok g c =
    λ faults put stores.
    let p = form_read c.at.result c.due_at.result c.ok_or.ensures.value c.in_ok-due.was in
    let due = subst (DueLine c.args.key.now c.args.text.now c.args.self.at) p c.due_at.ensures in
    line_read c.args.key.now faults put c.args.text.now c.args.self c.in_ok-due.due due c.requires.placed c.in-Ok.model
    (stores c.in_ok-due.due.value c.args.self.model (Ok c.in-Ok.model) c.in-Ok.ensures)

pub returns-in-Err : goal.returns-in-Err
returns-in-Err g c =
    λ faults put stores.
    let p = form_read c.at.result c.due_at.result c.ok_or.ensures.value c.in_ok-due.was in
    let due = subst (DueLine c.args.key.now c.args.text.now c.args.self.at) p c.due_at.ensures in
    line_fault c.args.key.now faults put c.args.text.now c.args.self c.in_ok-due.due due c.in-Err.fault
    (stores c.in_ok-due.due.value c.args.self.model (Err c.in-Err.fault) c.in-Err.ensures) _ c.at-in-Err.ensures
