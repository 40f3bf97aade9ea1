-- `Reader::bound`: another line, no number, or the bound line.
use Rattle.std.proofs.Common.{◌≡◌, ◌∙◌, sym, refl, None, Some}
use Rattle.text.specs.bytes.Bytes.{number_of}
use Rattle.text.proofs.ItemLaws.{bound_other, no_number, bound_found}
use Rattle.text.proofs.reader.Reader.bound.Goals as goal

pub returns-in_err-due : goal.returns-in_err-due
returns-in_err-due c = rw c.from_residual.ensures (bound_other _ _ _ c.within-from.ensures c.in_err-due.ensures)

pub returns-in_err-bound : goal.returns-in_err-bound
returns-in_err-bound c =
    let n : number_of c.in_ok-due.due.value.now ≡ None = sym c.number.ensures ∙ c.in_err-bound.was in
    rw c.from_residual-in_err-bound.ensures (no_number _ _ _ c.within-from.ensures c.in_ok-due.ensures n)

pub returns : goal.returns
returns c =
    let n : number_of c.in_ok-due.due.value.now ≡ Some c.in_ok-bound.bound = sym c.number.ensures ∙ c.in_ok-bound.was in
    bound_found _ _ _ c.within-from.ensures c.in_ok-due.ensures n refl
