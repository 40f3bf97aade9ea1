-- check_shifted: by whether the new value lies in range, as the definition of the shift says.
use Rattle.std.proofs.Common.{rules, sym, ap, ◌∙◌, ◌≡◌}
use Rattle.std.specs.Prelude.{None, Some}
use lib.IntN.{ℤ}
use mir.Syntax.{w8}
use mir.Val.{to_z, of_z}
use Rattle.model.specs.Automaton.{shifted}
use Rattle.search.proofs.CheckLaws.{checked_one}
use Rattle.search.proofs.truth.check_shifted.Goals as goal

pub returns-in-None : goal.returns-in-None
returns-in-None c =
    let a = c.args in
    let back : to_z w8 (of_z w8 a.offset) ≡ a.offset = search rules in
    let e : shifted a.offset a.greatest a.v ≡ None = ap (λ (z : ℤ). shifted z a.greatest a.v) (sym back) ∙ sym c.in-None.ensures in
    rw e (checked_one _ _ _ c.counted.ensures c.not_both.ensures)

pub returns-in-Some : goal.returns-in-Some
returns-in-Some c =
    let a = c.args in
    let back : to_z w8 (of_z w8 a.offset) ≡ a.offset = search rules in
    let e : shifted a.offset a.greatest a.v ≡ Some c.in-Some.u = ap (λ (z : ℤ). shifted z a.greatest a.v) (sym back) ∙ sym c.in-Some.ensures in
    rw e (checked_one _ _ _ c.counted-in-Some.ensures c.both_lead.ensures)
