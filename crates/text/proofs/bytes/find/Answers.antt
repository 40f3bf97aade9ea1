-- `find`: the place in the rest of the slice is the first, and past it there is none.
use Rattle.std.proofs.Common.{rules, tests, sym, subst, ◌∙◌, ◌==◌, drop}
use Rattle.std.proofs.lemmas.Iterator.{YieldsList-from_slice}
use Rattle.std.proofs.lemmas.Iterator.Search.{position_from_yields_List}
use Rattle.text.specs.bytes.Bytes.{Found}
use Rattle.text.proofs.Laws.Bytewise.{part_to_end}
use Rattle.text.proofs.bytes.Library.{found_none, found_some}
use Rattle.text.proofs.bytes.find.Goals as goal

pub returns-in_err-place : goal.returns-in_err-place
returns-in_err-place c =
    let a = c.args in
    let p = position_from_yields_List (λ x. x == a.b) _ _ c.position.result c.position.ensures.ran
    (YieldsList-from_slice (drop a.at a.s.now) (c.iter.ensures.rest
    ∙ part_to_end a.s.now a.at))
    (λ x b q k. search (rules, tests)) in
    subst (Found a.b a.at a.s.now) (sym c.from_residual.ensures) (found_none a.b a.at a.s.now c.requires p c.in_err-place.was)

pub returns : goal.returns
returns c =
    let a = c.args in
    let p = position_from_yields_List (λ x. x == a.b) _ _ c.position.result c.position.ensures.ran
    (YieldsList-from_slice (drop a.at a.s.now) (c.iter.ensures.rest
    ∙ part_to_end a.s.now a.at))
    (λ x b q k. search (rules, tests)) in
    found_some a.b a.at a.s.now c.requires p c.in_ok-place.was
