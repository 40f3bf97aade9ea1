-- `split_once`: a list is cut at the place that `position` answers.
use Rattle.std.proofs.Common.{◌+◌, rules, tests, arith, eqb}
use Rattle.std.proofs.lemmas.Iterator.{YieldsList-from_slice}
use Rattle.std.proofs.lemmas.Iterator.Search.{position_from_yields_List}
use lib.ListN.{length-take, length-drop}
use Rattle.output.proofs.Parts.{cut_none, cut_some, rest_is}
use Rattle.output.proofs.bytes.split_once.Goals as goal

pub returns-in_err-at : goal.returns-in_err-at
returns-in_err-at c =
    let s = c.args.s.now in
    let found = position_from_yields_List (λ x. eqb x c.args.b) _ _ _ c.position.ensures.ran (YieldsList-from_slice s cc) (λ x b q k. search (rules, tests)) in
    let h = cut_none c.args.b s found c.in_err-at.was in
    search rules

pub returns : goal.returns
returns c =
    let s = c.args.s.now in
    let i = c.in_ok-at.at in
    let found = position_from_yields_List (λ x. eqb x c.args.b) _ _ _ c.position.ensures.ran (YieldsList-from_slice s cc) (λ x b q k. search (rules, tests)) in
    let cut = cut_some c.args.b s found i c.in_ok-at.was in
    rw (rest_is (i + 1) s) (cut.0, omega (arith, cut.1, length-take i s, length-drop (i + 1) s))
