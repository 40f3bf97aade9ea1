-- `place_of_true`: the position of the first byte that is 1.
use Rattle.std.proofs.Common.{arith, rules, tests, ◌∙◌}
use Rattle.std.proofs.lemmas.Iterator.Search.{position_from_yields_List}
use Rattle.std.proofs.lemmas.Iterator.{YieldsList-from_slice}
use lib.Dec.{eqb}
use Rattle.decode.proofs.Bytes.{place_found, place_most}
use Rattle.decode.proofs.place_of_true.Goals as goal

pub returns : goal.returns
returns c =
    let found = position_from_yields_List (λ x. eqb x 1) _ _ c.position.result c.position.ensures.ran (YieldsList-from_slice _ c.iter.ensures.rest)
    (λ x b q k. search (rules, tests)) in
    let is = c.unwrap_or.ensures ∙ place_found c.args.a.now c.args.b c.args.n _ c.requires (omega arith) found in
    record { is = is; most = omega (arith, is, place_most c.args.a.now c.args.b c.args.n) }
