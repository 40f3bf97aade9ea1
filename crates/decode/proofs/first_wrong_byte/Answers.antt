-- `first_wrong_byte`: the position of the first byte above 1.
use Rattle.std.proofs.Common.{rules, tests, ◌∙◌}
use Rattle.std.proofs.lemmas.Iterator.Search.{position_from_yields_List}
use Rattle.std.proofs.lemmas.Iterator.{YieldsList-from_slice}
use lib.Dec.{ltb}
use Rattle.decode.proofs.Bytes.{found_first}
use Rattle.decode.proofs.first_wrong_byte.Goals as goal

pub returns : goal.returns
returns c =
    position_from_yields_List (λ x. ltb 1 x) _ _ _ c.position.ensures.ran (YieldsList-from_slice _ c.iter.ensures.rest) (λ x b q k. search (rules, tests))
    ∙ found_first c.args.a.now
