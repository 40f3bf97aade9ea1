-- `all_within`: the words one by one.
use Rattle.std.proofs.Common.{rules, tests, ◌∙◌}
use Rattle.std.proofs.lemmas.Iterator.{YieldsList-from_slice}
use Rattle.std.proofs.lemmas.Iterator.Search.{all_from_yields_List}
use lib.Dec.{ltb}
use Rattle.refutation.specs.Codes.{code_of}
use Rattle.refutation.proofs.Laws.{within}
use Rattle.refutation.proofs.all_within.Goals as goal

pub returns : goal.returns
returns c =
    all_from_yields_List (λ w. ltb (code_of w) 43554) _ _ _ c.all.ensures.ran (YieldsList-from_slice c.args.words.now cc) (λ x b q k. search (rules, tests))
    ∙ within c.args.words.now
