-- `order_formed`: all of the indexes.
use Rattle.std.proofs.Common.{rules, tests, arith, ◌∙◌}
use Rattle.std.proofs.lemmas.Iterator.{YieldsList-from_range}
use Rattle.std.proofs.lemmas.Iterator.Search.{all_from_yields_List}
use Rattle.model.specs.Form.{order_formed, order_slot_formed}
use Rattle.model.proofs.ByIndex.{all_range}
use Rattle.form.proofs.order_formed.Goals as goal

pub returns : goal.returns
unfolding order_formed
returns c =
    let a = c.args in
    all_from_yields_List (order_slot_formed a.e) _ _ _ c.all.ensures.ran (YieldsList-from_range 0 4 4 (cc) (omega arith)) (λ x b q k. search (rules, tests))
    ∙ all_range (order_slot_formed a.e) 4
