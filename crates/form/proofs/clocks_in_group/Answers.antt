-- `clocks_in_group`: all of the slots, each with its index.
use Rattle.std.proofs.Common.{rules, tests, ◌∙◌}
use Rattle.std.proofs.lemmas.Iterator.{YieldsList-from_slice}
use Rattle.std.proofs.lemmas.Iterator.Consumers.{YieldsList-from_enumerate}
use Rattle.std.proofs.lemmas.Iterator.Search.{all_from_yields_List}
use Rattle.model.specs.Form.{clocks_in_group, slot_in_group}
use Rattle.model.proofs.Known.{clocks_long}
use Rattle.model.proofs.ByIndex.{all_enumerated}
use Rattle.form.proofs.clocks_in_group.Goals as goal

pub returns : goal.returns
unfolding clocks_in_group
returns c =
    let a = c.args in
    let slots = a.s.clocks in
    all_from_yields_List (λ q. slot_in_group a.clocks a.top q.1 q.0) _ _ _ c.all.ensures.ran
    (YieldsList-from_enumerate (YieldsList-from_slice slots cc) cc) (λ x b q k. search (rules, tests))
    ∙ rw (clocks_long a.s _ c.well_formed.0) at (all_enumerated 0 (λ i x. slot_in_group a.clocks a.top x i) slots)
