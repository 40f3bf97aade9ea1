-- `updates_formed`: all of the slots, each with its index.
use Rattle.std.proofs.Common.{rules, tests, ◌∙◌}
use Rattle.std.proofs.lemmas.Iterator.{YieldsList-from_slice}
use Rattle.std.proofs.lemmas.Iterator.Consumers.{YieldsList-from_enumerate}
use Rattle.std.proofs.lemmas.Iterator.Search.{all_from_yields_List}
use Rattle.model.specs.Record.{blank_update}
use Rattle.model.specs.Form.{updates_formed, update_slot_formed}
use Rattle.model.proofs.ByIndex.{all_enumerated}
use Rattle.form.proofs.updates_formed.Goals as goal

pub returns : goal.returns
unfolding updates_formed
returns c =
    let a = c.args in
    let slots = a.slots in
    all_from_yields_List (λ q. update_slot_formed a.vars q.1 q.0) _ _ _ c.all.ensures.ran
    (YieldsList-from_enumerate (YieldsList-from_slice slots cc) cc) (λ x b q k. search (rules, tests))
    ∙ rw c.well_formed.0.1.0.1 at (all_enumerated blank_update (λ i x. update_slot_formed a.vars x i) slots)
