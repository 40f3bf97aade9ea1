-- `counters_formed`: all of the slots, each with its index.
use Rattle.std.proofs.Common.{rules, tests, ◌∙◌}
use Rattle.std.proofs.lemmas.Iterator.{YieldsList-from_slice}
use Rattle.std.proofs.lemmas.Iterator.Consumers.{YieldsList-from_enumerate}
use Rattle.std.proofs.lemmas.Iterator.Search.{all_from_yields_List}
use Rattle.model.specs.Record.{blank_counter}
use Rattle.model.specs.Form.{counters_formed, counter_slot_formed}
use Rattle.model.proofs.ByIndex.{all_enumerated}
use Rattle.form.proofs.counters_formed.Goals as goal

pub returns : goal.returns
unfolding counters_formed
returns c =
    let a = c.args in
    let slots = a.counters in
    all_from_yields_List (λ q. counter_slot_formed a.vars q.1 q.0) _ _ _ c.all.ensures.ran
    (YieldsList-from_enumerate (YieldsList-from_slice slots cc) cc) (λ x b q k. search (rules, tests))
    ∙ rw c.well_formed.0.1.0.1 at (all_enumerated blank_counter (λ i x. counter_slot_formed a.vars x i) slots)
