-- `resets_formed`: all of the slots, each with its index.
use Rattle.std.proofs.Common.{rules, tests, ◌∙◌}
use Rattle.std.proofs.lemmas.Iterator.{YieldsList-from_slice}
use Rattle.std.proofs.lemmas.Iterator.Consumers.{YieldsList-from_enumerate}
use Rattle.std.proofs.lemmas.Iterator.Search.{all_from_yields_List}
use Rattle.model.specs.Record.{blank_reset}
use Rattle.model.specs.Form.{resets_formed, reset_slot_formed}
use Rattle.model.proofs.ByIndex.{all_enumerated}
use Rattle.form.proofs.resets_formed.Goals as goal

pub returns : goal.returns
unfolding resets_formed
returns c =
    let a = c.args in
    let slots = a.slots in
    all_from_yields_List (λ q. reset_slot_formed a.clocks q.1 q.0) _ _ _ c.all.ensures.ran
    (YieldsList-from_enumerate (YieldsList-from_slice slots cc) cc) (λ x b q k. search (rules, tests))
    ∙ rw c.well_formed.0.1.0.1 at (all_enumerated blank_reset (λ i x. reset_slot_formed a.clocks x i) slots)
