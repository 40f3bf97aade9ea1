-- `counters_in_group`: all of the indexes.
use Rattle.std.proofs.Common.{rules, tests, arith, ◌∙◌}
use Rattle.std.proofs.lemmas.Iterator.{YieldsList-from_range}
use Rattle.std.proofs.lemmas.Iterator.Search.{all_from_yields_List}
use Rattle.std.proofs.Common.{get_or}
use Rattle.model.specs.Record.{blank_counter}
use Rattle.model.specs.Automaton.{value, counter}
use Rattle.model.specs.Form.{counters_in_group, slot_in_group}
use Rattle.model.proofs.ByIndex.{all_range}
use Rattle.form.proofs.counters_in_group.Goals as goal

pub returns : goal.returns
unfolding counters_in_group
returns c =
    let a = c.args in
    all_from_yields_List (λ i. slot_in_group a.vars (get_or a.counters i blank_counter).greatest (value a.s (counter i)) i) _ _ _ c.all.ensures.ran
    (YieldsList-from_range 0 4 4 (cc) (omega arith)) (λ x b q k. search (rules, tests))
    ∙ all_range (λ i. slot_in_group a.vars (get_or a.counters i blank_counter).greatest (value a.s (counter i)) i) 4
