-- `guard_constant`: the greatest over the edges, by their indexes.
use Rattle.std.proofs.Common.{rules, tests, max, ◌∙◌}
use Rattle.std.proofs.lemmas.Iterator.{YieldsList-from_slice}
use Rattle.std.proofs.lemmas.Iterator.Consumers.{fold_from_yields_List}
use Rattle.model.specs.Automaton.{greatest_constant}
use Rattle.model.specs.Record.{past_edge}
use Rattle.model.specs.declared.Edge.{Edge}
use Rattle.model.proofs.ByIndex.{max_by_index}
use Rattle.model.proofs.Known.{lengths}
use Rattle.model.proofs.Model.guard_constant.Goals as goal

pub returns : goal.returns
returns c =
    let m = c.args.self in
    fold_from_yields_List _ (λ a (e : Edge). max a (greatest_constant e.guard)) 0 _ c.fold.ensures.ran (YieldsList-from_slice m.edges cc)
    (λ a x b q k. search (rules, tests))
    ∙ rw (lengths m _ c.well_formed.0).edges at (max_by_index past_edge (λ e. greatest_constant e.guard) m.edges)
