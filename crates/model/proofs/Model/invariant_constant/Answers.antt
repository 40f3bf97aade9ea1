-- `invariant_constant`: the greatest over the invariants, by their indexes.
use Rattle.std.proofs.Common.{rules, tests, max, ◌∙◌}
use Rattle.std.proofs.lemmas.Iterator.{YieldsList-from_slice}
use Rattle.std.proofs.lemmas.Iterator.Consumers.{fold_from_yields_List}
use Rattle.model.specs.Automaton.{greatest_constant}
use Rattle.model.specs.Record.{past_invariant}
use Rattle.model.specs.declared.Invariant.{Invariant}
use Rattle.model.proofs.ByIndex.{max_by_index}
use Rattle.model.proofs.Known.{lengths}
use Rattle.model.proofs.Model.invariant_constant.Goals as goal

pub returns : goal.returns
returns c =
    let m = c.args.self in
    fold_from_yields_List _ (λ a (v : Invariant). max a (greatest_constant v.atoms)) 0 _ c.fold.ensures.ran (YieldsList-from_slice m.invariants cc)
    (λ a x b q k. search (rules, tests))
    ∙ rw (lengths m _ c.well_formed.0).invariants at (max_by_index past_invariant (λ v. greatest_constant v.atoms) m.invariants)
