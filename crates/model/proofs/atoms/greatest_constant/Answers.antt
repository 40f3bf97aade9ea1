-- `greatest_constant`: the greatest over the slots, by their indexes.
use Rattle.std.proofs.Common.{rules, tests, max, ◌∙◌}
use Rattle.std.proofs.lemmas.Iterator.{YieldsList-from_slice}
use Rattle.std.proofs.lemmas.Iterator.Consumers.{fold_from_yields_List}
use Rattle.model.specs.Automaton.{greatest_constant, clock_constant}
use Rattle.model.specs.Record.{blank_atom}
use Rattle.model.proofs.ByIndex.{max_by_index}
use Rattle.model.proofs.atoms.greatest_constant.Goals as goal

pub returns : goal.returns
unfolding greatest_constant
returns c =
    let atoms = c.args.atoms in
    fold_from_yields_List _ (λ m a. max m (clock_constant a)) 0 _ c.fold.ensures.ran (YieldsList-from_slice atoms cc) (λ a x b q k. search (rules, tests))
    ∙ rw c.well_formed.0.1.0.1 at (max_by_index blank_atom clock_constant atoms)
