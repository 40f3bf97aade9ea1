-- `all_hold`: all of the slots, by their indexes.
use Rattle.std.proofs.Common.{rules, tests, ◌∙◌}
use Rattle.std.proofs.lemmas.Iterator.{YieldsList-from_slice}
use Rattle.std.proofs.lemmas.Iterator.Search.{all_from_yields_List}
use Rattle.model.specs.Automaton.{all_hold, atom_holds}
use Rattle.model.specs.Record.{blank_atom}
use Rattle.model.proofs.ByIndex.{all_by_index}
use Rattle.model.proofs.atoms.all_hold.Goals as goal

pub returns : goal.returns
unfolding all_hold
returns c =
    let a = c.args in
    let long = c.well_formed.0.1.0.1 in
    all_from_yields_List (atom_holds a.s) _ _ _ c.all.ensures.ran (YieldsList-from_slice a.atoms cc) (λ x b q k. search (rules, tests))
    ∙ rw long at (all_by_index blank_atom (atom_holds a.s) a.atoms)
