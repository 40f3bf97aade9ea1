-- `each_formed`: all of the slots, by their indexes.
use Rattle.std.proofs.Common.{rules, tests, ◌∙◌}
use Rattle.std.proofs.lemmas.Iterator.{YieldsList-from_slice}
use Rattle.std.proofs.lemmas.Iterator.Search.{all_from_yields_List}
use Rattle.model.specs.Record.{blank_atom}
use Rattle.model.specs.Form.{each_formed, atom_formed}
use Rattle.model.proofs.ByIndex.{all_by_index}
use Rattle.form.proofs.each_formed.Goals as goal

pub returns : goal.returns
unfolding each_formed
returns c =
    let a = c.args in
    all_from_yields_List (atom_formed a.clocks a.vars) _ _ _ c.all.ensures.ran (YieldsList-from_slice a.atoms cc) (λ x b q k. search (rules, tests))
    ∙ rw c.well_formed.0.1.0.1 at (all_by_index blank_atom (atom_formed a.clocks a.vars) a.atoms)
