-- `invariants_formed`: all of the slots, each with its index.
use Rattle.std.proofs.Common.{rules, tests, ◌∙◌}
use Rattle.std.proofs.lemmas.Iterator.{YieldsList-from_slice}
use Rattle.std.proofs.lemmas.Iterator.Consumers.{YieldsList-from_enumerate}
use Rattle.std.proofs.lemmas.Iterator.Search.{all_from_yields_List}
use Rattle.std.proofs.Common.{cond, ltb}
use Rattle.model.specs.Record.{past_invariant}
use Rattle.model.specs.Form.{invariants_formed, atoms_formed}
use Rattle.model.proofs.Known.{lengths}
use Rattle.model.proofs.ByIndex.{all_enumerated}
use Rattle.form.proofs.invariants_formed.Goals as goal

pub returns : goal.returns
unfolding invariants_formed
returns c =
    let a = c.args in
    let slots = a.m.invariants in
    all_from_yields_List (λ q. cond (ltb q.0 a.m.locations) (atoms_formed a.m.clocks 0 q.1.atoms) (atoms_formed 0 0 q.1.atoms)) _ _ _
    c.all.ensures.ran (YieldsList-from_enumerate (YieldsList-from_slice slots cc) cc) (λ x b q k. search (rules, tests))
    ∙ rw (lengths a.m _ c.well_formed.0).invariants at
    (all_enumerated past_invariant (λ i x. cond (ltb i a.m.locations) (atoms_formed a.m.clocks 0 x.atoms) (atoms_formed 0 0 x.atoms)) slots)
