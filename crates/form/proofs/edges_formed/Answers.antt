-- `edges_formed`: all of the slots, each with its index.
use Rattle.std.proofs.Common.{rules, tests, ◌∙◌}
use Rattle.std.proofs.lemmas.Iterator.{YieldsList-from_slice}
use Rattle.std.proofs.lemmas.Iterator.Consumers.{YieldsList-from_enumerate}
use Rattle.std.proofs.lemmas.Iterator.Search.{all_from_yields_List}
use Rattle.std.proofs.Common.{cond, ltb}
use Rattle.model.specs.Record.{past_edge}
use Rattle.model.specs.Form.{edges_formed, edge_formed, is_blank_edge}
use Rattle.model.proofs.Known.{lengths}
use Rattle.model.proofs.ByIndex.{all_enumerated}
use Rattle.form.proofs.edges_formed.Goals as goal

pub returns : goal.returns
unfolding edges_formed
returns c =
    let a = c.args in
    let slots = a.m.edges in
    all_from_yields_List (λ q. cond (ltb q.0 a.m.used) (edge_formed a.m.locations a.m.clocks a.m.vars q.1) (is_blank_edge q.1)) _ _ _
    c.all.ensures.ran (YieldsList-from_enumerate (YieldsList-from_slice slots cc) cc) (λ x b q k. search (rules, tests))
    ∙ rw (lengths a.m _ c.well_formed.0).edges at
    (all_enumerated past_edge (λ i x. cond (ltb i a.m.used) (edge_formed a.m.locations a.m.clocks a.m.vars x) (is_blank_edge x)) slots)
