-- `guards_fit`: the guards of every edge of the first model fit.
use Rattle.std.proofs.Common.{rules, tests, arith, ◌∙◌}
use Rattle.std.proofs.lemmas.Iterator.{YieldsList-from_slice}
use Rattle.std.proofs.lemmas.Iterator.Search.{all_from_yields_List}
use Rattle.model.specs.Indexed.{all_below}
use Rattle.model.specs.declared.Edge.{Edge}
use Rattle.model.specs.Record.{past_edge, edge_at}
use Rattle.model.proofs.FormLaws.{formed}
use Rattle.compose.specs.Moves.{paired}
use Rattle.compose.specs.Composed.{pair_fits, guards_fit}
use Rattle.compose.proofs.Fronts.{front_all, form_of}
use Rattle.compose.proofs.fit.guards_fit.Goals as goal

pub returns : goal.returns
unfolding guards_fit paired
returns c =
    let a = c.args.a.now.model in
    let b = c.args.b.now.model in
    let rows = λ (e : Edge). all_below (λ f. pair_fits a b e (edge_at b f)) b.used in
    all_from_yields_List rows _ _ _ c.all.ensures.ran (YieldsList-from_slice _ cc) (λ x b q k. search (rules, tests))
    ∙ front_all past_edge rows a.used a.edges (omega (arith, c.args.a.now.edges_long, (formed a (form_of c.args.a.now)).used_le))
