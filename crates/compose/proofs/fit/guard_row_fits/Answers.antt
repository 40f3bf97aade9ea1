-- `guard_row_fits`: the guard with every edge of the second model fits.
use Rattle.std.proofs.Common.{rules, tests, arith, ◌∙◌}
use Rattle.std.proofs.lemmas.Iterator.{YieldsList-from_slice}
use Rattle.std.proofs.lemmas.Iterator.Search.{all_from_yields_List}
use Rattle.model.specs.Record.{past_edge}
use Rattle.model.proofs.FormLaws.{formed}
use Rattle.compose.specs.Composed.{pair_fits}
use Rattle.compose.proofs.Fronts.{front_all, form_of}
use Rattle.compose.proofs.fit.guard_row_fits.Goals as goal

pub returns : goal.returns
returns c =
    let b = c.args.b.now.model in
    let row = pair_fits c.args.a.now.model b c.args.e in
    all_from_yields_List row _ _ _ c.all.ensures.ran (YieldsList-from_slice _ cc) (λ x b q k. search (rules, tests))
    ∙ front_all past_edge row b.used b.edges (omega (arith, c.args.b.now.edges_long, (formed b (form_of c.args.b.now)).used_le))
