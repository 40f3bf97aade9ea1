-- `invariant_row_fits`: every invariant has room for n atoms more.
use Rattle.std.proofs.Common.{rules, tests, arith, leb, ◌+◌, ◌∙◌}
use Rattle.std.proofs.lemmas.Iterator.{YieldsList-from_slice}
use Rattle.std.proofs.lemmas.Iterator.Search.{all_from_yields_List}
use Rattle.model.specs.declared.Invariant.{Invariant}
use Rattle.model.specs.Record.{past_invariant}
use Rattle.model.proofs.FormLaws.{formed}
use Rattle.compose.specs.Joined.{atom_count}
use Rattle.compose.proofs.Fronts.{front_all, form_of}
use Rattle.compose.proofs.fit.invariant_row_fits.Goals as goal

pub returns : goal.returns
returns c =
    let b = c.args.b.now.model in
    let room = λ (v : Invariant). leb (c.args.n + atom_count v.atoms) 4 in
    all_from_yields_List room _ _ _ c.all.ensures.ran (YieldsList-from_slice _ cc) (λ x b q k. search (rules, tests))
    ∙ front_all past_invariant room b.locations b.invariants
    (omega (arith, c.args.b.now.invariants_long, (formed b (form_of c.args.b.now)).locations_le))
