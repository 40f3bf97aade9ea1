-- `invariants_fit`: every row fits.
use Rattle.std.proofs.Common.{rules, tests, arith, leb, ◌+◌, ◌∙◌}
use Rattle.std.proofs.lemmas.Iterator.{YieldsList-from_slice}
use Rattle.std.proofs.lemmas.Iterator.Search.{all_from_yields_List}
use Rattle.model.specs.Indexed.{all_below}
use Rattle.model.specs.declared.Invariant.{Invariant}
use Rattle.model.specs.Record.{past_invariant, invariant_at}
use Rattle.model.proofs.FormLaws.{formed}
use Rattle.compose.specs.Composed.{invariants_fit}
use Rattle.compose.specs.Joined.{atom_count}
use Rattle.compose.proofs.Fronts.{front_all, form_of}
use Rattle.compose.proofs.fit.invariants_fit.Goals as goal

pub returns : goal.returns
unfolding invariants_fit
returns c =
    let a = c.args.a.now.model in
    let b = c.args.b.now.model in
    let row = λ (v : Invariant). all_below (λ j. leb (atom_count v.atoms + atom_count (invariant_at b j)) 4) b.locations in
    all_from_yields_List row _ _ _ c.all.ensures.ran (YieldsList-from_slice _ cc) (λ x b q k. search (rules, tests))
    ∙ front_all past_invariant row a.locations a.invariants
    (omega (arith, c.args.a.now.invariants_long, (formed a (form_of c.args.a.now)).locations_le))
