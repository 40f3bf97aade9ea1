-- `bears`: some edge of the declared ones bears the label.
use Rattle.std.proofs.Common.{rules, tests, arith, ◌∙◌}
use Rattle.std.proofs.lemmas.Iterator.{YieldsList-from_slice}
use Rattle.std.proofs.lemmas.Iterator.Search.{any_from_yields_List}
use lib.Dec.{eqb}
use Rattle.model.specs.declared.Edge.{Edge}
use Rattle.model.specs.Record.{past_edge}
use Rattle.model.proofs.FormLaws.{formed}
use Rattle.compose.specs.Moves.{bears}
use Rattle.compose.proofs.Fronts.{front_any, form_of}
use Rattle.compose.proofs.moves.bears.Goals as goal

pub returns : goal.returns
unfolding bears
returns c =
    let m = c.args.m.now.model in
    any_from_yields_List (λ (e : Edge). eqb e.label c.args.label) _ _ _ c.any.ensures.ran (YieldsList-from_slice _ cc) (λ x b q k. search (rules, tests))
    ∙ front_any past_edge (λ (e : Edge). eqb e.label c.args.label) m.used m.edges
    (omega (arith, c.args.m.now.edges_long, (formed m (form_of c.args.m.now)).used_le))
