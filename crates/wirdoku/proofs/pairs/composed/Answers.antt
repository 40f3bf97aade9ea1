-- `composed`: what `compose` answers.
use Rattle.std.proofs.Common.{ap, sym, ◌∙◌}
use Rattle.std.specs.Prelude.{Result}
use Rattle.model.specs.declared.Model.{Model}
use Rattle.compose.specs.ComposeCall.{compose_told}
use Rattle.compose.specs.declared.ComposeRefusal.{ComposeRefusal}
use Rattle.wirdoku.specs.PairCall.{pair_composed}
use Rattle.wirdoku.proofs.pairs.composed.Goals as goal

pub returns-in-Ok : goal.returns-in-Ok
returns-in-Ok c = ap (λ (x : Result Model ComposeRefusal). pair_composed (compose_told x)) (sym c.in-Ok.is) ∙ ap pair_composed c.compose.ensures

pub returns-in-Err : goal.returns-in-Err
returns-in-Err c = ap (λ (x : Result Model ComposeRefusal). pair_composed (compose_told x)) (sym c.in-Err.is) ∙ ap pair_composed c.compose.ensures
