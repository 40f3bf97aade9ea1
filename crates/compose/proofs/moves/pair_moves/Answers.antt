-- `pair_moves`: the loop has added the pairs of the edges so far.
use Rattle.std.proofs.Common.{arith, refl, ◌≡◌}
use Rattle.model.specs.Indexed.{each}
use Rattle.model.proofs.FormLaws.{formed}
use Rattle.compose.specs.Moves.{pairs_of}
use Rattle.compose.proofs.Adding.{counted, each_start, each_turn}
use Rattle.compose.proofs.Fronts.{form_of}
use Rattle.compose.proofs.MoveCounts.{each_most, pairs_most}
use Rattle.compose.proofs.moves.pair_moves.Goals as goal

pub loop-e-init : goal.loop-e-init
loop-e-init c = each_start _ _

pub pairs_of-moves-requires : goal.pairs_of-moves-requires
pairs_of-moves-requires c =
    let e = c.loop-e.e in
    let a = c.args.a.now.model in
    let b = c.args.b.now.model in
    let v = formed a (form_of c.args.a.now) in
    let w = formed b (form_of c.args.b.now) in
    let few = each_most e 32 (pairs_of a b) (λ e. omega (arith, pairs_most a b e, w.used_le)) in
    (omega (arith, c.requires, v.used_le, counted c.args.list (each e (pairs_of a b)) c.loop-e.invariant, few), c.loop-e-test.true)

pub loop-e-preserved : goal.loop-e-preserved
loop-e-preserved c =
    each_turn c.args.list (pairs_of c.args.a.now.model c.args.b.now.model) c.loop-e.e _ c.loop-e.invariant c.pairs_of-moves.ensures refl

pub returns : goal.returns
returns c = let e : c.loop-e.e ≡ c.args.a.now.model.used = omega arith in
    rw e at c.loop-e.invariant
