-- `pairs_of`: the loop has added the pairs with the edges so far.
use Rattle.std.proofs.Common.{arith, sym, ◌∙◌, ◌≡◌}
use Rattle.model.specs.Indexed.{each}
use Rattle.model.proofs.FormLaws.{formed}
use Rattle.compose.specs.Moves.{paired, pair_of, pairs_of}
use Rattle.compose.proofs.Adding.{counted, each_start, each_turn, each_skip, pair_here, pair_none}
use Rattle.compose.proofs.Fronts.{form_of}
use Rattle.compose.proofs.MoveCounts.{some_pairs_most}
use Rattle.compose.proofs.moves.pairs_of.Goals as goal
use Rattle.compose.proofs.moves.pairs_of.Goals.{then-paired, else-paired}

pub loop-f-init : goal.loop-f-init
loop-f-init c = each_start _ _

pub bounds-a-e : goal.bounds-a-e
bounds-a-e c = omega (arith, c.requires.1, (formed c.args.a.now.model (form_of c.args.a.now)).used_le)

pub bounds-b-f : goal.bounds-b-f
bounds-b-f c = omega (arith, (formed c.args.b.now.model (form_of c.args.b.now)).used_le)

pub add-moves-requires : goal.add-moves-requires
add-moves-requires c =
    let a = c.args.a.now.model in
    let b = c.args.b.now.model in
    let pairs = pair_of a b c.args.e in
    omega (arith, c.requires.0, counted c.args.list (each c.loop-f.f pairs) c.loop-f.invariant, some_pairs_most a b c.args.e c.loop-f.f)

pub loop-f-preserved : goal.loop-f-preserved
unfolding paired
loop-f-preserved c =
    let loop = c.loop-f in
    let a = c.args.a.now.model in
    let b = c.args.b.now.model in
    let e = c.args.e in
    let told = sym c.paired.ensures in
    elim c.if-paired.branch [
      | then-paired w ↦ each_turn c.args.list (pair_of a b e) loop.f _ loop.invariant (w.moves-is ∙ w.add-moves.ensures)
          (pair_here a b e loop.f (told ∙ w.if-paired.true))
      | else-paired w ↦ each_skip c.args.list (pair_of a b e) loop.f loop.invariant w.moves-is (pair_none a b e loop.f (told ∙ w.if-paired.false))
    ]

pub returns : goal.returns
unfolding pairs_of
returns c = let e : c.loop-f.f ≡ c.args.b.now.model.used = omega arith in
    rw e at c.loop-f.invariant
