-- `count` edges from edge `from` on, an edge a turn.
use Rattle.std.proofs.Common.{arith, ◌≡◌}
use Rattle.parts.proofs.KnownLaws.{wf}
use Rattle.parts.proofs.LayoutLaws.{known_of_layout}
use Rattle.emission.proofs.ClauseLaws.{wrote_each, wrote_each_none, room_each}
use Rattle.emission.proofs.edge.put_edges.Goals as goal

pub overflow_add-from : goal.overflow_add-from
overflow_add-from c = omega (arith, c.loop-i-test.true, c.requires.1, (wf (known_of_layout c.args.layout.now)).used_le)

pub loop-i-init : goal.loop-i-init
loop-i-init c = wrote_each_none _ _ _ (omega (arith, c.requires.2.words.room))

pub put_edge-end-requires : goal.put_edge-end-requires
put_edge-end-requires c =
    (c.requires.0, omega (arith, c.loop-i-test.true), room_each _ _ _ c.loop-i.invariant c.loop-i-test.true c.requires.2)

pub loop-i-preserved : goal.loop-i-preserved
loop-i-preserved c = wrote_each _ _ c.loop-i.invariant c.put_edge-end.ensures

pub returns : goal.returns
returns c =
    let done : c.loop-i.i ≡ c.args.count = omega (arith, c.loop-i-test.false, c.loop-i.auto.i-end) in
    rw done at c.loop-i.invariant
