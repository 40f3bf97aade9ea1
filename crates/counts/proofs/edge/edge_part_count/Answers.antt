-- `edge_part_count`: a part is counted at block 0 and has the same count at every other.
use Rattle.std.proofs.Common.{arith, ap, sym, subst, ◌∙◌, ◌≤◌}
use Rattle.parts.specs.declared.Part.{Part}
use Rattle.parts.proofs.KnownLaws.{known_bounded}
use Rattle.parts.proofs.LayoutLaws.{known_of_layout}
use Rattle.counts.specs.PartCounts.{part_count, part_words}
use Rattle.counts.proofs.EdgeLaws.{edge_part_counted, edge_small}
use Rattle.counts.proofs.edge.edge_part_count.Goals as goal

pub edge_part-requires : goal.edge_part-requires
edge_part-requires c = (known_bounded (known_of_layout c.args.l.now), omega arith, c.requires)

pub count_part-requires : goal.count_part-requires
count_part-requires c =
    let l = c.args.l.now in
    subst (λ (q : Part). q.size ≤ 32) (sym c.edge_part.ensures) (edge_small l.table (known_bounded (known_of_layout l)) 0 c.args.e.now c.args.j)

pub returns : goal.returns
returns c x o =
    let n = c.count_part.ensures in
    edge_part_counted c.args.l.now.table o x c.args.e.now c.args.j (n.0 ∙ ap part_count c.edge_part.ensures) (n.1 ∙ ap part_words c.edge_part.ensures)
