-- `atom_count`: a part is counted at block 0 and has the same count at every other.
use Rattle.std.proofs.Common.{arith, ap, sym, subst, ◌∙◌, ◌≤◌}
use Rattle.parts.specs.declared.Part.{Part}
use Rattle.parts.proofs.KnownLaws.{known_bounded}
use Rattle.parts.proofs.LayoutLaws.{known_of_layout}
use Rattle.counts.specs.PartCounts.{part_count, part_words}
use Rattle.counts.proofs.EdgeLaws.{atom_counted, atom_small}
use Rattle.counts.proofs.edge.atom_count.Goals as goal

pub atom_part-requires : goal.atom_part-requires
atom_part-requires c = (known_bounded (known_of_layout c.args.l.now), omega arith)

pub count_part-requires : goal.count_part-requires
count_part-requires c =
    let l = c.args.l.now in
    subst (λ (q : Part). q.size ≤ 32) (sym c.atom_part.ensures) (atom_small l.table (known_bounded (known_of_layout l)) 0 c.args.atom)

pub returns : goal.returns
returns c x o =
    let n = c.count_part.ensures in
    atom_counted c.args.l.now.table o x c.args.atom (n.0 ∙ ap part_count c.atom_part.ensures) (n.1 ∙ ap part_words c.atom_part.ensures)
