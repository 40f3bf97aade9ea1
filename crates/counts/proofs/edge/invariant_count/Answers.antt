-- `invariant_count`: atom after atom.
use Rattle.std.proofs.Common.{arith, rules, tests, ℕ}
use Rattle.model.specs.Record.{atom_at, invariant_at}
use Rattle.model.proofs.FormLaws.{formed}
use Rattle.parts.specs.Rules.{part_clauses}
use Rattle.parts.specs.PartsOf.{atom_part}
use Rattle.parts.proofs.KnownLaws.{known_bounded}
use Rattle.parts.proofs.LayoutLaws.{known_of_layout}
use Rattle.counts.specs.Counted.{Counted}
use Rattle.counts.proofs.CountLaws.{small_piece}
use Rattle.counts.proofs.CountedList.{location_counted}
use Rattle.counts.proofs.EdgeLaws.{atom_most}
use Rattle.counts.proofs.edge.invariant_count.Goals as goal

pub offset_bounds-l-i : goal.offset_bounds-l-i
offset_bounds-l-i c = let l = c.args.l.now in omega (arith, c.requires, (formed l.model l.formed).locations_le)

pub bounds-l-i : goal.bounds-l-i
bounds-l-i c = let l = c.args.l.now in omega (arith, c.requires, (formed l.model l.formed).locations_le)

pub sum-requires-clause-small : goal.sum-requires-clause-small
sum-requires-clause-small c k r p e =
    let l = c.args.l.now in
    let atom = atom_at (invariant_at l.model c.args.i) k in
    let n : (x o : ℕ) → Counted (part_clauses x (atom_part l.table o atom)) r.clauses r.words = search (rules, tests) in
    let m = atom_most l.table (known_bounded (known_of_layout l)) 0 0 atom in
    small_piece (n 0 0) m (omega arith) (omega arith)

pub returns : goal.returns
returns c = location_counted (known_of_layout c.args.l.now) c.args.i c.requires (λ x o. c.sum.ensures _ (λ i r l e. search (rules, tests)))
