-- `edge_count`: part after part.
use Rattle.std.proofs.Common.{arith, rules, tests, ℕ}
use Rattle.model.specs.Record.{edge_at}
use Rattle.model.proofs.FormLaws.{formed}
use Rattle.parts.proofs.KnownLaws.{known_bounded, at_most_nine}
use Rattle.parts.proofs.LayoutLaws.{known_of_layout}
use Rattle.parts.specs.Pieces.{edge_piece}
use Rattle.parts.specs.PartsOf.{edge_part}
use Rattle.counts.specs.Counted.{Counted}
use Rattle.counts.proofs.CountLaws.{small_piece}
use Rattle.counts.proofs.CountedList.{edge_counted}
use Rattle.counts.proofs.EdgeLaws.{edge_small}
use Rattle.counts.proofs.PartLaws.{part_most}
use Rattle.counts.proofs.edge.edge_count.Goals as goal

pub offset_bounds-l-i : goal.offset_bounds-l-i
offset_bounds-l-i c = let l = c.args.l.now in omega (arith, c.requires, (formed l.model l.formed).used_le)

pub bounds-l-i : goal.bounds-l-i
bounds-l-i c = let l = c.args.l.now in omega (arith, c.requires, (formed l.model l.formed).used_le)

pub overflow_add-l : goal.overflow_add-l
overflow_add-l c = record { fits = omega (arith, at_most_nine (known_of_layout c.args.l.now)) }

pub sum-requires-clause-few : goal.sum-requires-clause-few
sum-requires-clause-few c = omega (arith, at_most_nine (known_of_layout c.args.l.now))

pub sum-requires-clause-small : goal.sum-requires-clause-small
sum-requires-clause-small c j r p q =
    let l = c.args.l.now in
    let e = edge_at l.model c.args.i in
    let n : (x o : ℕ) → Counted (edge_piece x l.table e o j) r.clauses r.words = search (rules, tests) in
    let m = part_most 0 (edge_part l.table e 0 j) (edge_small l.table (known_bounded (known_of_layout l)) 0 e j) in
    small_piece (n 0 0) m (omega arith) (omega arith)

pub returns : goal.returns
returns c = edge_counted (known_of_layout c.args.l.now) c.args.i c.requires (λ x o. c.sum.ensures _ (λ i r l e. search (rules, tests)))
