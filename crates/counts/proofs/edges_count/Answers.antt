-- `edges_count`: edge after edge.
use Rattle.std.proofs.Common.{arith, rules, tests, ℕ}
use Rattle.list.specs.Items.{edge_of}
use Rattle.list.specs.Clauses.{one_hot_width, clauses_of}
use Rattle.model.proofs.FormLaws.{formed}
use Rattle.parts.proofs.LayoutLaws.{known_of_layout}
use Rattle.counts.specs.Counted.{Counted}
use Rattle.counts.proofs.CountLaws.{small_piece}
use Rattle.counts.proofs.CountedList.{edges_counted}
use Rattle.counts.proofs.PieceBounds.{edge_most}
use Rattle.counts.proofs.edges_count.Goals as goal

pub sum-requires-clause-few : goal.sum-requires-clause-few
sum-requires-clause-few c = let l = c.args.l.now in omega (arith, (formed l.model l.formed).used_le)

pub sum-requires-clause-small : goal.sum-requires-clause-small
sum-requires-clause-small c i r p q =
    let l = c.args.l.now in
    let n : (o : ℕ) → Counted (clauses_of (edge_of one_hot_width l.model o i)) r.clauses r.words = search (rules, tests) in
    let m = edge_most l.model l.formed 0 i p in
    small_piece (n 0) m (omega arith) (omega arith)

pub returns : goal.returns
returns c o = edges_counted (known_of_layout c.args.l.now) o (c.sum.ensures _ (λ i r l e. search (rules, tests)))
