-- `groups_count`: group after group.
use Rattle.std.proofs.Common.{arith, rules, tests, ℕ, ◌+◌, ◌≤◌}
use Rattle.list.specs.Clauses.{group_clauses}
use Rattle.parts.proofs.KnownLaws.{at_most_nine, known_small}
use Rattle.parts.proofs.LayoutLaws.{known_of_layout}
use Rattle.parts.specs.StateBlock.{first_at, size_at}
use Rattle.counts.specs.Counted.{Counted}
use Rattle.counts.proofs.CountLaws.{small_piece}
use Rattle.counts.proofs.GroupLaws.{group_32}
use Rattle.counts.proofs.group.groups_count.Goals as goal

pub sum-requires-clause-few : goal.sum-requires-clause-few
sum-requires-clause-few c = omega (arith, at_most_nine (known_of_layout c.args.l.now))

pub sum-requires-clause-callable : goal.sum-requires-clause-callable
sum-requires-clause-callable c g p =
    let l = c.args.l.now in
    let few : size_at l.table g ≤ 64 = omega (arith, known_small (known_of_layout l) g p) in
    search (rules, tests, few)

pub sum-requires-clause-small : goal.sum-requires-clause-small
sum-requires-clause-small c g r p q =
    let l = c.args.l.now in
    let n : (first : ℕ) → Counted (group_clauses first (size_at l.table g)) r.clauses r.words = search (rules, tests) in
    let m = group_32 0 (size_at l.table g) (known_small (known_of_layout l) g p) in
    small_piece (n 0) m (omega arith) (omega arith)

pub returns : goal.returns
returns c o = c.sum.ensures _ (λ g r l e.
    let n : (first : ℕ) → Counted (group_clauses first (size_at c.args.l.now.table g)) r.clauses r.words = search (rules, tests) in n
    (o + first_at c.args.l.now.table g))
