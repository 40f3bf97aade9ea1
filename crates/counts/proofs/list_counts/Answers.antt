-- `list_counts`: start, the bound times a step, end; every sum on the way is at most the total, and that has its bound.
use Rattle.std.proofs.Common.{arith, ℕ, ◌+◌, ◌*◌, ◌≤◌, ap, ◌≡◌}
use Rattle.model.proofs.FormLaws.{formed, variables_le}
use Rattle.parts.specs.Numbering.{most_variables}
use Rattle.parts.specs.declared.layout.Layout.{Layout}
use Rattle.parts.proofs.KnownLaws.{at_most_nine}
use Rattle.parts.proofs.LayoutLaws.{known_of_layout, totals_of_layout}
use Rattle.counts.specs.KnownCounts.{most_clauses, most_words}
use Rattle.counts.proofs.CountLaws.{clauses_le, words_le, counted_is}
use Rattle.counts.proofs.CountedList.{list_counted, list_words, known_variables}
use Rattle.counts.proofs.PieceBounds.{state_most, moves_most, list_most}
use Rattle.counts.proofs.list_counts.Goals as goal
use Rattle.counts.proofs.list_counts.Goals.{After-add-step}

-- the bound times a step, by the counts of its two parts
steps : (c : After-add-step) → let n = c.args.bound in let s = c.state_count-state.result in let t = c.moves_count.result in
    (n * c.add-step.result.clauses ≡ n * (t.clauses + s.clauses)) × (n * c.add-step.result.words ≡ n * (t.words + s.words))
steps c = (ap (λ (x : ℕ). c.args.bound * x) c.add-step.ensures.0, ap (λ (x : ℕ). c.args.bound * x) c.add-step.ensures.1)

-- the whole list
most : (c : After-add-step) → let n = c.args.bound in let s = c.state_count-state.result in let t = c.moves_count.result in let g = c.args.l.now.table.groups in
    (s.clauses + g + n * (t.clauses + s.clauses) + 1 ≤ most_clauses) × (s.words + g * 2 + n * (t.words + s.words) + 2 ≤ most_words)
most c =
    let l = c.args.l.now in
    let n = list_counted (known_of_layout l) c.args.bound c.state_count-state.ensures c.moves_count.ensures in
    let m = list_most l.model l.formed c.args.bound c.requires in
    (clauses_le n m, words_le n m)

variables_most : (l : Layout) (k : ℕ) → k ≤ 64 → l.totals.state + k * (l.totals.state + l.totals.choices) ≤ most_variables
variables_most l k h = omega (arith, known_variables l.model l.totals (totals_of_layout l) k, variables_le l.model (formed l.model l.formed) k h)

pub add-step-requires : goal.add-step-requires
add-step-requires c =
    let l = c.args.l.now in
    let s = state_most l.model l.formed 0 in
    let t = moves_most l.model l.formed 0 in
    let p = c.state_count-state.ensures 0 in
    let q = c.moves_count.ensures 0 in
    (omega (arith, clauses_le p s, clauses_le q t), omega (arith, words_le p s, words_le q t))

pub overflow_mul-initial : goal.overflow_mul-initial
overflow_mul-initial c = record { fits = omega (arith, at_most_nine (known_of_layout c.args.l.now)) }

pub add-requires : goal.add-requires
add-requires c =
    let n = most (goal.at.add-requires c).After-add-step in
    (omega (arith, n.0), omega (arith, n.1))

pub times-requires : goal.times-requires
times-requires c =
    let k = (goal.at.times-requires c).After-add-step in
    (omega (arith, (most k).0, (steps k).0), omega (arith, (most k).1, (steps k).1))

pub add-requires-2 : goal.add-requires-2
add-requires-2 c =
    let k = (goal.at.add-requires-2 c).After-add-step in
    (omega (arith, (most k).0, (steps k).0, c.add.ensures.0, c.times.ensures.0), omega (arith, (most k).1, (steps k).1, c.add.ensures.1, c.times.ensures.1))

pub add-all-requires : goal.add-all-requires
add-all-requires c =
    let k = (goal.at.add-all-requires c).After-add-step in (
      omega (arith, (most k).0, (steps k).0, c.add.ensures.0, c.times.ensures.0, c.add-2.ensures.0),
      omega (arith, (most k).1, (steps k).1, c.add.ensures.1, c.times.ensures.1, c.add-2.ensures.1),
    )

pub overflow_add-result : goal.overflow_add-result
overflow_add-result c =
    let z = totals_of_layout c.args.l.now in
    record { fits = omega (arith, z.state_most, z.choices_most) }

pub overflow_mul-result : goal.overflow_mul-result
overflow_mul-result c = record { fits = omega (arith, variables_most c.args.l.now c.args.bound c.requires) }

pub overflow_add-result-2 : goal.overflow_add-result-2
overflow_add-result-2 c = record { fits = omega (arith, variables_most c.args.l.now c.args.bound c.requires) }

pub returns : goal.returns
returns c =
    let l = c.args.l.now in
    let k = (goal.at.returns c).After-add-step in
    let m = list_most l.model l.formed c.args.bound c.requires in
    let n = counted_is (list_counted (known_of_layout l) c.args.bound c.state_count-state.ensures c.moves_count.ensures)
    (omega (arith, (steps k).0, c.add.ensures.0, c.times.ensures.0, c.add-2.ensures.0, c.add-all.ensures.0))
    (omega (arith, (steps k).1, c.add.ensures.1, c.times.ensures.1, c.add-2.ensures.1, c.add-all.ensures.1)) in
    record {
      variables = known_variables l.model l.totals (totals_of_layout l) c.args.bound;
      clauses = n.clauses_are;
      words = list_words l.model c.args.bound n;
      variables_most = variables_most l c.args.bound c.requires;
      clauses_most = clauses_le n m;
      words_most = words_le n m;
    }
