-- `counters`: each slot is the first's, or the second's.
use Rattle.std.proofs.Common.{rules, tests}
use Rattle.model.specs.Record.{counter_at}
use Rattle.compose.specs.Composed.{joined_counters}
use Rattle.compose.proofs.pair.Pair.counters.Goals as goal

pub returns : goal.returns
unfolding joined_counters
returns c = c.joined.ensures (counter_at c.args.self.now.a.model) (counter_at c.args.self.now.b.model) (λ k x l h. search (rules, tests))
    (λ k x l h. search (rules, tests))
