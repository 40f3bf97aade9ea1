-- `counter_groups`: the groups that the closure makes, by the index.
use Rattle.std.proofs.Common.{rules, tests}
use Rattle.model.proofs.ByIndex.{made_by_index}
use Rattle.encode.specs.BlockBytes.{counter_group, no_group}
use Rattle.encode.proofs.counter_groups.Goals as goal

pub returns : goal.returns
returns c = made_by_index _ _ (counter_group c.args.m.counters c.args.s.counters) no_group (λ k y q h. search (rules, tests)) _ 4 c.from_fn.ensures.items
