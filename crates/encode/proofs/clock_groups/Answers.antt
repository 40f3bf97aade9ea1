-- `clock_groups`: the groups that the closure makes, by the index.
use Rattle.std.proofs.Common.{rules, tests, ◌+◌}
use Rattle.model.proofs.ByIndex.{mapped_by_index}
use Rattle.encode.specs.BlockBytes.{no_group}
use Rattle.encode.proofs.clock_groups.Goals as goal

pub returns : goal.returns
returns c = mapped_by_index _ _ (λ v. record { size = c.args.top + 1; value = v }) 0 no_group (λ k y q h. search (rules, tests)) _ _ 4 c.map.ensures.items
