-- `initial_counters`: each counter's initial value.
use Rattle.std.proofs.Common.{rules, tests}
use Rattle.model.specs.Record.{blank_counter}
use Rattle.model.specs.declared.Counter.{Counter}
use Rattle.model.proofs.ByIndex.{mapped_by_index}
use Rattle.model.proofs.Model.initial_counters.Goals as goal

pub returns : goal.returns
returns c = mapped_by_index _ _ (λ (x : Counter). x.initial) blank_counter 0 (λ x y q k. search (rules, tests)) _ _ 4 c.map.ensures.items
