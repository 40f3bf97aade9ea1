-- `next_clocks`: each clock by its index.
use Rattle.std.proofs.Common.{rules, tests}
use Rattle.model.specs.Automaton.{next_clock}
use Rattle.model.proofs.ByIndex.{made_by_index}
use Rattle.model.proofs.State.next_clocks.Goals as goal

pub returns : goal.returns
returns c = made_by_index _ _ (next_clock c.args.e c.args.self) 0 (λ k y q h. search (rules, tests)) _ 4 c.from_fn.ensures.items
