-- `delayed`: each clock by its index.
use Rattle.std.proofs.Common.{rules, tests, ap, List, ℕ}
use Rattle.model.specs.Automaton.{delayed, delayed_clock}
use Rattle.model.proofs.ByIndex.{made_by_index}
use Rattle.model.proofs.State.delayed.Goals as goal

pub returns : goal.returns
unfolding delayed
returns c =
    let a = c.args in
    ap (λ (l : List ℕ). record { location = a.self.location; counters = a.self.counters; clocks = l })
    (made_by_index _ _ (delayed_clock a.clocks a.top a.d a.self) 0 (λ k y q h. search (rules, tests)) _ 4 c.from_fn.ensures.items)
