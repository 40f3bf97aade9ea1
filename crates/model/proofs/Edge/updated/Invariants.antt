-- `updated`: so far every listed update gave the counters; the first that leaves its range makes the answer.
use Rattle.std.proofs.Common.{◌≡◌, Some}
use Rattle.model.specs.Automaton.{updated}
use Rattle.model.proofs.Edge.updated.Given as goal

abbrev pub invariant-loop-counter : goal.invariant-loop-counter
invariant-loop-counter l = updated l.fn.counters l.fn.self l.fn.values l.counter-index ≡ Some l.now
