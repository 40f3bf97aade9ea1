-- `Faults::check`: what it answers is the first fault in the order 3, 7, 4, 5, 6.
use Rattle.std.proofs.Common.{rules}
use Rattle.text.specs.bytes.Faulty.{fault_number}
use Rattle.text.proofs.bytes.Faults.check.Goals as goal

pub returns-then-self : goal.returns-then-self
unfolding fault_number
returns-then-self c = search rules

pub returns-then-self-2 : goal.returns-then-self-2
unfolding fault_number
returns-then-self-2 c = search rules

pub returns-then-self-3 : goal.returns-then-self-3
unfolding fault_number
returns-then-self-3 c = search rules

pub returns-then-self-4 : goal.returns-then-self-4
unfolding fault_number
returns-then-self-4 c = search rules

pub returns-then-self-5 : goal.returns-then-self-5
unfolding fault_number
returns-then-self-5 c = search rules

pub returns : goal.returns
unfolding fault_number
returns c = search rules
