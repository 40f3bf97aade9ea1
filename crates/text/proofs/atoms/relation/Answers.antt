-- `relation`: every case of the two bytes decides the definition.
use Rattle.std.proofs.Common.{arith}
use Rattle.std.proofs.lemmas.Grind.{common_steps}
use Rattle.text.specs.atoms.Atoms.{relation_at}
use Rattle.text.proofs.atoms.relation.Goals as goal

pub returns-in_default : goal.returns-in_default
unfolding relation_at
returns-in_default c = grind (arith, common_steps)

pub returns-in_default-2 : goal.returns-in_default-2
unfolding relation_at
returns-in_default-2 c = grind (arith, common_steps)

pub returns-in-60-eq61 : goal.returns-in-60-eq61
unfolding relation_at
returns-in-60-eq61 c = grind (arith, common_steps)

pub returns-in-60-default : goal.returns-in-60-default
unfolding relation_at
returns-in-60-default c = grind (arith, common_steps)

pub returns-in-62-eq61 : goal.returns-in-62-eq61
unfolding relation_at
returns-in-62-eq61 c = grind (arith, common_steps)

pub returns-in-62-default : goal.returns-in-62-default
unfolding relation_at
returns-in-62-default c = grind (arith, common_steps)

pub returns-in-61-default : goal.returns-in-61-default
unfolding relation_at
returns-in-61-default c = grind (arith, common_steps)

pub returns-in-33-eq61 : goal.returns-in-33-eq61
unfolding relation_at
returns-in-33-eq61 c = grind (arith, common_steps)
