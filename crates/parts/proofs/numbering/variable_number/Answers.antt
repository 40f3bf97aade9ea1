-- `variable_number`: no value on the way leaves 16 bits (`in_sixteen_bits`).
use Rattle.std.proofs.Common.{arith}
use Rattle.parts.proofs.NumberingLaws.{way_in}
use Rattle.parts.proofs.numbering.variable_number.Goals as goal

pub overflow_cast-state : goal.overflow_cast-state
overflow_cast-state c = record { fits = omega (arith, (way_in _ _ c.requires.1 c.requires.0 _ _ c.requires.2 c.requires.3).0) }

pub overflow_add-result : goal.overflow_add-result
overflow_add-result c = record { fits = omega (arith, (way_in _ _ c.requires.1 c.requires.0 _ _ c.requires.2 c.requires.3).2) }

pub overflow_cast-result-2 : goal.overflow_cast-result-2
overflow_cast-result-2 c = record { fits = omega (arith, (way_in _ _ c.requires.1 c.requires.0 _ _ c.requires.2 c.requires.3).3) }
