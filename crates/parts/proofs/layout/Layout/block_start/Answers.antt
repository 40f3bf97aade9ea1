-- `block_start`: one less than the number of the block's first variable.
use Rattle.std.proofs.Common.{arith}
use Rattle.parts.proofs.NumberingLaws.{variable_number_lem}
use Rattle.parts.proofs.LayoutLaws.{choice_in_layout}
use Rattle.parts.proofs.layout.Layout.block_start.Goals as goal

pub variable_number-requires : goal.variable_number-requires
variable_number-requires c = (c.requires, omega (arith, choice_in_layout c.args.self.now))

pub overflow_sub-result : goal.overflow_sub-result
overflow_sub-result c = omega (arith, c.variable_number.ensures, variable_number_lem c.args.self.now.model c.args.t 0)

pub returns : goal.returns
returns c = omega (arith, c.variable_number.ensures, variable_number_lem c.args.self.now.model c.args.t 0)
