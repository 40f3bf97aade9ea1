-- `variable_number`: what the routine asks stands in the layout.
use Rattle.parts.proofs.LayoutLaws.{totals_of_layout}
use Rattle.parts.proofs.layout.Layout.variable_number.Goals as goal

pub variable_number-requires : goal.variable_number-requires
variable_number-requires c = (c.args.self.now.formed, totals_of_layout c.args.self.now, c.requires.0, c.requires.1)
