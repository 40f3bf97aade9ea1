-- The groups and the locations.
use Rattle.std.proofs.Common.{arith}
use Rattle.parts.proofs.KnownLaws.{known_groups, at_most_nine}
use Rattle.parts.proofs.LayoutLaws.{known_of_layout}
use Rattle.emission.proofs.pieces.state_pieces.Goals as goal

pub overflow_add-result : goal.overflow_add-result
overflow_add-result c = omega (arith, at_most_nine (known_of_layout c.args.layout.now))

pub returns : goal.returns
returns c = omega (arith, known_groups (known_of_layout c.args.layout.now))
