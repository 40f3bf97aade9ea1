-- `one_digit`: what the calls ensure is what the definition asks of one byte.
use Rattle.std.proofs.Common.{arith}
use Rattle.std.proofs.lemmas.Grind.{common_steps}
use Rattle.text.specs.bytes.Bytes.{number_of}
use Rattle.text.proofs.bytes.one_digit.Goals as goal

pub returns : goal.returns
unfolding number_of
returns c = grind (arith, common_steps)
