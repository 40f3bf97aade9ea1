-- `three_digits`: what the calls ensure is what the definition asks of three bytes.
use Rattle.std.proofs.Common.{arith}
use Rattle.std.proofs.lemmas.Grind.{common_steps}
use Rattle.text.specs.bytes.Bytes.{number_of}
use Rattle.text.proofs.bytes.three_digits.Goals as goal

pub returns : goal.returns
unfolding number_of
returns c = grind (arith, common_steps)
