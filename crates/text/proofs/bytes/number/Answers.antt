-- `number`: no bytes, or more than three, are no number.
use Rattle.std.proofs.Common.{arith}
use Rattle.text.proofs.Laws.Bytewise.{number_of_none}
use Rattle.text.proofs.bytes.number.Goals as goal

pub returns-in_default : goal.returns-in_default
returns-in_default c = number_of_none _ (λ e. omega arith) (λ e. omega arith) (λ e. omega arith)

pub returns-in_default-2 : goal.returns-in_default-2
returns-in_default-2 c = number_of_none _ (λ e. omega arith) (λ e. omega arith) (λ e. omega arith)
