-- `is_hyphen`: a list of one byte is its first byte; no other list is a hyphen.
use Rattle.std.proofs.Common.{arith}
use Rattle.text.proofs.Laws.Bytewise.{is_hyphen_one, is_hyphen_more}
use Rattle.text.proofs.bytes.is_hyphen.Goals as goal

pub returns-in_default : goal.returns-in_default
returns-in_default c = is_hyphen_more _ (λ e. omega arith)

pub returns-in-len1 : goal.returns-in-len1
returns-in-len1 c = is_hyphen_one _ (omega arith)

pub returns-in_default-2 : goal.returns-in_default-2
returns-in_default-2 c = is_hyphen_more _ (λ e. omega arith)
