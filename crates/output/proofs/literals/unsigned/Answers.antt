-- `unsigned`: what `strip_prefix` answers at a minus.
use Rattle.output.proofs.WordLaws.{unsigned_is}
use Rattle.output.proofs.literals.unsigned.Goals as goal

pub returns : goal.returns
returns c = unsigned_is c.args.w c.strip_prefix.result c.strip_prefix.ensures.cases c.unwrap_or.ensures
