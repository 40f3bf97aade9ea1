-- `group_count`: a clause of all members and half of n (n - 1) pairs, by the law of a group.
use Rattle.counts.proofs.GroupLaws.{counted_group}
use Rattle.counts.proofs.group.group_count.Goals as goal

pub returns : goal.returns
returns c = λ first. counted_group first c.args.n
