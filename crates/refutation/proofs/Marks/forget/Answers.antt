-- `forget`: every mark is at most the old stamp, so below the next one; a cleared table is below 1.
use Rattle.std.proofs.Common.{arith}
use Rattle.std.proofs.lemmas.Grind.{common_steps}
use Rattle.refutation.proofs.Laws.{shows_none}
use Rattle.refutation.proofs.Marks.forget.Goals as goal

pub returns-then-self-lt255-clause-shows : goal.returns-then-self-lt255-clause-shows
returns-then-self-lt255-clause-shows c = shows_none _ _ (λ d. omega (arith, c.args.self.now.most d))

pub returns-else-self-lt255-clause-shows : goal.returns-else-self-lt255-clause-shows
returns-else-self-lt255-clause-shows c = shows_none _ _ (λ d. grind (arith, common_steps, c.fill.ensures.last))
