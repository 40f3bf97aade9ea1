-- members_true: a chain over the bytes of the group, and the literals of its clause.
use Rattle.std.proofs.Common.{arith, rules, tests, ap, ◌∙◌, ◌≡◌, ◌+◌, ◌-◌, ℕ, take, drop}
use Rattle.std.specs.List.{list_any}
use Rattle.std.proofs.lemmas.Iterator.Search.{any_from_yields_List}
use Rattle.std.proofs.lemmas.Iterator.{YieldsList-from_slice}
use lib.Dec.{eqb}
use Rattle.search.proofs.CheckLaws.{members_is}
use Rattle.search.proofs.truth.members_true.Goals as goal

pub returns : goal.returns
returns c =
    let same : c.args.b + c.args.n - c.args.b ≡ c.args.n = omega arith in
    any_from_yields_List (λ x. eqb x 1) _ _ _ c.any.ensures.ran (YieldsList-from_slice _ c.iter.ensures.rest) (λ a b q k. search (rules, tests))
    ∙ ap (λ (k : ℕ). list_any (λ x. eqb x 1) (take k (drop c.args.b c.args.a.now))) same
    ∙ members_is c.args.a.now c.args.b c.args.n c.requires
