-- The clauses of a rule for a value, rule by rule.
use Rattle.std.proofs.Common.{arith, sym, ap, ◌∙◌, ◌≡◌, [], ◌∷◌, Bool, cond}
use Rattle.list.specs.Clauses.{negated, one}
use Rattle.parts.specs.Rules.{rule_clauses}
use Rattle.emission.proofs.ClauseLaws.{wrote_none, wrote_as}
use Rattle.emission.proofs.rules.put_value.Goals as goal

pub returns-then-holds : goal.returns-then-holds
returns-then-holds c =
    let a = c.args in
    let none : rule_clauses a.x a.y a.after a.v a.rule ≡ [] =
    ap (rule_clauses a.x a.y a.after a.v) c.in-Exclude.is
    ∙ ap (λ (t : Bool). cond t [] (one (negated a.x ∷ negated a.y ∷ []))) (sym c.holds.ensures ∙ c.if-holds.true) in
    wrote_as none (wrote_none _ _ (omega (arith, c.requires.4.words.room)))
