-- check_value: by the rule of the part, one clause at most.
use Rattle.std.proofs.Common.{rules, ap, subst, ◌≡◌, ◌+◌}
use mathlib.Core.Bool.{not}
use lib.IntN.{ℤ}
use mir.Syntax.{w8}
use mir.Val.{to_z, of_z}
use Rattle.list.specs.Clauses.{negated}
use Rattle.parts.specs.declared.Rule.TheVariants.{Shift}
use Rattle.search.specs.Checking.{Checked}
use Rattle.search.proofs.CheckLaws.{checked_one, one_true}
use Rattle.parts.specs.Rules.{value_clauses, rule_clauses}
use Rattle.search.proofs.truth.check_value.Goals as goal

pub returns-in-Exclude : goal.returns-in-Exclude
unfolding value_clauses
returns-in-Exclude c = rw c.in-Exclude.is c.check_excluded.ensures

pub returns-in-Keep : goal.returns-in-Keep
unfolding value_clauses
returns-in-Keep c = rw c.in-Keep.is (checked_one _ _ _ c.counted.ensures c.both_lead.ensures)

pub returns-in-Rise : goal.returns-in-Rise
unfolding value_clauses
returns-in-Rise c = rw (c.in-Rise.is, ← c.min-u.ensures) (checked_one _ _ _ c.counted-in-Rise.ensures c.both_lead-in-Rise.ensures)

pub returns-in-Shift : goal.returns-in-Shift
unfolding value_clauses
returns-in-Shift c =
    let a = c.args in
    let back : to_z w8 (of_z w8 c.in-Shift.offset) ≡ c.in-Shift.offset = search rules in
    rw c.in-Shift.is (subst
    (λ (z : ℤ). Checked a.a.now (rule_clauses a.x (a.p.before + a.v) a.p.after a.v (Shift z c.in-Shift.greatest)) a.at 1 c.check_shifted.result)
    back c.check_shifted.ensures)

pub returns-in-Set : goal.returns-in-Set
unfolding value_clauses
returns-in-Set c = rw c.in-Set.is (checked_one _ _ _ c.counted-in-Set.ensures c.one_leads.ensures)

pub returns-in-Forbid : goal.returns-in-Forbid
unfolding value_clauses
returns-in-Forbid c = rw c.in-Forbid.is (checked_one _ _ _ c.counted-in-Forbid.ensures (one_true c.args.a.now (negated c.args.x) (ap not c.is_true.ensures)))
