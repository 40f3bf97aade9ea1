-- A part with a clause for each value has as many clauses as values.
use mathlib.Core.Path.{◌≡◌, refl, ◌∙◌}
use Prim.Native.Nat.{ℕ}
use native.Mathlib.Omega.{arith}
use lib.ListN.{length}
use Rattle.model.proofs.IndexedLaws.{length_each, sum_const}
use Rattle.list.specs.Clauses.{Clause, one}
use Rattle.parts.specs.declared.Rule.TheVariants.{Keep, Rise}
use Rattle.parts.specs.Rules.{value_clauses, part_clauses}

pub one_length : (c : Clause) → length (one c) ≡ 1
unfolding one
one_length c = refl

pub keep_length :
    (x before size after into : ℕ) → length (part_clauses x (record { rule = Keep; before = before; size = size; after = after; into = into })) ≡ size
unfolding part_clauses value_clauses
keep_length x before size after into =
    length_each (λ _. 1) size (value_clauses x (record { rule = Keep; before = before; size = size; after = after; into = into })) (λ v. one_length _)
    ∙ omega (arith, sum_const size 1)

pub rise_length : (x before size after into d top : ℕ)
    → length (part_clauses x (record { rule = Rise d top; before = before; size = size; after = after; into = into })) ≡ size
unfolding part_clauses value_clauses
rise_length x before size after into d top =
    length_each (λ _. 1) size (value_clauses x (record { rule = Rise d top; before = before; size = size; after = after; into = into })) (λ v. one_length _)
    ∙ omega (arith, sum_const size 1)
