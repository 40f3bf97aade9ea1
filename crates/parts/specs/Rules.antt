-- A part of the clause list: the clauses of one rule, for each value of a group, under the choice or location whose variable is x.
use Rattle.std.specs.Prelude.{cond, List, [], ◌∷◌, map, ℕ, ◌+◌, ◌≤◌, min}
use Rattle.model.specs.Indexed.{each}
use Rattle.model.specs.Automaton.{meets, shifted}
use Rattle.list.specs.Lists.{to_list}
use Rattle.list.specs.Clauses.{bare, negated, Clause, one}
use Rattle.parts.specs.declared.Rule.{Rule}
use Rattle.parts.specs.declared.Rule.TheVariants.{Exclude, Keep, Rise, Shift, Set, Forbid}
use Rattle.parts.specs.declared.Part.{Part}

-- The clauses of a rule for value v, whose variable before is y; `after` is the first variable of the group after.
-- Exclude: not x, not a value that fails the comparison. Keep, Rise, Shift: not x, not the value, what becomes of it, if that lies in range.
-- Set: not x, the value set. Forbid: not x.
abbrev pub rule_clauses : ℕ → ℕ → ℕ → ℕ → Rule → List Clause
rule_clauses x y after v (Exclude relation constant) = cond (meets relation v constant) [] (one (negated x ∷ negated y ∷ []))
rule_clauses x y after v Keep = one (negated x ∷ negated y ∷ bare (after + v) ∷ [])
rule_clauses x y after v (Rise d top) = one (negated x ∷ negated y ∷ bare (after + min (v + d) top) ∷ [])
rule_clauses x y after v (Shift offset greatest) = one (negated x ∷ negated y ∷ map (λ u. bare (after + u)) (to_list (shifted offset greatest v)))
rule_clauses x y after v (Set u) = one (negated x ∷ bare (after + u) ∷ [])
rule_clauses x y after v Forbid = one (negated x ∷ [])

-- The clauses of a rule for each of n values, whose variables begin at `before`.
abbrev pub row_clauses : ℕ → ℕ → ℕ → ℕ → Rule → List Clause
row_clauses x before after n rule = each n (λ v. rule_clauses x (before + v) after v rule)

-- The clauses of a part for value v.
unfoldable pub value_clauses : ℕ → Part → ℕ → List Clause
value_clauses x p v = rule_clauses x (p.before + v) p.after v p.rule

-- The clauses of a part: for each value.
unfoldable pub part_clauses : ℕ → Part → List Clause
part_clauses x p = each p.size (value_clauses x p)

-- How many variables of the group after a rule reaches, where the group before has n members.
abbrev pub reach : ℕ → Rule → ℕ
reach n (Exclude relation constant) = 0
reach n Keep = n
reach n (Rise d top) = top + 1
reach n (Shift offset greatest) = greatest + 1
reach n (Set u) = u + 1
reach n Forbid = 0

-- The part has at most 32 values and its variables lie below n.
pub record Fits (p : Part) (n : ℕ) : Type 0 where
  pub size_le : p.size ≤ 32
  pub before_in : p.before + p.size ≤ n
  pub after_in : p.after + reach p.size p.rule ≤ n
