-- How many clauses and words a part of the list has. Neither depends on the numbers of the variables.
use Rattle.std.specs.Prelude.{cond, ℕ, ◌+◌, length}
use Rattle.model.specs.Indexed.{sum_below}
use Rattle.model.specs.Automaton.{meets, shifted}
use Rattle.list.specs.Lists.{to_list}
use Rattle.parts.specs.declared.Rule.{Rule}
use Rattle.parts.specs.declared.Rule.TheVariants.{Exclude, Keep, Rise, Shift, Set, Forbid}
use Rattle.parts.specs.declared.Part.{Part}

-- Clauses of a rule for value v.
abbrev pub rule_count : Rule → ℕ → ℕ
rule_count (Exclude relation constant) v = cond (meets relation v constant) 0 1
rule_count Keep v = 1
rule_count (Rise d top) v = 1
rule_count (Shift offset greatest) v = 1
rule_count (Set u) v = 1
rule_count Forbid v = 1

-- Words of a rule for value v.
abbrev pub rule_words : Rule → ℕ → ℕ
rule_words (Exclude relation constant) v = cond (meets relation v constant) 0 3
rule_words Keep v = 4
rule_words (Rise d top) v = 4
rule_words (Shift offset greatest) v = 3 + length (to_list (shifted offset greatest v))
rule_words (Set u) v = 3
rule_words Forbid v = 2

-- Clauses and words of a part: for each value.
abbrev pub part_count : Part → ℕ
part_count p = sum_below (rule_count p.rule) p.size

abbrev pub part_words : Part → ℕ
part_words p = sum_below (rule_words p.rule) p.size
