-- Literals, clauses and their words; the first layout, a variable for each member of a group; the list of a model and a bound.
use mathlib.Core.List.{List, [], ◌∷◌, ◌++◌, map, flat_map}
use Rattle.std.specs.Prelude.{ℕ, ◌+◌, ◌-◌, ℤ, pos, neg_ℤ}
use Rattle.model.specs.declared.Model.{Model}
use Rattle.model.specs.Indexed.{each}
use Rattle.list.specs.Lists.{to_list}
use Rattle.list.specs.Items.{Member, Item, group, rule, items}

-- A literal: a variable, bare or negated. Variables are counted from 0 here; variable i has the number i + 1, since numbers start at 1.
pub data Literal : Type 0 where
  bare : ℕ → Literal
  negated : ℕ → Literal

-- A clause is a list of literals, one of which must be true.
abbrev pub Clause : Type 0
Clause = List Literal

-- A word is a signed number: that of the variable, or its negative.
abbrev pub word : Literal → ℤ
word (bare i) = pos (i + 1)
word (negated i) = neg_ℤ (pos (i + 1))

-- A clause is its literals and a 0 word.
unfoldable pub clause_words : Clause → List ℤ
clause_words c = map word c ++ (pos 0 ∷ [])

-- The words of a list of clauses, clause after clause.
unfoldable pub words_of : List Clause → List ℤ
words_of [] = []
words_of (c ∷ cs) = clause_words c ++ words_of cs

-- The list of one clause. It is shut, so that a sequence of clauses stays a sequence of pieces.
unfoldable pub one : Clause → List Clause
one c = c ∷ []

-- ---- the first layout
-- A group has a variable for each member.
abbrev pub one_hot_width : ℕ → ℕ
one_hot_width n = n

-- The variable of a member, counted from 0.
abbrev pub variable_of : Member → ℕ
variable_of x = x.base + x.place

-- Group clauses, first part: all members in one clause.
unfoldable pub members : ℕ → ℕ → Clause
members b n = each n (λ v. bare (b + v) ∷ [])

-- Group clauses, second part: each pair of members, both negated, smaller number first, pairs in lexicographic order.
unfoldable pub pairs : ℕ → ℕ → List Clause
pairs b n = each n (λ i. each (n - (i + 1)) (λ j. one (negated (b + i) ∷ negated (b + i + 1 + j) ∷ [])))

-- Group clauses: all members in one clause; then each pair.
unfoldable pub group_clauses : ℕ → ℕ → List Clause
group_clauses b n = one (members b n) ++ pairs b n

-- The clause of a rule: its members negated, in order, then the member that they lead to, if there is one.
abbrev pub rule_clause : List Member → List Member → Clause
rule_clause ms xs = map (λ x. negated (variable_of x)) ms ++ map (λ x. bare (variable_of x)) xs

-- The clauses of an item.
abbrev pub expand : Item → List Clause
expand (group b n) = group_clauses b n
expand (rule ms x) = one (rule_clause ms (to_list x))

-- The clauses of a piece of the list.
abbrev pub clauses_of : List Item → List Clause
clauses_of piece = flat_map expand piece

-- ---- the list for a bound, and its words
-- The list for k.
unfoldable pub clauses : Model → ℕ → List Clause
clauses m k = clauses_of (items one_hot_width m k)

-- The words of the list for k, which an accepted emission writes.
unfoldable pub words : Model → ℕ → List ℤ
words m k = words_of (clauses m k)
