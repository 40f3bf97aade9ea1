-- What a clause leaves, as a number of the definition `left`.
use Rattle.std.specs.Prelude.{ℕ, ◌≤◌, ◌<◌}
use Rattle.refutation.specs.declared.Left.{Left}
use Rattle.refutation.specs.declared.Left.TheVariants.{Nothing, One, Several}

-- 0 for nothing, the literal where only one is left, 1 for more.
abbrev pub left_number : Left → ℕ
left_number Nothing = 0
left_number (One literal) = literal
left_number Several = 1

-- A literal that is left alone is a code below n.
abbrev pub LiteralBelow : Left → ℕ → Type 0
LiteralBelow (One literal) n = (2 ≤ literal) × (literal < n)
LiteralBelow left n = Unit {0}
