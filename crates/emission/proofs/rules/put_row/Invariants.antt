-- A row of a rule, a value a turn.
use Rattle.parts.specs.Rules.{row_clauses}
use Rattle.emission.specs.Written.{WroteClauses}
use Rattle.emission.proofs.rules.put_row.Given as goal

abbrev pub invariant-loop-v : goal.invariant-loop-v
invariant-loop-v l = WroteClauses (row_clauses l.x l.before l.after l.v l.rule) l.initial.out l.out l.initial.end l.end
