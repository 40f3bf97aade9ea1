-- What an atom compares, in a model of so many counters.
use Rattle.std.specs.Prelude.{ℕ, ◌+◌, Option, Some, None}
use Rattle.model.specs.declared.Atom.{Atom}
use Rattle.model.specs.declared.Atom.TheVariants.{Blank, OnClock, OnCounter}
use Rattle.emission.specs.declared.state.Comparison.{Comparison}

-- Its group, and with what; a blank slot compares nothing.
abbrev pub comparison : ℕ → Atom → Option Comparison
comparison vars Blank = None
comparison vars (OnClock x relation constant) = Some (record { group = 1 + vars + x; relation = relation; constant = constant })
comparison vars (OnCounter x relation constant) = Some (record { group = 1 + x; relation = relation; constant = constant })
