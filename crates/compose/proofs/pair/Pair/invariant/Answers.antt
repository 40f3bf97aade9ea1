-- `invariant`: the place is that of a row and a column.
use Rattle.std.proofs.Common.{arith, ◌/◌, ◌%◌, ◌∙◌, sym}
use Rattle.model.specs.Record.{blank_invariant, invariant_at}
use Rattle.model.proofs.FormLaws.{formed}
use Rattle.compose.specs.Joined.{joined_atoms}
use Rattle.compose.specs.Composed.{joined_invariant, joined_invariants}
use Rattle.compose.proofs.Fronts.{form_of}
use Rattle.compose.proofs.JoinedLaws.{used-invariant}
use Rattle.compose.proofs.Rows.{row_lt, column_lt, row_at, row_none}
use Rattle.compose.proofs.pair.Pair.invariant.Goals as goal

pub bounds-a-n : goal.bounds-a-n
bounds-a-n c =
    let a = c.args.self.now.a in
    omega (arith, row_lt a.model.locations c.args.self.now.b.model.locations c.args.n c.if-n-a.true, (formed a.model (form_of a)).locations_le)

pub bounds-b-n : goal.bounds-b-n
bounds-b-n c =
    let b = c.args.self.now.b in
    omega (arith, column_lt c.args.self.now.a.model.locations b.model.locations c.args.n c.if-n-a.true, (formed b.model (form_of b)).locations_le)

pub atoms-atoms-requires : goal.atoms-atoms-requires
atoms-atoms-requires c =
    let a = c.args.self.now.a in
    let b = c.args.self.now.b in
    used-invariant b.model (form_of b) (c.args.n % b.model.locations) (column_lt a.model.locations b.model.locations c.args.n c.if-n-a.true)

pub returns-then-n-a : goal.returns-then-n-a
unfolding joined_invariants
returns-then-n-a c =
    let a = c.args.self.now.a.model in
    let b = c.args.self.now.b.model in
    let by = c.new.ensures in
    let is = c.atoms-atoms.ensures
    ∙ (λ i. joined_atoms (by.0 i) (by.1 i) (invariant_at a (c.args.n / b.locations)) (invariant_at b (c.args.n % b.locations))) in
    (λ i. record { atoms = is i }) ∙ sym (row_at (joined_invariant a b) blank_invariant a.locations b.locations c.args.n c.if-n-a.true)

pub returns-else-n-a : goal.returns-else-n-a
unfolding joined_invariants
returns-else-n-a c =
    let a = c.args.self.now.a.model in
    let b = c.args.self.now.b.model in
    sym (row_none (joined_invariant a b) blank_invariant a.locations b.locations c.args.n c.if-n-a.false)
