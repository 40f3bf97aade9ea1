-- `atoms`: each slot is the first's, or the second's shifted.
use Rattle.std.proofs.Common.{rules, tests}
use Rattle.model.specs.Record.{atom_at}
use Rattle.compose.specs.Joined.{joined_atoms, shifted_atom}
use Rattle.compose.proofs.JoinedLaws.{each_at}
use Rattle.compose.proofs.joined.Shift.atoms.Goals as goal

pub joined-requires : goal.joined-requires
joined-requires c = (search rules, (λ k l. search rules, λ k l. search (rules, each_at c.args.second c.requires k l)))

pub returns : goal.returns
unfolding joined_atoms
returns c =
    let a = c.args in
    rw c.atom_count.ensures.0 at (c.joined.ensures (atom_at a.first) (λ k. shifted_atom a.self.clocks a.self.vars (atom_at a.second k))
    (λ k x l h. search (rules, tests)) (λ k x l h. search (rules, tests)))
