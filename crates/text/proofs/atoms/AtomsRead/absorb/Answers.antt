-- `absorb`: field by field what each call ensures is the field of `absorbed`.
use Rattle.std.proofs.Common.{◌≡◌, ◌∙◌, sym}
use Rattle.text.specs.atoms.OnePass.{pushed, absorbed}
use Rattle.text.proofs.Laws.Slots.{put_is}
use Rattle.text.proofs.bytes.Library.{missing}
use Rattle.text.proofs.atoms.AtomsRead.absorb.Goals as goal

pub returns : goal.returns
unfolding absorbed pushed
returns c =
    let s = c.args.self in
    let atoms : c.put.new.slots ≡ pushed s.atoms s.count c.stored.result = c.put.ensures
    ∙ sym (put_is s.atoms s.count 4 c.stored.result c.well_formed.0.1.1.1.1.0.1.0.1) in
    rw (atoms, c.next_count.ensures, c.stored.ensures, c.is_undeclared.ensures, c.is_outside.ensures, missing c.args.item _ c.is_none.ensures)
