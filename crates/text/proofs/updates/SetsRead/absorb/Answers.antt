-- `absorb`: field by field what each call ensures is the field of `absorbed`.
use Rattle.std.proofs.Common.{◌≡◌, ◌∙◌, sym}
use Rattle.text.specs.updates.OnePass.{put, listed_at, absorbed}
use Rattle.text.proofs.Laws.Slots.{put_is}
use Rattle.text.proofs.bytes.Library.{missing}
use Rattle.text.proofs.updates.SetsRead.absorb.Goals as goal

pub returns : goal.returns
unfolding absorbed put listed_at
returns c =
    let s = c.args.self in
    let updates : c.put.new.slots ≡ put s.updates c.counter-counter.result c.stored.result =
    c.put.ensures ∙ sym (put_is s.updates c.counter-counter.result 4 c.stored.result c.well_formed.0.1.1.1.0.1.0.1) in
    let order : c.put-2.new.slots ≡ listed_at s.order s.count c.narrow.result =
    c.put-2.ensures ∙ sym (put_is s.order s.count 4 c.narrow.result c.well_formed.0.1.1.1.1.1.0.1.0.1) in
    rw (
      updates,
      order,
      c.next_count.ensures,
      c.narrow.ensures,
      c.stored.ensures,
      c.is_set.ensures,
      c.is_undeclared.ensures,
      c.is_outside.ensures,
      missing c.args.item _ c.is_none.ensures,
      c.counter-counter.ensures,
    )
