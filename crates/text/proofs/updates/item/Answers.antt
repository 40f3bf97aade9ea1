-- `item`: the item is made of its parts (`set_parts`), or it is not of its form.
use Rattle.std.proofs.Common.{◌≡◌, ◌==◌, ◌&&◌, get_or, true, false}
use Rattle.text.specs.bytes.Bytes.{assigns}
use Rattle.text.proofs.updates.Parts.{set_parts}
use Rattle.text.proofs.updates.item.Goals as goal

pub returns-in_err-counter : goal.returns-in_err-counter
returns-in_err-counter c =
    let named : ((get_or c.args.s.now 0 0 == 118) && assigns c.leading-counter.result.1.now) ≡ true = rw (← c.byte.ensures, ← c.assigns.ensures)
    c.if-byte-assigns.true in
    rw (c.from_residual.ensures, set_parts _ c.tail.ensures c.leading-counter.ensures.0 c.leading-counter.ensures.1, named, c.in_err-counter.was)

pub returns-in_ok-counter : goal.returns-in_ok-counter
returns-in_ok-counter c =
    let named : ((get_or c.args.s.now 0 0 == 118) && assigns c.leading-counter.result.1.now) ≡ true = rw (← c.byte.ensures, ← c.assigns.ensures)
    c.if-byte-assigns.true in
    rw (
      set_parts _ c.tail.ensures c.leading-counter.ensures.0 c.leading-counter.ensures.1,
      named,
      c.in_ok-counter.was,
      ←
          c.tail-then-byte-assigns.ensures,
    ) c.set_to.ensures

pub returns-else-byte-assigns : goal.returns-else-byte-assigns
returns-else-byte-assigns c =
    let named : ((get_or c.args.s.now 0 0 == 118) && assigns c.leading-counter.result.1.now) ≡ false = rw (← c.byte.ensures, ← c.assigns.ensures)
    c.if-byte-assigns.false in
    rw (set_parts _ c.tail.ensures c.leading-counter.ensures.0 c.leading-counter.ensures.1, named)
