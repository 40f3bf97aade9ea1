-- `read_item`: what one reader finds from the start is the report.
use Rattle.text.proofs.ItemLaws.{item_is}
use Rattle.text.proofs.read_item.Goals as goal

pub returns : goal.returns
returns c = item_is c.args.input.now c.item.result (rw (← c.placed.ensures.1, ← c.placed.ensures.0) c.item.ensures)
