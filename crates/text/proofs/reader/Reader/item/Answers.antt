-- `Reader::item`: it may move past the bound line, since that line ends within the text.
use Rattle.std.proofs.Common.{◌+◌, ap, arith, ℕ}
use Rattle.text.proofs.ItemLaws.{moved_within, item_from}
use Rattle.text.proofs.reader.Reader.item.Goals as goal

pub overflow_add-self : goal.overflow_add-self
overflow_add-self c =
    let s = c.args.self in
    omega (arith, moved_within s.text.now s.at c.bound-bound.result c.bound-bound.ensures c.requires, c.taken.ensures)

pub model-requires : goal.model-requires
model-requires c =
    let s = c.args.self in
    rw (c.placed.ensures.1, c.placed.ensures.0)
    (omega (arith, moved_within s.text.now s.at c.bound-bound.result c.bound-bound.ensures c.requires, c.taken.ensures))

pub returns : goal.returns
returns c =
    let s = c.args.self in
    let text = rw (c.placed.ensures.1, c.placed.ensures.0) at c.model.ensures in
    item_from s.text.now s.at c.bound-bound.result c.bound-bound.ensures (ap (λ (n : ℕ). s.at + n) c.taken.ensures) text
