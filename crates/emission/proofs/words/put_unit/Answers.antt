-- The word of the literal, then the 0.
use Rattle.std.proofs.Common.{rules, []}
use Rattle.list.specs.Clauses.{bare}
use Rattle.emission.proofs.ClauseLaws.{room_word, room_rest, room_zero, wrote_rest, wrote_zero}
use Rattle.emission.proofs.words.put_unit.Goals as goal

pub put_word-end-requires : goal.put_word-end-requires
put_word-end-requires c = room_word (bare c.args.a) c.positive.ensures (search rules) [] c.requires.1

pub put_word-requires : goal.put_word-requires
put_word-requires c = room_zero (room_rest (bare c.args.a) c.positive.ensures (search rules) [] c.put_word-end.ensures c.requires.1)

pub returns : goal.returns
returns c = wrote_rest (bare c.args.a) c.positive.ensures (search rules) [] c.put_word-end.ensures (wrote_zero c.put_word.ensures)
