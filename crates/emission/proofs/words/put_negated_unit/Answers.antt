-- The word of the literal, then the 0.
use Rattle.std.proofs.Common.{rules, []}
use Rattle.list.specs.Clauses.{negated}
use Rattle.emission.proofs.ClauseLaws.{room_word, room_rest, room_zero, wrote_rest, wrote_zero}
use Rattle.emission.proofs.words.put_negated_unit.Goals as goal

pub put_word-last-requires : goal.put_word-last-requires
put_word-last-requires c = room_word (negated c.args.a) c.negative.ensures (search rules) [] c.requires.1

pub put_word-requires : goal.put_word-requires
put_word-requires c = room_zero (room_rest (negated c.args.a) c.negative.ensures (search rules) [] c.put_word-last.ensures c.requires.1)

pub returns : goal.returns
returns c = wrote_rest (negated c.args.a) c.negative.ensures (search rules) [] c.put_word-last.ensures (wrote_zero c.put_word.ensures)
