-- The word of the first literal, then the clause that is left.
use Rattle.std.proofs.Common.{rules, [], ◌∷◌}
use Rattle.list.specs.Clauses.{negated}
use Rattle.emission.proofs.ClauseLaws.{room_word, room_rest, wrote_rest}
use Rattle.emission.proofs.words.put_exclusion.Goals as goal

pub put_word-second-requires : goal.put_word-second-requires
put_word-second-requires c = room_word (negated c.args.a) c.negative.ensures (search rules) (negated c.args.b ∷ []) c.requires.2

pub put_negated_unit-requires : goal.put_negated_unit-requires
put_negated_unit-requires c =
    (c.requires.1, room_rest (negated c.args.a) c.negative.ensures (search rules) (negated c.args.b ∷ []) c.put_word-second.ensures c.requires.2)

pub returns : goal.returns
returns c = wrote_rest (negated c.args.a) c.negative.ensures (search rules) (negated c.args.b ∷ []) c.put_word-second.ensures c.put_negated_unit.ensures
