-- The word of the first literal, then the clause that is left.
use Rattle.std.proofs.Common.{rules, [], ◌∷◌}
use Rattle.list.specs.Clauses.{bare, negated}
use Rattle.emission.proofs.ClauseLaws.{room_word, room_rest, wrote_rest}
use Rattle.emission.proofs.words.put_implication.Goals as goal

pub put_word-rest-requires : goal.put_word-rest-requires
put_word-rest-requires c = room_word (negated c.args.a) c.negative.ensures (search rules) (bare c.args.b ∷ []) c.requires.2

pub put_unit-requires : goal.put_unit-requires
put_unit-requires c =
    (c.requires.1, room_rest (negated c.args.a) c.negative.ensures (search rules) (bare c.args.b ∷ []) c.put_word-rest.ensures c.requires.2)

pub returns : goal.returns
returns c = wrote_rest (negated c.args.a) c.negative.ensures (search rules) (bare c.args.b ∷ []) c.put_word-rest.ensures c.put_unit.ensures
