-- The word of the first literal, then the clause that is left.
use Rattle.std.proofs.Common.{rules, [], ◌∷◌}
use Rattle.list.specs.Clauses.{bare, negated}
use Rattle.emission.proofs.ClauseLaws.{room_word, room_rest, wrote_rest}
use Rattle.emission.proofs.words.put_joint_implication.Goals as goal

pub put_word-rest-requires : goal.put_word-rest-requires
put_word-rest-requires c = room_word (negated c.args.a) c.negative.ensures (search rules) (negated c.args.b ∷ bare c.args.c ∷ []) c.requires.3

pub put_implication-requires : goal.put_implication-requires
put_implication-requires c =
    let rest = negated c.args.b ∷ bare c.args.c ∷ [] in
    (c.requires.1, c.requires.2, room_rest (negated c.args.a) c.negative.ensures (search rules) rest c.put_word-rest.ensures c.requires.3)

pub returns : goal.returns
returns c =
    let rest = negated c.args.b ∷ bare c.args.c ∷ [] in
    wrote_rest (negated c.args.a) c.negative.ensures (search rules) rest c.put_word-rest.ensures c.put_implication.ensures
