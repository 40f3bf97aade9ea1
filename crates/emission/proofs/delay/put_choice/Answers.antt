-- The group of the choice.
use Rattle.std.proofs.Common.{arith, sym}
use Rattle.parts.proofs.KnownLaws.{known_state, known_choices, choice_piece_of}
use Rattle.parts.proofs.LayoutLaws.{known_of_layout}
use Rattle.emission.proofs.ClauseLaws.{wrote_as, room_as}
use Rattle.emission.proofs.delay.put_choice.Goals as goal

pub overflow_cast-start-2 : goal.overflow_cast-start-2
overflow_cast-start-2 c = omega (arith, c.requires.0, known_state (known_of_layout c.args.layout.now))

pub overflow_add-start : goal.overflow_add-start
overflow_add-start c = omega (arith, c.requires.0, known_state (known_of_layout c.args.layout.now))

pub put_group-requires : goal.put_group-requires
put_group-requires c =
    let k = known_of_layout c.args.layout.now in
    (omega (arith, c.requires.0, known_state k, known_choices k), room_as (sym (choice_piece_of k c.args.o)) c.requires.1)

pub returns : goal.returns
returns c = wrote_as (sym (choice_piece_of (known_of_layout c.args.layout.now) c.args.o)) c.put_group.ensures
