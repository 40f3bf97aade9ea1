-- `put_ahead`: the loop has stored the first words; what is stored beyond a text is covered by the next one.
use Rattle.std.proofs.Common.{arith, ap, sym, ◌∙◌, ℕ, List, ◌++◌, length, take}
use Rattle.dimacs.specs.Texts.{entries_text}
use Rattle.dimacs.proofs.TextLaws.{text_long, entries_none, entries_more, entries_room, known_at}
use Rattle.dimacs.proofs.TextLaws.{ahead_none, ahead_as, ahead_eight}
use Rattle.dimacs.proofs.texts.put_ahead.Goals as goal

pub loop-w-init : goal.loop-w-init
loop-w-init c = ahead_as (entries_none _) (ahead_none _ _)

pub put_eight-requires : goal.put_eight-requires
put_eight-requires c =
    let loop = c.loop-w in
    let texts = c.args.texts.now in
    let words = c.args.words.now in
    let is = known_at texts words loop.w-index (omega arith) c.requires.1 (record { sfits = omega arith }) c.entry-x.ensures in
    let room = entries_room texts words loop.w-index (omega arith) in
    omega (arith, room, c.requires.2, loop.invariant.ends, loop.invariant.long, is.1, text_long c.entry-x.result, ap length is.0)

pub loop-w-preserved : goal.loop-w-preserved
loop-w-preserved c =
    let loop = c.loop-w in
    let texts = c.args.texts.now in
    let words = c.args.words.now in
    let i = loop.w-index in
    let is = known_at texts words i (omega arith) c.requires.1 (record { sfits = omega arith }) c.entry-x.ensures in
    let more = entries_more texts words i (omega arith) ∙ ap (λ (l : List ℕ). entries_text texts (take i words) ++ l) (sym is.0) in
    ahead_as more (ahead_eight _ loop.invariant c.put_eight.ensures is.1 is.2)
