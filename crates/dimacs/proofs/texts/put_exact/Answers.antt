-- `put_exact`: the loop has written the first words.
use Rattle.std.proofs.Common.{arith, ap, sym, ◌∙◌, ℕ, List, ◌++◌, length, take}
use Rattle.buffer.proofs.BufferLaws.{wrote_none, wrote_then, wrote_as}
use Rattle.dimacs.specs.Texts.{entries_text}
use Rattle.dimacs.proofs.TextLaws.{entries_none, entries_more, entries_room, known_at}
use Rattle.dimacs.proofs.texts.put_exact.Goals as goal

pub loop-w-init : goal.loop-w-init
loop-w-init c = wrote_as (entries_none _) (wrote_none _ _ (omega (arith, c.requires.2.room)))

pub put_text-end-requires : goal.put_text-end-requires
put_text-end-requires c =
    let loop = c.loop-w in
    let texts = c.args.texts.now in
    let words = c.args.words.now in
    let is = known_at texts words loop.w-index (omega arith) c.requires.1 (record { sfits = omega arith }) c.entry.ensures in
    let room = entries_room texts words loop.w-index (omega arith) in
    (is.2, record { room = omega (arith, room, c.requires.2.room, loop.invariant.ends, loop.invariant.long, ap length is.0) })

pub loop-w-preserved : goal.loop-w-preserved
loop-w-preserved c =
    let loop = c.loop-w in
    let texts = c.args.texts.now in
    let words = c.args.words.now in
    let i = loop.w-index in
    let is = known_at texts words i (omega arith) c.requires.1 (record { sfits = omega arith }) c.entry.ensures in
    let more = entries_more texts words i (omega arith) ∙ ap (λ (l : List ℕ). entries_text texts (take i words) ++ l) (sym is.0) in
    wrote_as more (wrote_then loop.invariant c.put_text-end.ensures)
