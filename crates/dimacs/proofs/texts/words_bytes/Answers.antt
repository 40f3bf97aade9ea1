-- `words_bytes`: the loop has counted the first words, at most 7 bytes each.
use Rattle.std.proofs.Common.{arith, ap, sym, length, take, get_or}
use lib.IntN.{pos}
use lib.ListN.{length-append}
use Rattle.dimacs.specs.Texts.{entry_text, entries_text}
use Rattle.dimacs.proofs.TextLaws.{text_long, entries_none, entries_more, known_at}
use Rattle.dimacs.proofs.texts.words_bytes.Goals as goal

pub loop-w-init : goal.loop-w-init
loop-w-init c = (omega arith, sym (ap length (entries_none c.args.texts.now)))

pub loop-w-preserved : goal.loop-w-preserved
loop-w-preserved c =
    let texts = c.args.texts.now in
    let words = c.args.words.now in
    let i = c.loop-w.w-index in
    let is = known_at texts words i (omega arith) c.requires.2 (record { sfits = omega arith }) c.entry.ensures in
    let more = ap length (entries_more texts words i (omega arith)) in
    let sum = length-append (entries_text texts (take i words)) (entry_text texts (get_or words i (pos 0))) in
    (omega (arith, is.2), omega (arith, more, sum, ap length is.0, text_long c.entry.result))
