-- `put_exact`: the loop has written the first words.
use lib.ListN.{take}
use Rattle.buffer.specs.Buffers.{Wrote}
use Rattle.dimacs.specs.Texts.{entries_text}
use Rattle.dimacs.proofs.texts.put_exact.Given as goal

abbrev pub invariant-loop-w : goal.invariant-loop-w
invariant-loop-w l = Wrote (entries_text l.texts (take l.w-index l.words)) l.initial.out l.out l.at l.end
