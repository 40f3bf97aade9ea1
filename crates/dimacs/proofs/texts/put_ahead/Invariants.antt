-- `put_ahead`: the loop has stored the first words; what is stored beyond a text is covered by the next one.
use lib.ListN.{take}
use Rattle.dimacs.specs.Texts.{entries_text, Ahead}
use Rattle.dimacs.proofs.texts.put_ahead.Given as goal

abbrev pub invariant-loop-w : goal.invariant-loop-w
invariant-loop-w l = Ahead (entries_text l.texts (take l.w-index l.words)) l.initial.out l.out l.at l.end
