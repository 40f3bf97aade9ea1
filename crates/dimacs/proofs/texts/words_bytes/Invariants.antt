-- `words_bytes`: the loop has counted the first words, at most 7 bytes each.
use mathlib.Core.Path.{◌≡◌}
use Prim.Native.Nat.{◌≤◌, ◌*◌}
use lib.ListN.{length, take}
use Rattle.dimacs.specs.Texts.{entries_text}
use Rattle.dimacs.proofs.texts.words_bytes.Given as goal

abbrev pub invariant-loop-w : goal.invariant-loop-w
invariant-loop-w l = (l.bytes ≤ 7 * l.w-index) × (l.bytes ≡ length (entries_text l.texts (take l.w-index l.words)))
