-- A longer input than the program's buffer has the answer of its part in the buffer: of any call behind the bound line and the text.
use Prim.Native.Nat.{ℕ, ◌<◌}
use mathlib.Core.Path.{◌≡◌}
use mathlib.Core.List.{List}
use lib.ListN.{take}
use Rattle.text.proofs.Laws.Cutting as text
use Rattle.sizing.specs.SizeCall.{refused_sizes, text_sizes, size_report, program_words, program_report}

-- an input of any length has the answer of its first n bytes, for n at least 8,203
pub cutting : (n : ℕ) (t : List ℕ) (room : ℕ) → 8202 < n → size_report (take n t) room ≡ size_report t room
unfolding size_report
cutting n t room enough = text.cutting (λ bound r. text_sizes r bound room) (λ number. refused_sizes number 0) n t enough

-- the same of the program's words
pub program_cutting : (n : ℕ) (t : List ℕ) → 8202 < n → program_report (take n t) ≡ program_report t
unfolding program_report
program_cutting n t enough = cutting n t program_words enough
