-- `put_text`: of the entry's bytes as many as its highest byte says.
use Rattle.std.proofs.Common.{arith, ap, sym, ◌≡◌, ◌∙◌, ℕ, ◌/◌, ◌^◌, ◌≤◌, List, take}
use Rattle.std.specs.Int.{to_le_bytes, w64}
use Rattle.dimacs.specs.Texts.{text_of}
use Rattle.dimacs.proofs.TextLaws.{low_first, bytes_take}
use Rattle.buffer.proofs.BufferLaws.{wrote_as, room_as}
use Rattle.dimacs.proofs.texts.put_text.Goals as goal

-- these are its text
same : (x : ℕ) {bytes : List ℕ} → x / 2 ^ 56 ≤ 7 → bytes ≡ to_le_bytes w64 x → text_of x ≡ take (x / 2 ^ 56) bytes
same x h e = sym (ap (take (x / 2 ^ 56)) (e ∙ low_first x) ∙ bytes_take (x / 2 ^ 56) 8 x (omega arith))

pub put_bytes-requires : goal.put_bytes-requires
put_bytes-requires c = room_as (same c.args.x c.requires.0 c.to_le_bytes.ensures) c.requires.1

pub returns : goal.returns
returns c = wrote_as (same c.args.x c.requires.0 c.to_le_bytes.ensures) c.put_bytes.ensures
