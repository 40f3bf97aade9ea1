-- `put_eight`: the bytes of the entry, copied.
use Rattle.std.proofs.Common.{ap, sym, ◌∙◌, ℕ, ◌+◌}
use Rattle.dimacs.proofs.TextLaws.{bytes_long, low_first, wrote_copy}
use Rattle.dimacs.proofs.texts.put_eight.Goals as goal

pub returns : goal.returns
returns c =
    let x = c.args.x in
    wrote_copy (ap (λ (k : ℕ). c.args.at + k) (sym (bytes_long 8 x))) (c.copy_from_slice.ensures.after ∙ c.to_le_bytes.ensures ∙ low_first x) c.requires
