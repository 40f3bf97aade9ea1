-- `put_words`: the last three words cover what is stored beyond those before them.
use Rattle.std.proofs.Common.{arith, ap, ◌≤◌, length}
use lib.ListN.{length-append}
use Rattle.buffer.proofs.BufferLaws.{wrote_as}
use Rattle.dimacs.specs.Texts.{entries_text}
use Rattle.dimacs.proofs.TextLaws.{parts_text, parts_all, entries_least, ahead_then}
use Rattle.dimacs.proofs.texts.put_words.Goals as goal
use Rattle.dimacs.proofs.texts.put_words.Goals.{After-split_at}

-- the last three words have six bytes at least
least : (c : After-split_at) → 6 ≤ length (entries_text c.args.texts.now c.split_at.result.1.now)
least c =
    let all = parts_all c.args.texts.now c.split_at.result.0.now c.split_at.result.1.now c.split_at.ensures.by_index.0 c.requires.1 in
    omega (arith, c.split_at.ensures.back_len, entries_least c.args.texts.now c.split_at.result.1.now all.1)

pub put_ahead-end-requires : goal.put_ahead-end-requires
put_ahead-end-requires c =
    let texts = c.args.texts.now in
    let parts = c.split_at.ensures.by_index.0 in
    let long = ap length (parts_text texts c.split_at.result.0.now c.split_at.result.1.now parts) in
    let both = length-append (entries_text texts c.split_at.result.0.now) (entries_text texts c.split_at.result.1.now) in (
      c.requires.0,
      (parts_all texts _ _ parts c.requires.1).0,
      omega
          (arith, c.requires.2.room, long, both, least (goal.at.put_ahead-end-requires c).After-split_at),
    )

pub put_exact-requires-2 : goal.put_exact-requires-2
put_exact-requires-2 c =
    let texts = c.args.texts.now in
    let parts = c.split_at.ensures.by_index.0 in
    let long = ap length (parts_text texts c.split_at.result.0.now c.split_at.result.1.now parts) in
    let both = length-append (entries_text texts c.split_at.result.0.now) (entries_text texts c.split_at.result.1.now) in
    let stored = c.put_ahead-end.ensures in
    (c.requires.0, (parts_all texts _ _ parts c.requires.1).1, record { room = omega (arith, c.requires.2.room, long, both, stored.ends, stored.long) })

pub returns : goal.returns
returns c =
    wrote_as (parts_text c.args.texts.now _ _ c.split_at.ensures.by_index.0)
    (ahead_then c.put_ahead-end.ensures c.put_exact-2.ensures (least (goal.at.returns c).After-split_at))
