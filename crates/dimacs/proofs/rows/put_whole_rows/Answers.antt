-- put_whole_rows: a row a turn; the words of the row before are there.
use Rattle.std.proofs.Common.{arith, sym, true, ◌≡◌, ◌-◌, ◌+◌, ◌≤◌, List}
use mathlib.Core.Path.{subst}
use Rattle.list.specs.Clauses.{Clause}
use Rattle.buffer.proofs.BufferLaws.{wrote_as, wrote_each, wrote_each_none, room_as, room_each}
use Rattle.emission.specs.Cut.{row_of}
use Rattle.dimacs.specs.File.{lines_of}
use Rattle.dimacs.specs.Rows.{follows_step, Holds}
use Rattle.dimacs.proofs.BaseLaws.{row_texts, row_lines, rows_joined, follows, step_base, held_before}
use Rattle.dimacs.proofs.rows.put_whole_rows.Goals as goal

pub loop-row-init : goal.loop-row-init
loop-row-init c = (wrote_each_none _ _ _ (omega (arith, c.requires.3.room)), c.requires.2, λ h. absurd (omega (arith, h)))

pub fill_row-requires : goal.fill_row-requires
fill_row-requires c = (omega (arith, c.requires.0, c.loop-row-test.true), c.loop-row.invariant.1)

pub put_row_words-held-requires : goal.put_row_words-held-requires
put_row_words-held-requires c =
    let pre = c.requires in
    let m = c.args.layout.now.model in
    let k = c.args.bound in
    let r = c.loop-row.row in
    let held : follows_step k r ≡ true → Holds (row_of m 1 1) c.loop-row.words c.loop-row.held = λ e.
    let f = follows m k r e in
    let two : 2 ≤ r = f.0 in
    let base = step_base m k (r - 1) (λ q. omega (arith, two)) (omega (arith, f.1)) in
    subst (λ (cs : List Clause). Holds cs c.loop-row.words c.loop-row.held) base (c.loop-row.invariant.2 (omega (arith, two))) in
    (omega (arith, c.loop-row-test.true), pre.1, held)

pub put_words-end-requires : goal.put_words-end-requires
put_words-end-requires c =
    let pre = c.requires in
    let l = c.args.layout.now in
    let k = c.args.bound in
    let r = c.loop-row.row in
    let in_list : r ≤ k + 1 = omega (arith, c.loop-row-test.true) in
    let texts = c.fill_row.ensures in
    let held = c.put_row_words-held.ensures in
    let whole = room_as (rows_joined l.model k) pre.3 in
    let room = room_each (λ i. lines_of (row_of l.model k i)) r (k + 2) c.loop-row.invariant.0 (omega (arith, in_list)) whole in (
      texts.long,
      row_texts l.model l.formed k r pre.0 in_list texts held.front,
      room_as (sym (row_lines l.model l.formed k r pre.0 in_list texts held.front)) room,
    )

pub loop-row-preserved : goal.loop-row-preserved
loop-row-preserved c =
    let l = c.args.layout.now in
    let k = c.args.bound in
    let r = c.loop-row.row in
    let in_list : r ≤ k + 1 = omega (arith, c.loop-row-test.true) in
    let texts = c.fill_row.ensures in
    let held = c.put_row_words-held.ensures in
    let text = row_lines l.model l.formed k r c.requires.0 in_list texts held.front in
    let wrote = wrote_each (λ i. lines_of (row_of l.model k i)) r c.loop-row.invariant.0 (wrote_as (sym text) c.put_words-end.ensures) in
    (wrote, texts.long, λ h. held_before l.model k r held)

pub returns : goal.returns
returns c =
    let k = c.args.bound in
    let done : c.loop-row.row ≡ k + 2 = omega (arith, c.loop-row-test.false) in
    wrote_as (rows_joined c.args.layout.now.model k) (rw done at c.loop-row.invariant.0)
