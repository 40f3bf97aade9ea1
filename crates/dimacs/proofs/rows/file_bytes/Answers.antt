-- file_bytes: the bytes of a row a turn, after those of the first line.
use Rattle.std.proofs.Common.{arith, ap, ◌≡◌, ◌∙◌, ◌+◌, ◌-◌, ℕ, length, List}
use lib.ListN.{length-append}
use Rattle.model.specs.Indexed.{each}
use Rattle.model.proofs.IndexedLaws.{each_zero}
use Rattle.list.proofs.ListLaws.{each_more}
use Rattle.buffer.proofs.BufferLaws.{each_le}
use Rattle.emission.specs.Cut.{row_of}
use Rattle.dimacs.specs.File.{lines_of, file}
use Rattle.dimacs.proofs.BaseLaws.{file_long}
use Rattle.dimacs.proofs.FileLaws.{file_most, first_line_is}
use Rattle.dimacs.proofs.rows.file_bytes.Goals as goal

pub loop-row-init : goal.loop-row-init
loop-row-init c =
    let m = c.args.layout.now.model in
    let k = c.args.bound in
    let first = first_line_is m k c.args.n c.requires.0 in (
      omega (arith, c.first_line_bytes-bytes.ensures, ap length first, ap length (each_zero (λ r. lines_of (row_of m k r)))),
      λ h. absurd (omega (arith, h)),
      c.requires.3,
    )

pub next_row_bytes-last-requires : goal.next_row_bytes-last-requires
next_row_bytes-last-requires c =
    let pre = c.requires in
    let loop = c.loop-row.invariant in
    (pre.1, pre.2, omega (arith, c.loop-row-test.true), loop.2, loop.1)

pub overflow_add-bytes : goal.overflow_add-bytes
overflow_add-bytes c =
    let pre = c.requires in
    let l = c.args.layout.now in
    let k = c.args.bound in
    let r = c.loop-row.row in
    let f : ℕ → List ℕ = λ i. lines_of (row_of l.model k i) in
    omega (
      arith,
      c.loop-row.invariant.0,
      c.next_row_bytes-last.ensures.0,
      ap length (each_more r f),
      length-append (each r f) (f r),
      each_le f (r + 1) (k + 2) (omega (arith, c.loop-row-test.true)),
      file_long l.model k,
      file_most l.model l.formed k pre.2,
      pre.0.words,
      pre.0.words_most,
    )

pub loop-row-preserved : goal.loop-row-preserved
loop-row-preserved c =
    let m = c.args.layout.now.model in
    let k = c.args.bound in
    let r = c.loop-row.row in
    let f : ℕ → List ℕ = λ i. lines_of (row_of m k i) in
    let row = c.next_row_bytes-last.ensures in
    let back : r ≡ r + 1 - 1 = omega arith in (
      omega (arith, c.loop-row.invariant.0, row.0, ap length (each_more r f), length-append (each r f) (f r)),
      λ h. row.0 ∙ ap (λ (i : ℕ). length (f i)) back,
      row.1,
    )

pub returns : goal.returns
returns c =
    let m = c.args.layout.now.model in
    let k = c.args.bound in
    let f : ℕ → List ℕ = λ i. lines_of (row_of m k i) in
    let done : c.loop-row.row ≡ k + 2 = omega (arith, c.loop-row-test.false) in
    let all : c.loop-row.bytes ≡ length (file m k) = omega (arith, c.loop-row.invariant.0, ap (λ (i : ℕ). length (each i f)) done, file_long m k) in
    (all, c.loop-row.invariant.2)
