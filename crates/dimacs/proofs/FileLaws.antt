-- The report and the buffer of the call, by its tests; how long the file is at most; what is left of a page.
use mathlib.Core.Path.{◌≡◌, sym, ap, ◌∙◌}
use mathlib.Core.Bool.{true, false}
use mathlib.Core.List.{List, ◌++◌}
use Prim.Native.Nat.{ℕ, ◌+◌, ◌*◌, ◌≤◌, ◌<◌, ◌^◌}
use native.Mathlib.Omega.{arith}
use lib.Dec.{T, ltb}
use lib.ListN.{length, drop, length-append}
use borrow.Author.Tests.{lt-ltb, le-ltb}
use Rattle.std.specs.Prelude.{Err}
use Rattle.form.specs.BoundCheck.{bound_checked}
use Rattle.form.specs.declared.ListRefusal.{ListRefusal}
use Rattle.form.specs.declared.ListRefusal.TheVariants.{NotWellFormed, BoundTooLarge}
use Rattle.form.proofs.BoundLaws.{bound_20, bound_21}
use Rattle.model.specs.declared.Model.{Model}
use Rattle.model.specs.Automaton.{variables}
use Rattle.model.specs.Form.{well_formed}
use Rattle.model.proofs.FormLaws.{formed, variables_le}
use Rattle.list.specs.Clauses.{clauses, words, words_of}
use Rattle.buffer.specs.Buffers.{Room, Wrote}
use Rattle.counts.specs.declared.ListCounts.{ListCounts}
use Rattle.counts.specs.KnownCounts.{KnownCounts}
use Rattle.counts.proofs.PieceBounds.{list_clauses_most}
use Rattle.emission.proofs.CutLaws.{list_inside}
use Rattle.dimacs.specs.File.{first_line, lines_of, file}
use Rattle.dimacs.specs.Written.{Needed}
use Rattle.dimacs.specs.DimacsCall.{FileReport, file_reported, file_report, file_left, file_refusal, as_file_refusal}
use Rattle.dimacs.proofs.LineLaws.{lines_short, first_line_most}
use Rattle.dimacs.proofs.PageLaws.{less_than}

-- ---- how long the file is at most
pub file_most : (m : Model) → T (well_formed m) → (k : ℕ) → k ≤ 64 → length (file m k) ≤ 7 * length (words m k) + 48
unfolding file words
file_most m ok k h =
    let v : variables m k < 2 ^ 64 = omega (arith, variables_le m (formed m ok) k h) in
    let c : length (clauses m k) < 2 ^ 64 = omega (arith, list_clauses_most m ok k h) in
    let first = first_line (variables m k) (length (clauses m k)) in
    let lines = lines_short (clauses m k) (less_than (words_of (clauses m k)) (list_inside m ok k h)) in
    omega (arith, first_line_most (variables m k) (length (clauses m k)) v c, lines, length-append first (lines_of (clauses m k)))

-- ---- its two parts, by the counts
module _ (m : Model) (k : ℕ) (n : ListCounts) (known : KnownCounts m k n) where
  pub first_line_is : first_line n.variables n.clauses ≡ first_line (variables m k) (length (clauses m k))
  first_line_is = λ i. first_line (known.variables i) (known.clauses i)

  pub file_parts : file m k ≡ first_line n.variables n.clauses ++ lines_of (clauses m k)
  unfolding file
  file_parts = ap (λ (l : List ℕ). l ++ lines_of (clauses m k)) (sym first_line_is)

-- ---- whether it fits
module _ (m : Model) (k room : ℕ) where
  pub certain : T (well_formed m) → k ≤ 64 → (n : ListCounts) → KnownCounts m k n → 7 * n.words + 48 ≤ room → Needed (file m k) room 0
  certain ok h n c l = record { short = λ s. absurd (omega (arith, s)); fits = λ s. omega (arith, file_most m ok k h, c.words) }

  pub counted : {r : ℕ} → r ≡ length (file m k) → Needed (file m k) room r
  counted e = record { short = λ s. e; fits = λ s. omega (arith, e) }

-- ---- the report and what is left in the buffer
pub record Answered (m : Model) (k : ℕ) (old new : List ℕ) (told : FileReport) : Type 0 where
  pub report : told ≡ file_report m k (length old)
  pub left : new ≡ file_left m k old

module _ (m : Model) (k : ℕ) (old : List ℕ) where
  refused_20 : well_formed m ≡ false → Answered m k old old (file_reported 20 0)
  unfolding file_left file_report
  refused_20 e = record { report = rw e; left = rw e }

  refused_21 : well_formed m ≡ true → 64 < k → Answered m k old old (file_reported 21 0)
  unfolding file_left file_report
  refused_21 e f = record { report = rw (e, lt-ltb 64 k f); left = rw (e, lt-ltb 64 k f) }

  -- what the tests of the record and the bound refuse
  pub refused : (e : ListRefusal) → Err e ≡ bound_checked m k → Answered m k old old (file_refusal (as_file_refusal e))
  refused NotWellFormed q = refused_20 (bound_20 m k q)
  refused BoundTooLarge q = let p = bound_21 m k q in refused_21 p.0 p.1

  module _ (e : well_formed m ≡ true) (f : k ≤ 64) (r : ℕ) (needed : Needed (file m k) (length old) r) where
    pub refused_32 : length old < r → Answered m k old old (file_reported 32 r)
    unfolding file_left file_report
    refused_32 g =
        let is = needed.short g in
        let h : ltb (length old) (length (file m k)) ≡ true = lt-ltb (length old) (length (file m k)) (omega (arith, is)) in
        record { report = rw (e, le-ltb 64 k f, h) (ap (file_reported 32) is); left = rw (e, le-ltb 64 k f, h) }

    pub has_room : r ≤ length old → Room (file m k) old 0
    has_room g = record { room = omega (arith, needed.fits g) }

    pub accepted : r ≤ length old → {new : List ℕ} {bytes : ℕ} → Wrote (file m k) old new 0 bytes → Answered m k old new (file_reported 0 bytes)
    unfolding file_left file_report
    accepted g {new} {bytes} w =
        let fits = needed.fits g in
        let is : bytes ≡ length (file m k) = omega (arith, w.ends) in
        let h : ltb (length old) (length (file m k)) ≡ false = le-ltb (length old) (length (file m k)) fits in
        record {
          report = rw (e, le-ltb 64 k f, h) (ap (file_reported 0) is);
          left = rw (e, le-ltb 64 k f, h) (w.list ∙ ap (λ (n : ℕ). file m k ++ drop n old) is);
        }
