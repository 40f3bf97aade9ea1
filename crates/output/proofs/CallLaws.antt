-- What the call answers and leaves, from the reading of the text and from the bytes placed.
use Rattle.std.specs.Prelude.{Option, Some, None, Result, Ok, Err}
use Prim.Native.Nat.{ℕ, ◌≤◌}
use mathlib.Core.Path.{◌≡◌, refl, sym, ap, ◌∙◌}
use mathlib.Core.List.{List, foldl}
use native.Mathlib.Omega.{arith}
use lib.ListN.{length, take, replicate}
use borrow.Author.Tests.{eq-eqb, ne_eqb}
use Rattle.output.specs.declared.Outcome.{Outcome}
use Rattle.output.specs.declared.Outcome.TheVariants as outcome
use Rattle.output.specs.declared.OutputRefusal.{OutputRefusal}
use Rattle.output.specs.declared.OutputRefusal.TheVariants as refusal
use Rattle.output.specs.declared.lines.Stage.{Stage}
use Rattle.output.specs.declared.lines.Stage.TheVariants.{BeforeStatus, InValues, Closed, Refuted}
use Rattle.output.specs.declared.reading.Fault.{Fault}
use Rattle.output.specs.declared.reading.Fault.TheVariants.{OutOfFormOrPlace, AboveOrNamedBefore, Incomplete}
use Rattle.output.specs.declared.reading.Reading.{Reading}
use Rattle.output.specs.Tokens.{tokens_of, literals_in}
use Rattle.output.specs.OutputCall.{Progress, judge, judged, start, report_of, output_report, output_left, output_told, bytes_of}
use Rattle.output.specs.Counting.{counted_from, no_reading, count, literal_up_to}
use Rattle.output.specs.Placing.{literals_of, Marking, marking, placed}
use Rattle.output.proofs.CapLaws.{judged_cut}
use Rattle.output.proofs.CountLaws.{some_limit}
use Rattle.output.proofs.LiteralLaws.{counted_same}
use Rattle.output.proofs.FinishLaws.{written}

-- the answer is that of the reading
pub report_is : (n : ℕ) (t : List ℕ) {r : Reading} → r ≡ counted_from (judged n t) → report_of r.fault r.line r.stage ≡ output_report t n
unfolding output_report
report_is n t e = ap (λ (r : Reading). report_of r.fault r.line r.stage) e

-- no other answer has the outcome 10
pub other_outcome : (a : Result Outcome OutputRefusal) → (a ≡ Ok outcome.Satisfiable → ⊥) → (output_told a).outcome ≡ 10 → ⊥
other_outcome (Ok outcome.Satisfiable) other h = other refl
other_outcome (Ok outcome.Unsatisfiable) other h = absurd (omega (arith, h))
other_outcome (Err (refusal.OutOfFormOrPlace l)) other h = absurd (omega (arith, h))
other_outcome (Err (refusal.AboveOrNamedBefore l)) other h = absurd (omega (arith, h))
other_outcome (Err (refusal.Incomplete l)) other h = absurd (omega (arith, h))

-- only a text whose closing 0 was read is satisfiable
satisfiable_closed : (f : Option Fault) (l : ℕ) (s : Stage) → (report_of f l s).outcome ≡ 10 → s ≡ Closed
satisfiable_closed None l BeforeStatus h = absurd (omega (arith, h))
satisfiable_closed None l InValues h = absurd (omega (arith, h))
satisfiable_closed None l Closed h = refl
satisfiable_closed None l Refuted h = absurd (omega (arith, h))
satisfiable_closed (Some OutOfFormOrPlace) l s h = absurd (omega (arith, h))
satisfiable_closed (Some AboveOrNamedBefore) l s h = absurd (omega (arith, h))
satisfiable_closed (Some Incomplete) l s h = absurd (omega (arith, h))

pub closed_stage : (n : ℕ) (t : List ℕ) → (output_report t n).outcome ≡ 10 → (judged n t).stage ≡ Closed
unfolding output_report
closed_stage n t h = satisfiable_closed (judged n t).fault (judged n t).line (judged n t).stage h

-- ---- the assignment buffer
-- the literals placed into it
abbrev placed_in : ℕ → List ℕ → Marking
placed_in n t = foldl (placed 1) (marking (record { seen = 0; bound = n }) (replicate n 2)) (literals_of (literal_up_to n) t)

pub left_written : (t old : List ℕ) → (output_report t (length old)).outcome ≡ 10 → (placed_in (length old) t).marks ≡ output_left t old
unfolding output_left
left_written t old h =
    let n = length old in
    let ts = tokens_of (literal_up_to n) t in
    let same = judged_cut n t in
    let closed : (foldl (judge n) start ts).stage ≡ Closed = ap (λ (p : Progress). p.stage) (sym same) ∙ closed_stage n t h in
    let (limit, counted) = some_limit n ts in
    let many : length (foldl (judge n) start ts).named ≡ (foldl (count n limit) no_reading ts).named = ap (λ (r : Reading). r.named) counted in
    let first : (c : ℕ) → c ≤ length (foldl (judge n) start ts).named → take c (literals_in ts) ≡ take c (literals_of (literal_up_to n) t) =
    λ c few. counted_same n limit (literal_up_to n) t c no_reading (omega (arith, few, many)) in
    rw (eq-eqb (output_report t n).outcome 10 h)
    (written n ts (literals_of (literal_up_to n) t) first closed ∙ ap (λ (p : Progress). bytes_of n p.named) (sym same))

pub left_kept : (t old : List ℕ) → ((output_report t (length old)).outcome ≡ 10 → ⊥) → old ≡ output_left t old
unfolding output_left
left_kept t old h = rw (ne_eqb (output_report t (length old)).outcome 10 h)
