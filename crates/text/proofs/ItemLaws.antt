-- An item: the bound line ends within the text, so a reader can move past it, and what one reader finds is the report.
use Prim.Native.Nat.{ℕ, ◌+◌, ◌-◌, ◌≤◌, ◌<◌, min}
use mathlib.Core.Path.{◌≡◌, refl, sym, ap, ◌∙◌}
use mathlib.Core.List.{List}
use mathlib.Core.Bool.{Bool, true, false, cond, ◌&&◌}
use native.Mathlib.Omega.{arith}
use lib.ListN.{length, drop, length-drop}
use borrow.Author.Tests.{ltb-true, lt-ltb, le-ltb}
use Rattle.std.specs.Prelude.{Option, Some, None, Result, Ok, Err}
use Rattle.text.specs.bytes.Ascii.{ascii}
use Rattle.text.specs.bytes.Bytes.{first_at, is_due, value_of, number_of}
use Rattle.model.specs.declared.Model.{Model}
use Rattle.text.specs.declared.BoundLine.{BoundLine}
use Rattle.text.specs.declared.ItemRead.{ItemRead}
use Rattle.text.specs.declared.ReadRefusal.{ReadRefusal}
use Rattle.text.specs.declared.ReadRefusal.TheVariants.{TooLong, BytesLeft}
use Rattle.text.specs.declared.lines.Reading.{Reading}
use Rattle.text.specs.declared.line.Due.{Due}
use Rattle.text.specs.line.DueLines.{Found}
use Rattle.text.specs.lines.Readings.{ReadsFrom}
use Rattle.text.specs.Bound.{BoundReport, bound_refused, bound_in, bound_report, bound_told}
use Rattle.text.specs.Text.{read_report, read_ended, read_told}
use Rattle.text.specs.Item.{item_report, item_told, ItemFrom}
use Rattle.text.proofs.sequence.Start.{drop_within}
use Rattle.text.proofs.lines.Turns.{refusal_told}

-- ---- the bound line ends within the text
left_true : (x y : Bool) → (x && y) ≡ true → x ≡ true
left_true true y h = refl
left_true false y h = h

due_ended : (key t : List ℕ) → is_due key t ≡ true → first_at 10 t < length t
unfolding is_due
due_ended key t h = ltb-true (first_at 10 t) (length t) (left_true _ _ h)

next_cases : (d : Bool) (x : Option ℕ) (e l : ℕ) → (d ≡ true → e ≤ l) → (cond d (bound_in x e) bound_refused).next ≤ l
next_cases true None e l h = omega arith
next_cases true (Some k) e l h = h refl
next_cases false x e l h = omega arith

pub next_within : (t : List ℕ) → (bound_report t).next ≤ length t
unfolding bound_report
next_within t =
    next_cases (is_due (ascii "bound=") t) (number_of (value_of (ascii "bound=") t)) (first_at 10 t + 1) (length t)
    (λ h. let l : first_at 10 t < length t = due_ended (ascii "bound=") t h in omega (arith, l))

-- ---- the bound line at a place, or at the end for a place past it
module _ (t : List ℕ) (at from : ℕ) (start : from ≡ min at (length t)) where
  from_is : drop from t ≡ drop at t
  from_is = ap (λ (n : ℕ). drop n t) start ∙ drop_within t at

  pub bound_other : is_due (ascii "bound=") (drop from t) ≡ false → bound_refused ≡ bound_report (drop at t)
  unfolding bound_report
  bound_other h = rw (← from_is, h)

  module _ {d : Due} (due : Found (ascii "bound=") t from d) where
    pub no_number : number_of d.value.now ≡ None → bound_refused ≡ bound_report (drop at t)
    unfolding bound_report
    no_number h = let n : number_of (value_of (ascii "bound=") (drop from t)) ≡ None = ap number_of (sym due.value_is) ∙ h in rw (← from_is, due.due, n)

    pub bound_found : {b : BoundLine} → number_of d.value.now ≡ Some b.bound → b.next ≡ d.end + 1 - from → bound_told (Some b) ≡ bound_report (drop at t)
    unfolding bound_report
    bound_found {b} h q =
        let n : number_of (value_of (ascii "bound=") (drop from t)) ≡ Some b.bound = ap number_of (sym due.value_is) ∙ h in
        let e : b.next ≡ first_at 10 (drop from t) + 1 = omega (arith, q, due.end_is) in
        rw (← from_is, due.due, n) (λ i. record { number = 0; bound = b.bound; next = e i })

-- ---- the model text from a place on
module _ (t : List ℕ) (at : ℕ) where
  pub rest_long : 8192 < length t - at → read_told (Err TooLong) ≡ read_report (drop at t)
  unfolding read_report
  rest_long h = rw (lt-ltb 8192 (length (drop at t)) (omega (arith, length-drop at t, h)))

  module _ (h : length t - at ≤ 8192) where
    pub rest_refused : {e : ReadRefusal} → ReadsFrom t at (Err e) → read_told (Err e) ≡ read_report (drop at t)
    unfolding read_report read_ended
    rest_refused {e} p =
        rw (le-ltb 8192 (length (drop at t)) (omega (arith, length-drop at t, h)), ← p.number_is, ← p.line_is, refusal_told e)

    module _ {r : Reading} (p : ReadsFrom t at (Ok r)) where
      pub rest_left : r.at < length t → read_told (Err (BytesLeft r.line)) ≡ read_report (drop at t)
      unfolding read_report read_ended
      rest_left l =
          rw (
            le-ltb 8192 (length (drop at t)) (omega (arith, length-drop at t, h)),
            ← p.is,
            lt-ltb 0 (length (drop r.at t))
                (omega (arith, length-drop r.at t, l)),
          )

      pub rest_read : length t ≤ r.at → read_told (Ok r.model) ≡ read_report (drop at t)
      unfolding read_report read_ended
      rest_read l =
          rw (
            le-ltb 8192 (length (drop at t)) (omega (arith, length-drop at t, h)),
            ← p.is,
            le-ltb 0 (length (drop r.at t))
                (omega (arith, length-drop r.at t, l)),
          )

-- ---- what one reader finds from a place on
module _ (t : List ℕ) (at : ℕ) (b : Option BoundLine) (is : bound_told b ≡ bound_report (drop at t)) where
  -- it can move past the line
  pub moved_within : at ≤ length t → at + (bound_told b).next ≤ length t
  moved_within h = omega (arith, ap (λ (x : BoundReport). x.next) is, next_within (drop at t), length-drop at t, h)

  pub item_from : {k : ℕ} {a : Result Model ReadRefusal} → k ≡ at + (bound_told b).next → read_told a ≡ read_report (drop k t)
      → ItemFrom t at (record { bound = b; text = a })
  item_from {k} {a} q e =
      let place : k ≡ at + (bound_report (drop at t)).next = q ∙ ap (λ (x : BoundReport). at + x.next) is in
      record { bound_is = is; reads = e ∙ ap (λ (n : ℕ). read_report (drop n t)) place }

-- from the start
pub item_is : (t : List ℕ) (i : ItemRead) → ItemFrom t 0 i → item_told i ≡ item_report t
unfolding item_report
item_is t i p =
    let place : 0 + (bound_report t).next ≡ (bound_report t).next = omega arith in
    let text = p.reads ∙ ap (λ (n : ℕ). read_report (drop n t)) place in
    λ j. record { bound = p.bound_is j; text = text j }
