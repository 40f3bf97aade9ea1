-- A longer input than a program's buffer has the answer of its part in the buffer, whatever is asked behind the bound line and the text.
use Prim.Native.Nat.{ℕ, zero, suc, ◌+◌, ◌-◌, ◌≤◌, ◌<◌}
use mathlib.Core.Path.{◌≡◌, refl, sym, ap, ◌∙◌}
use mathlib.Core.List.{List, [], ◌∷◌}
use mathlib.Core.Bool.{Bool, true, false, cond, ◌&&◌}
use native.Mathlib.Omega.{arith}
use lib.Dec.{eqb, ltb}
use lib.ListN.{length, take, drop, length-take, length-drop}
use lib.Seq.{take_all}
use borrow.Author.Tests.{lt-ltb, ltb-true, ltb-false}
use Rattle.std.specs.Prelude.{Option, Some, None}
use Rattle.text.specs.bytes.Ascii.{ascii}
use Rattle.text.specs.bytes.Bytes.{first_at, starts_with, is_due, value_of, number_of}
use Rattle.text.specs.Bound.{BoundReport, bound_refused, bound_in, bound_report, if_bound}
use Rattle.text.specs.Text.{ReadReport, read_report, read_refused}
use Rattle.text.specs.Item.{if_item}
use Rattle.text.proofs.Laws.Bytewise.{first_at_le, number_of_none}

-- ---- the first line of a cut input
first_at_cut : (b n : ℕ) (l : List ℕ) → first_at b l < n → first_at b (take n l) ≡ first_at b l
unfolding first_at
first_at_cut b zero l h = absurd (omega (arith, h))
first_at_cut b (suc n) [] h = refl
first_at_cut b (suc n) (x ∷ l) h = go (eqb x b) (first_at_cut b n l) h
  where
    go : (t : Bool) → (first_at b l < n → first_at b (take n l) ≡ first_at b l) → cond t 0 (first_at b l + 1) < suc n
        → cond t 0 (first_at b (take n l) + 1) ≡ cond t 0 (first_at b l + 1)
    go true f h = refl
    go false f h = ap (λ (p : ℕ). p + 1) (f (omega (arith, h)))

first_at_late : (b k n : ℕ) (l : List ℕ) → k ≤ n → k ≤ first_at b l → k ≤ first_at b (take n l)
unfolding first_at
first_at_late b k zero l r h = omega (arith, r)
first_at_late b k (suc n) [] r h = h
first_at_late b k (suc n) (x ∷ l) r h = go (eqb x b) (first_at_late b (k - 1) n l (omega (arith, r))) h
  where
    go : (t : Bool) → (k - 1 ≤ first_at b l → k - 1 ≤ first_at b (take n l)) → k ≤ cond t 0 (first_at b l + 1) → k ≤ cond t 0 (first_at b (take n l) + 1)
    go true f h = h
    go false f h = let e : k - 1 ≤ first_at b (take n l) = f (omega (arith, h)) in omega (arith, e)

take_shorter : (p n : ℕ) (l : List ℕ) → p ≤ n → take p (take n l) ≡ take p l
take_shorter zero n l h = refl
take_shorter (suc p) zero l h = absurd (omega (arith, h))
take_shorter (suc p) (suc n) [] h = refl
take_shorter (suc p) (suc n) (x ∷ l) h = ap (λ (r : List ℕ). x ∷ r) (take_shorter p n l (omega (arith, h)))

-- ---- the bound line, by its first LF, its length and what stands before
abbrev bound_of : Bool → List ℕ → ℕ → BoundReport
bound_of ended line next = cond (ended && starts_with (ascii "bound=") line) (bound_in (number_of (drop (length (ascii "bound=")) line)) next) bound_refused

report_is : (t : List ℕ) → bound_report t ≡ bound_of (ltb (first_at 10 t) (length t)) (take (first_at 10 t) t) (first_at 10 t + 1)
unfolding bound_report is_due value_of
report_is t = refl

-- a line of more than 9 bytes is no bound line
malformed : (line : List ℕ) → 9 < length line → number_of (drop (length (ascii "bound=")) line) ≡ None
malformed line h =
    let k : length (drop 6 line) ≡ length line - 6 = length-drop 6 line in
    sym (number_of_none (drop 6 line) (λ e. omega (arith, h, k, e)) (λ e. omega (arith, h, k, e)) (λ e. omega (arith, h, k, e)))

long_refused : (d : Bool) (line : List ℕ) (next : ℕ) → 9 < length line → bound_of d line next ≡ bound_refused
long_refused d line next h = go (d && starts_with (ascii "bound=") line)
  where
    go : (x : Bool) → cond x (bound_in (number_of (drop (length (ascii "bound=")) line)) next) bound_refused ≡ bound_refused
    go false = refl
    go true = ap (λ (n : Option ℕ). bound_in n next) (malformed line h)

next_most : (d : Bool) (line : List ℕ) (next : ℕ) → (bound_of d line next).next ≤ next
next_most d line next = go (d && starts_with (ascii "bound=") line) (number_of (drop (length (ascii "bound=")) line))
  where
    go : (x : Bool) (n : Option ℕ) → (cond x (bound_in n next) bound_refused).next ≤ next
    go false n = omega arith
    go true None = omega arith
    go true (Some n) = omega arith

-- ---- a text of more than 8,192 bytes is refused with 1
long_text : (t : List ℕ) → 8192 < length t → read_report t ≡ read_refused 1 0
unfolding read_report
long_text t h = rw (lt-ltb 8192 (length t) h)

-- ---- the answer of a call behind the bound line and the text: a bound line has at most 10 bytes, and more than 8,192 follow
module _ {A : Type 0} (call : ℕ → ReadReport → A) (refused : ℕ → A) (n : ℕ) (t : List ℕ) (enough : 8202 < n) where
  module _ (long : n < length t) where
    abbrev cut : List ℕ
    cut = take n t

    cut_length : length cut ≡ n
    cut_length = omega (arith, length-take n t, long)

    module _ (short : first_at 10 t ≤ 9) where
      same_place : first_at 10 cut ≡ first_at 10 t
      same_place = first_at_cut 10 n t (omega (arith, short, enough))

      same_line : take (first_at 10 t) cut ≡ take (first_at 10 t) t
      same_line = take_shorter (first_at 10 t) n t (omega (arith, short, enough))

      same_ended : ltb (first_at 10 t) (length cut) ≡ ltb (first_at 10 t) (length t)
      same_ended =
          lt-ltb (first_at 10 t) (length cut) (omega (arith, short, enough, cut_length))
          ∙ sym (lt-ltb (first_at 10 t) (length t) (omega (arith, short, enough, long)))

      same_bound : bound_report cut ≡ bound_report t
      same_bound =
          report_is cut
          ∙ ap (λ (p : ℕ). bound_of (ltb p (length cut)) (take p cut) (p + 1)) same_place
          ∙ (λ i. bound_of (same_ended i) (same_line i) (first_at 10 t + 1))
          ∙ sym (report_is t)

      next_le : (bound_report t).next ≤ 10
      next_le =
          let e : (bound_report t).next ≡ (bound_of (ltb (first_at 10 t) (length t)) (take (first_at 10 t) t) (first_at 10 t + 1)).next = ap
          (λ (b : BoundReport). b.next) (report_is t) in
          omega (arith, e, next_most (ltb (first_at 10 t) (length t)) (take (first_at 10 t) t) (first_at 10 t + 1), short)

      same_text : read_report (drop (bound_report t).next cut) ≡ read_report (drop (bound_report t).next t)
      same_text =
          long_text (drop (bound_report t).next cut) (omega (arith, length-drop (bound_report t).next cut, cut_length, next_le, enough))
          ∙ sym (long_text (drop (bound_report t).next t) (omega (arith, length-drop (bound_report t).next t, next_le, enough, long)))

      short_line : if_item call refused cut ≡ if_item call refused t
      short_line =
          ap (λ (b : BoundReport). if_bound b (λ bound next. call bound (read_report (drop next cut))) refused) same_bound
          ∙ ap (λ (r : ReadReport). if_bound (bound_report t) (λ bound next. call bound r) refused) same_text

    late_refused : (l : List ℕ) → 9 < first_at 10 l → bound_report l ≡ bound_refused
    late_refused l h =
        report_is l ∙ long_refused (ltb (first_at 10 l) (length l)) (take (first_at 10 l) l) (first_at 10 l + 1)
        (omega (arith, length-take (first_at 10 l) l, first_at_le 10 l, h))

    late_cut : 9 < first_at 10 t → 9 < first_at 10 cut
    late_cut h = first_at_late 10 10 n t (omega (arith, enough)) h

    long_line : 9 < first_at 10 t → if_item call refused cut ≡ if_item call refused t
    long_line h =
        ap (λ (b : BoundReport). if_bound b (λ bound next. call bound (read_report (drop next cut))) refused) (late_refused cut (late_cut h))
        ∙ ap (λ (b : BoundReport). if_bound b (λ bound next. call bound (read_report (drop next t))) refused) (sym (late_refused t h))

    cut_same : if_item call refused cut ≡ if_item call refused t
    cut_same = go (ltb 9 (first_at 10 t)) refl
      where
        go : (b : Bool) → ltb 9 (first_at 10 t) ≡ b → if_item call refused cut ≡ if_item call refused t
        go true e = long_line (ltb-true 9 (first_at 10 t) e)
        go false e = short_line (ltb-false 9 (first_at 10 t) e)

  -- an input of any length has the answer of its first n bytes, for n at least 8,203
  pub cutting : if_item call refused (take n t) ≡ if_item call refused t
  cutting = go (ltb n (length t)) refl
    where
      go : (b : Bool) → ltb n (length t) ≡ b → if_item call refused (take n t) ≡ if_item call refused t
      go true e = cut_same (ltb-true n (length t) e)
      go false e = ap (if_item call refused) (take_all n t (ltb-false n (length t) e))
