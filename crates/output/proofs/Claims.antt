-- Which texts are accepted, and which bytes they leave: the judging, token by token, comes to what the forms and the literals of the text say.
use Rattle.std.specs.Prelude.{Option, Some, None}
use Prim.Native.Nat.{ℕ, zero, suc, ◌+◌, ◌-◌, ◌*◌, ◌≤◌, ◌<◌}
use mathlib.Core.Path.{◌≡◌, refl, sym, ap, ◌∙◌}
use mathlib.Core.Logic.{◌↔◌, ◌⊎◌, inl, inr, ⊎_elim}
use mathlib.Core.List.{List, [], ◌∷◌, ◌++◌, map, foldl, append-nil, tail}
use mathlib.Core.Bool.{Bool, true, false, not, cond, ◌&&◌, ◌||◌, or-false, false≢true, true≢false, and-eq-true_iff}
use native.Mathlib.Omega.{arith}
use lib.ListN.{length, get_or, replicate}
use lib.Seq.{append_snoc}
use lib.Dec.{ltb, leb, eqb}
use borrow.Author.Tests.{eq-eqb, ne_eqb, le-ltb, eqb-true, eqb-false, ltb-true, ltb-false, leb-true, not-true}
use Rattle.model.specs.Indexed.{sum_below}
use Rattle.model.proofs.IndexedLaws.{one_if, sum_same, sum_add, sum_one, sum_const, T_true, all_below_lem, get_d_list, length_list}
use Rattle.text.specs.bytes.Bytes.{is_digit, starts_with, split_on}
use Rattle.text.specs.bytes.Ascii.{ascii}
use Rattle.output.specs.declared.lines.LineForm.{LineForm}
use Rattle.output.specs.declared.lines.LineForm.TheVariants.{Comment, Satisfiable, Unsatisfiable, Values}
use Rattle.output.specs.declared.lines.Stage.{Stage}
use Rattle.output.specs.declared.lines.Stage.TheVariants.{BeforeStatus, InValues, Closed, Refuted}
use Rattle.output.specs.declared.literals.Literal.{Literal}
use Rattle.output.specs.declared.reading.Fault.{Fault}
use Rattle.output.specs.declared.reading.Fault.TheVariants.{OutOfFormOrPlace, AboveOrNamedBefore, Incomplete}
use Rattle.output.specs.Literals.{are_digits, is_positive, unsigned, names_variable, are_literals, number_after, literal_of}
use Rattle.output.specs.Lines.{is_text, words_of, is_values, form_of, in_place}
use Rattle.output.specs.Tokens.{Token, formed, literal, literals_by, line_tokens, part_tokens, tokens_of, literals_in}
use Rattle.output.specs.OutputCall.{Progress, start, is_named, all_named, is_no_fault, judge, judged, faulty, report_of, OutputReport}
use Rattle.output.specs.OutputCall.{output_report, output_accepted, is_bare, bytes_of, output_left}
use Rattle.output.specs.Named.{forms_in, times_named, is_negated, NamesOnce}
use Rattle.output.proofs.CountLaws.{judge_stays}
use Rattle.output.proofs.NamedLaws.{named_more, bare_more, named_below, none_named, below_more, all_full, all_each}

-- ---- what may follow a token of a text: after a line of literals one of them, after 0 none of the same line
data Next : Type 0 where
  must may none : Next

abbrev may_end : Next → Type 0
may_end must = ⊥
may_end may = Unit {0}
may_end none = Unit {0}

abbrev may_follow : Next → Token → Type 0
may_follow must (formed f) = ⊥
may_follow must (literal l) = Unit {0}
may_follow may (formed f) = Unit {0}
may_follow may (literal l) = Unit {0}
may_follow none (formed f) = Unit {0}
may_follow none (literal l) = ⊥

abbrev after_form : Option LineForm → Next
after_form None = none
after_form (Some Comment) = none
after_form (Some Satisfiable) = none
after_form (Some Unsatisfiable) = none
after_form (Some Values) = must

abbrev after : Token → Next
after (formed f) = after_form f
after (literal l) = cond (eqb l.variable 0) none may

unfoldable InOrder : Next → List Token → Type 0
InOrder next [] = may_end next
InOrder next (t ∷ ts) = may_follow next t × InOrder (after t) ts

-- no literal may come, so a line may
none_may : (ts : List Token) → InOrder none ts → InOrder may ts
unfolding InOrder
none_may [] o = tt
none_may (formed f ∷ ts) o = (tt, o.1)
none_may (literal l ∷ ts) o = absurd o.0

-- a word that names a variable is no 0
after_more : (n : ℕ) (l : List ℕ) → n ≤ number_after n l
unfolding number_after
after_more n [] = omega arith
after_more n (d ∷ l) = omega (arith, after_more (n * 10 + (d - 48)) l)

positive_number : (u : List ℕ) → is_positive u ≡ true → number_after 0 u ≡ 0 → ⊥
unfolding is_positive are_digits number_after
positive_number [] h z = false≢true h
positive_number (d ∷ l) h z =
    let both = (and-eq-true_iff (not (eqb d 48)) (is_digit d && are_digits l)).0 h in
    let other = eqb-false d 48 (not-true (eqb d 48) both.0) in
    let digit = ((and-eq-true_iff (is_digit d) (are_digits l)).0 both.1).0 in
    let low = leb-true 48 d ((and-eq-true_iff (leb 48 d) (leb d 57)).0 digit).0 in
    omega (arith, other, low, after_more (0 * 10 + (d - 48)) l, z)

variable_number_lem : (w : List ℕ) → names_variable w ≡ true → (literal_of w).variable ≡ 0 → ⊥
unfolding names_variable literal_of
variable_number_lem w h z = positive_number (unsigned w) h z

words_order : (ws : List (List ℕ)) (ts : List Token) → are_literals ws ≡ true → InOrder none ts
    → InOrder must (map (λ w. literal (literal_of w)) ws ++ ts)
unfolding are_literals InOrder
words_order [] ts h o = absurd (false≢true h)
words_order (w ∷ []) ts h o = (tt, go (eqb (literal_of w).variable 0))
  where
    go : (z : Bool) → InOrder (cond z none may) ts
    go true = o
    go false = none_may ts o
words_order (w ∷ v ∷ ws) ts h o =
    let both = (and-eq-true_iff (names_variable w) (are_literals (v ∷ ws))).0 h in
    let rest = words_order (v ∷ ws) ts both.1 o in
    (tt, rw (ne_eqb (literal_of w).variable 0 (variable_number_lem w both.0)) (tt, rest.1))

values_words : (l : List ℕ) → form_of l ≡ Some Values → are_literals (words_of l) ≡ true
unfolding form_of is_values
values_words l h =
    go (starts_with (ascii "c ") l) (is_text (ascii "s SATISFIABLE") l) (is_text (ascii "s UNSATISFIABLE") l) (starts_with (ascii "v ") l)
    (are_literals (words_of l)) h
  where
    go : (a b c d e : Bool)
        → cond a (Some Comment) (cond b (Some Satisfiable) (cond c (Some Unsatisfiable) (cond (d && e) (Some Values) None))) ≡ Some Values → e ≡ true
    go true b c d e h = cc
    go false true c d e h = cc
    go false false true d e h = cc
    go false false false false e h = cc
    go false false false true true h = refl
    go false false false true false h = cc

form_order : (f : Option LineForm) (l : List ℕ) (ts : List Token) → (f ≡ Some Values → are_literals (words_of l) ≡ true) → InOrder none ts
    → InOrder (after_form f) (literals_by literal_of f l ++ ts)
form_order None l ts h o = o
form_order (Some Comment) l ts h o = o
form_order (Some Satisfiable) l ts h o = o
form_order (Some Unsatisfiable) l ts h o = o
form_order (Some Values) l ts h o = words_order (words_of l) ts (h refl) o

parts_order : (ps : List (List ℕ)) → InOrder none (part_tokens literal_of ps)
unfolding InOrder part_tokens line_tokens
parts_order [] = tt
parts_order ([] ∷ []) = tt
parts_order ((b ∷ l) ∷ []) = (tt, tt)
parts_order (l ∷ m ∷ ps) = (tt, form_order (form_of l) l (part_tokens literal_of (m ∷ ps)) (values_words l) (parts_order (m ∷ ps)))

tokens_order : (t : List ℕ) → InOrder none (tokens_of literal_of t)
unfolding tokens_of
tokens_order t = parts_order (split_on 10 t)

-- a list with a first element has another length than none
more : {A : Type 0} {x : A} {xs : List A} → x ∷ xs ≡ [] → ⊥
more {A} {x} {xs} h = let z : suc (length xs) ≡ 0 = ap length h in omega (arith, z)

-- ---- judging from a place on, with no fault so far
abbrev going : Stage → ℕ → List Literal → Progress
going s i m = record { fault = None; line = i; stage = s; named = m }

abbrev report_at : Progress → OutputReport
report_at p = report_of p.fault p.line p.stage

abbrev outcome_of : Progress → ℕ
outcome_of p = (report_at p).outcome

-- a fault stays
refused_none : (f : Option Fault) (i : ℕ) (s : Stage) → is_no_fault f ≡ false → (report_of f i s).outcome ≡ 0
refused_none None i s h = absurd (true≢false h)
refused_none (Some OutOfFormOrPlace) i s h = refl
refused_none (Some AboveOrNamedBefore) i s h = refl
refused_none (Some Incomplete) i s h = refl

after_fault : (n : ℕ) (ts : List Token) (p : Progress) → is_no_fault p.fault ≡ false → outcome_of (foldl (judge n) p ts) ≡ 0
after_fault n ts p h = ap outcome_of (judge_stays n ts p h) ∙ refused_none p.fault p.line p.stage h

out_of_place : (n : ℕ) (s : Stage) (i : ℕ) (m : List Literal) (f : Option LineForm) (ts : List Token) → in_place s f ≡ false
    → outcome_of (foldl (judge n) (going s i m) (formed f ∷ ts)) ≡ 0
unfolding judge
out_of_place n s i m f ts h = rw h (after_fault n ts (faulty (Some OutOfFormOrPlace) (going s (i + 1) m)) refl)

-- ---- after the closing 0, and after `s UNSATISFIABLE`: only comments
abbrev OnlyComments : Stage → Type 0
OnlyComments s = (in_place s (Some Satisfiable) ≡ false) × (in_place s (Some Unsatisfiable) ≡ false) × (in_place s (Some Values) ≡ false)

-- where a judging ended
record EndsAt (n : ℕ) (p : Progress) (ts : List Token) (s : Stage) (m : List Literal) : Type 0 where
  last : ℕ
  ended : foldl (judge n) p ts ≡ going s last m

over_of : (n : ℕ) (ts : List Token) (s : Stage) (i : ℕ) (m : List Literal) → InOrder none ts → forms_in ts ≡ [] → EndsAt n (going s i m) ts s m
unfolding InOrder judge forms_in
over_of n [] s i m o h = record { last = i; ended = refl }
over_of n (formed (Some Comment) ∷ ts) s i m o h = let e = over_of n ts s (i + 1) m o.1 h in record { last = e.last; ended = e.ended }
over_of n (formed None ∷ ts) s i m o h = absurd (more h)
over_of n (formed (Some Satisfiable) ∷ ts) s i m o h = absurd (more h)
over_of n (formed (Some Unsatisfiable) ∷ ts) s i m o h = absurd (more h)
over_of n (formed (Some Values) ∷ ts) s i m o h = absurd (more h)
over_of n (literal l ∷ ts) s i m o h = absurd o.0

over_to : (n : ℕ) (ts : List Token) (s : Stage) (i : ℕ) (m : List Literal) → OnlyComments s → InOrder none ts
    → (outcome_of (foldl (judge n) (going s i m) ts) ≡ 0 → ⊥) → (forms_in ts ≡ []) × (literals_in ts ≡ [])
unfolding InOrder judge forms_in literals_in
over_to n [] s i m c o h = (refl, refl)
over_to n (formed (Some Comment) ∷ ts) s i m c o h = over_to n ts s (i + 1) m c o.1 h
over_to n (formed None ∷ ts) s i m c o h = absurd (h (out_of_place n s i m None ts refl))
over_to n (formed (Some Satisfiable) ∷ ts) s i m c o h = absurd (h (out_of_place n s i m (Some Satisfiable) ts c.0))
over_to n (formed (Some Unsatisfiable) ∷ ts) s i m c o h = absurd (h (out_of_place n s i m (Some Unsatisfiable) ts c.1))
over_to n (formed (Some Values) ∷ ts) s i m c o h = absurd (h (out_of_place n s i m (Some Values) ts c.2))
over_to n (literal l ∷ ts) s i m c o h = absurd o.0

-- ---- the lines of literals
-- after the literals m, each of ls names a variable from 1 to n that was not named before, and then all are named
unfoldable Completes : ℕ → List Literal → List Literal → Type 0
Completes n m [] = all_named n m ≡ true
Completes n m (l ∷ ls) = (l.variable ≡ 0 → ⊥) × (l.variable ≤ n) × (is_named l.variable m ≡ false) × Completes n (m ++ (l ∷ [])) ls

-- lines of literals, the last of which is 0, and what is judged when they end
record Closing (n i : ℕ) (m : List Literal) (ts : List Token) : Type 0 where
  lines : ℕ
  forms : forms_in ts ≡ replicate lines (Some Values)
  named : List Literal
  closing : Literal
  zero : closing.variable ≡ 0
  literals : literals_in ts ≡ named ++ (closing ∷ [])
  complete : Completes n m named
  ends : EndsAt n (going InValues i m) ts Closed (m ++ named)

-- the closing 0, and a literal before it
step_zero : (n : ℕ) (s : Stage) (i : ℕ) (m : List Literal) (l : Literal) (ts : List Token) → eqb l.variable 0 ≡ true → all_named n m ≡ true
    → foldl (judge n) (going s i m) (literal l ∷ ts) ≡ foldl (judge n) (going Closed i m) ts
unfolding judge
step_zero n s i m l ts z e = rw (z, e)

step_new : (n : ℕ) (s : Stage) (i : ℕ) (m : List Literal) (l : Literal) (ts : List Token) → eqb l.variable 0 ≡ false → ltb n l.variable ≡ false
    → is_named l.variable m ≡ false → foldl (judge n) (going s i m) (literal l ∷ ts) ≡ foldl (judge n) (going s i (m ++ (l ∷ []))) ts
unfolding judge
step_new n s i m l ts z e f = rw (z, e, f)

close_zero : (n i : ℕ) (m : List Literal) (l : Literal) (ts : List Token) → eqb l.variable 0 ≡ true → InOrder none ts
    → (outcome_of (foldl (judge n) (going InValues i m) (literal l ∷ ts)) ≡ 0 → ⊥) → Closing n i m (literal l ∷ ts)
unfolding judge forms_in literals_in Completes
close_zero n i m l ts z o h = go (all_named n m) refl
  where
    go : (b : Bool) → all_named n m ≡ b → Closing n i m (literal l ∷ ts)
    go true e =
        let same = step_zero n InValues i m l ts z e in
        let (forms, literals) = over_to n ts Closed i m (refl, refl, refl) o (λ q. h (ap outcome_of same ∙ q)) in
        let end = over_of n ts Closed i m o forms in
        record {
          lines = 0;
          forms = forms;
          named = [];
          closing = l;
          zero = eqb-true l.variable 0 z;
          literals = ap (λ (ls : List Literal). l ∷ ls) literals;
          complete = e;
          ends = record { last = end.last; ended = rw (append-nil m) (same ∙ end.ended) };
        }
    go false e = absurd (h (rw (z, e) (after_fault n ts (faulty (Some Incomplete) (going InValues i m)) refl)))

close_next : (n i : ℕ) (m : List Literal) (l : Literal) (ts : List Token) → eqb l.variable 0 ≡ false
    → ((outcome_of (foldl (judge n) (going InValues i (m ++ (l ∷ []))) ts) ≡ 0 → ⊥) → Closing n i (m ++ (l ∷ [])) ts)
    → (outcome_of (foldl (judge n) (going InValues i m) (literal l ∷ ts)) ≡ 0 → ⊥) → Closing n i m (literal l ∷ ts)
unfolding judge forms_in literals_in Completes
close_next n i m l ts z rest h = go (ltb n l.variable) (is_named l.variable m) refl refl
  where
    fault : (ltb n l.variable || is_named l.variable m) ≡ true → ⊥
    fault e = h (rw (z, e) (after_fault n ts (faulty (Some AboveOrNamedBefore) (going InValues i m)) refl))

    go : (a b : Bool) → ltb n l.variable ≡ a → is_named l.variable m ≡ b → Closing n i m (literal l ∷ ts)
    go true b e f = absurd (fault (rw e))
    go false true e f = absurd (fault (rw (e, f)))
    go false false e f =
        let same = step_new n InValues i m l ts z e f in
        let c = rest (λ q. h (ap outcome_of same ∙ q)) in
        record {
          lines = c.lines;
          forms = c.forms;
          named = l ∷ c.named;
          closing = c.closing;
          zero = c.zero;
          literals = ap (λ (ls : List Literal). l ∷ ls) c.literals;
          complete = (eqb-false l.variable 0 z, ltb-false n l.variable e, f, c.complete);
          ends = record { last = c.ends.last; ended = rw (← (append_snoc m l c.named)) (same ∙ c.ends.ended) };
        }

values_to : (n : ℕ) (ts : List Token) (next : Next) (i : ℕ) (m : List Literal) → InOrder next ts
    → (outcome_of (foldl (judge n) (going InValues i m) ts) ≡ 0 → ⊥) → Closing n i m ts
unfolding InOrder judge forms_in literals_in
values_to n [] next i m o h = absurd (h refl)
values_to n (formed (Some Comment) ∷ ts) next i m o h =
    let c = values_to n ts none (i + 1) m o.1 h in
    record {
      lines = c.lines;
      forms = c.forms;
      named = c.named;
      closing = c.closing;
      zero = c.zero;
      literals = c.literals;
      complete = c.complete;
      ends = record { last = c.ends.last; ended = c.ends.ended };
    }
values_to n (formed None ∷ ts) next i m o h = absurd (h (out_of_place n InValues i m None ts refl))
values_to n (formed (Some Satisfiable) ∷ ts) next i m o h = absurd (h (out_of_place n InValues i m (Some Satisfiable) ts refl))
values_to n (formed (Some Unsatisfiable) ∷ ts) next i m o h = absurd (h (out_of_place n InValues i m (Some Unsatisfiable) ts refl))
values_to n (formed (Some Values) ∷ ts) next i m o h =
    let c = values_to n ts must (i + 1) m o.1 h in
    record {
      lines = suc c.lines;
      forms = ap (λ (fs : List (Option LineForm)). (Some Values) ∷ fs) c.forms;
      named = c.named;
      closing = c.closing;
      zero = c.zero;
      literals = c.literals;
      complete = c.complete;
      ends = record { last = c.ends.last; ended = c.ends.ended };
    }
values_to n (literal l ∷ ts) next i m o h = go (eqb l.variable 0) refl (λ q. values_to n ts may i (m ++ (l ∷ [])) q)
  where
    go : (b : Bool) → eqb l.variable 0 ≡ b
        → (InOrder may ts → (outcome_of (foldl (judge n) (going InValues i (m ++ (l ∷ []))) ts) ≡ 0 → ⊥) → Closing n i (m ++ (l ∷ [])) ts)
        → Closing n i m (literal l ∷ ts)
    go true e rest = close_zero n i m l ts e (rw e at o.1) h
    go false e rest = close_next n i m l ts e (rest (rw e at o.1)) h

-- the same from the forms and the literals
abbrev is_values_form : Option LineForm → Bool
is_values_form None = false
is_values_form (Some Comment) = false
is_values_form (Some Satisfiable) = false
is_values_form (Some Unsatisfiable) = false
is_values_form (Some Values) = true

values_first : (f : Option LineForm) (fs : List (Option LineForm)) (k : ℕ) → f ∷ fs ≡ replicate k (Some Values) → f ≡ Some Values
values_first f fs zero h = absurd (more h)
values_first f fs (suc k) h = cc

other_first : (f : Option LineForm) (fs : List (Option LineForm)) (k : ℕ) → f ∷ fs ≡ replicate k (Some Values) → is_values_form f ≡ false → ⊥
other_first f fs k h e = false≢true (sym e ∙ ap is_values_form (values_first f fs k h))

must_more : (ts : List Token) → InOrder must ts → literals_in ts ≡ [] → ⊥
unfolding InOrder literals_in
must_more [] o h = o
must_more (formed f ∷ ts) o h = o.0
must_more (literal l ∷ ts) o h = more h

-- without literals there is no line of them
no_lines : (ts : List Token) (next : Next) (k : ℕ) → InOrder next ts → literals_in ts ≡ [] → forms_in ts ≡ replicate k (Some Values) → forms_in ts ≡ []
unfolding InOrder literals_in forms_in
no_lines [] next k o h f = refl
no_lines (formed (Some Comment) ∷ ts) next k o h f = no_lines ts none k o.1 h f
no_lines (formed None ∷ ts) next k o h f = absurd (other_first None (forms_in ts) k f refl)
no_lines (formed (Some Satisfiable) ∷ ts) next k o h f = absurd (other_first (Some Satisfiable) (forms_in ts) k f refl)
no_lines (formed (Some Unsatisfiable) ∷ ts) next k o h f = absurd (other_first (Some Unsatisfiable) (forms_in ts) k f refl)
no_lines (formed (Some Values) ∷ ts) next k o h f = absurd (must_more ts o.1 h)
no_lines (literal l ∷ ts) next k o h f = absurd (more h)

values_of : (n : ℕ) (ts : List Token) (next : Next) (i : ℕ) (m : List Literal) (k : ℕ) (named : List Literal) (closing : Literal)
    → InOrder next ts → forms_in ts ≡ replicate k (Some Values) → closing.variable ≡ 0 → literals_in ts ≡ named ++ (closing ∷ []) → Completes n m named
    → report_at (foldl (judge n) (going InValues i m) ts) ≡ output_accepted 10
unfolding InOrder judge forms_in literals_in Completes
values_of n [] next i m k [] x o f z e c = absurd (more (sym e))
values_of n [] next i m k (l ∷ named) x o f z e c = absurd (more (sym e))
values_of n (formed (Some Comment) ∷ ts) next i m k named x o f z e c = values_of n ts none (i + 1) m k named x o.1 f z e c
values_of n (formed None ∷ ts) next i m k named x o f z e c = absurd (other_first None (forms_in ts) k f refl)
values_of n (formed (Some Satisfiable) ∷ ts) next i m k named x o f z e c = absurd (other_first (Some Satisfiable) (forms_in ts) k f refl)
values_of n (formed (Some Unsatisfiable) ∷ ts) next i m k named x o f z e c = absurd (other_first (Some Unsatisfiable) (forms_in ts) k f refl)
values_of n (formed (Some Values) ∷ ts) next i m zero named x o f z e c = absurd (more f)
values_of n (formed (Some Values) ∷ ts) next i m (suc k) named x o f z e c = values_of n ts must (i + 1) m k named x o.1 (ap tail f) z e c
values_of n (literal l ∷ ts) next i m k [] x o f z e c =
    let first : l ≡ x = cc in
    let test = eq-eqb l.variable 0 (ap (λ (y : Literal). y.variable) first ∙ z) in
    let order : InOrder none ts = rw test at o.1 in
    let end = over_of n ts Closed i m order (no_lines ts none k order (ap tail e) f) in
    ap report_at (step_zero n InValues i m l ts test c ∙ end.ended)
values_of n (literal l ∷ ts) next i m k (y ∷ named) x o f z e c =
    let first : y ≡ l = cc in
    let (nonzero, small, new, rest) = rw first at c in
    let test = ne_eqb l.variable 0 nonzero in
    ap report_at (step_new n InValues i m l ts test (le-ltb n l.variable small) new)
    ∙ values_of n ts may i (m ++ (l ∷ [])) k named x (rw test at o.1) f z (ap tail e) rest

-- ---- the first line that is no comment
-- `s SATISFIABLE` 1, `s UNSATISFIABLE` 2
abbrev status_of : List (Option LineForm) → ℕ
status_of [] = 0
status_of (None ∷ fs) = 0
status_of ((Some Comment) ∷ fs) = 0
status_of ((Some Satisfiable) ∷ fs) = 1
status_of ((Some Unsatisfiable) ∷ fs) = 2
status_of ((Some Values) ∷ fs) = 0

-- the status line f, after comments, leads to the stage s
record Status (n i : ℕ) (ts : List Token) (f : Option LineForm) (s : Stage) : Type 0 where
  rest : List Token
  line : ℕ
  forms : forms_in ts ≡ f ∷ forms_in rest
  literals : literals_in ts ≡ literals_in rest
  order : InOrder none rest
  same : foldl (judge n) (going BeforeStatus i []) ts ≡ foldl (judge n) (going s line []) rest

data Beginning (n i : ℕ) (ts : List Token) : Type 0 where
  no_status : outcome_of (foldl (judge n) (going BeforeStatus i []) ts) ≡ 0 → status_of (forms_in ts) ≡ 0 → Beginning n i ts
  is_satisfiable : Status n i ts (Some Satisfiable) InValues → Beginning n i ts
  is_unsatisfiable : Status n i ts (Some Unsatisfiable) Refuted → Beginning n i ts

past_comment : (n i : ℕ) (ts : List Token) → Beginning n (i + 1) ts → Beginning n i (formed (Some Comment) ∷ ts)
unfolding judge forms_in literals_in
past_comment n i ts (no_status a b) = no_status a b
past_comment n i ts (is_satisfiable a) =
    is_satisfiable (record { rest = a.rest; line = a.line; forms = a.forms; literals = a.literals; order = a.order; same = a.same })
past_comment n i ts (is_unsatisfiable a) =
    is_unsatisfiable (record { rest = a.rest; line = a.line; forms = a.forms; literals = a.literals; order = a.order; same = a.same })

beginning : (n : ℕ) (ts : List Token) (i : ℕ) → InOrder none ts → Beginning n i ts
unfolding InOrder judge forms_in literals_in
beginning n [] i o = no_status refl refl
beginning n (formed (Some Comment) ∷ ts) i o = past_comment n i ts (beginning n ts (i + 1) o.1)
beginning n (formed None ∷ ts) i o = no_status (out_of_place n BeforeStatus i [] None ts refl) refl
beginning n (formed (Some Satisfiable) ∷ ts) i o =
    is_satisfiable (record { rest = ts; line = i + 1; forms = refl; literals = refl; order = o.1; same = refl })
beginning n (formed (Some Unsatisfiable) ∷ ts) i o =
    is_unsatisfiable (record { rest = ts; line = i + 1; forms = refl; literals = refl; order = o.1; same = refl })
beginning n (formed (Some Values) ∷ ts) i o = no_status (out_of_place n BeforeStatus i [] (Some Values) ts refl) refl
beginning n (literal l ∷ ts) i o = absurd o.0

begun : (n : ℕ) (t : List ℕ) → Beginning n 0 (tokens_of literal_of t)
begun n t = beginning n (tokens_of literal_of t) 0 (tokens_order t)

report_is : (n : ℕ) (t : List ℕ) → output_report t n ≡ report_at (foldl (judge n) start (tokens_of literal_of t))
unfolding output_report judged
report_is n t = refl

-- ---- unsatisfiable
refuted_to : (n i : ℕ) (ts : List Token) → InOrder none ts → (outcome_of (foldl (judge n) (going Refuted i []) ts) ≡ 0 → ⊥)
    → (forms_in ts ≡ []) × (report_at (foldl (judge n) (going Refuted i []) ts) ≡ output_accepted 20)
refuted_to n i ts o h =
    let (forms, literals) = over_to n ts Refuted i [] (refl, refl, refl) o h in
    (forms, ap report_at (over_of n ts Refuted i [] o forms).ended)

-- The outcome is 20 if and only if the only line that is no comment is `s UNSATISFIABLE`.
pub unsatisfiable_iff : (n : ℕ) (t : List ℕ) → (output_report t n ≡ output_accepted 20) ↔ (forms_in (tokens_of literal_of t) ≡ Some Unsatisfiable ∷ [])
unsatisfiable_iff n t = rw (report_is n t) (go (begun n t))
  where
    tokens : List Token
    tokens = tokens_of literal_of t

    end : Progress
    end = foldl (judge n) start tokens

    go : Beginning n 0 tokens → (report_at end ≡ output_accepted 20) ↔ (forms_in tokens ≡ Some Unsatisfiable ∷ [])
    go (no_status a b) = (
      λ h. let e : outcome_of end ≡ 20 = ap (λ (r : OutputReport). r.outcome) h in absurd (omega (arith, a, e)),
      λ h. let e : status_of (forms_in tokens) ≡ 2 = ap status_of h in absurd (omega (arith, b, e)),
    )
    go (is_satisfiable a) = (
      λ h.
          let e : outcome_of end ≡ 20 = ap (λ (r : OutputReport). r.outcome) h in
          let same : outcome_of end ≡ outcome_of (foldl (judge n) (going InValues a.line []) a.rest) = ap outcome_of a.same in
          let c = values_to n a.rest none a.line [] a.order (λ q. omega (arith, e, same, q)) in
          let f : outcome_of end ≡ 10 = ap outcome_of (a.same ∙ c.ends.ended) in
          absurd (omega (arith, e, f)),
      λ h. let e : ◌≡◌ {A = ℕ} 1 2 = ap status_of (sym a.forms ∙ h) in absurd (omega (arith, e)),
    )
    go (is_unsatisfiable a) = (
      λ h.
          let e : outcome_of end ≡ 20 = ap (λ (r : OutputReport). r.outcome) h in
          let same : outcome_of end ≡ outcome_of (foldl (judge n) (going Refuted a.line []) a.rest) = ap outcome_of a.same in
          let (forms, accepted) = refuted_to n a.line a.rest a.order (λ q. omega (arith, e, same, q)) in
          a.forms ∙ ap (λ (fs : List (Option LineForm)). (Some Unsatisfiable) ∷ fs) forms,
      λ h.
          let forms : forms_in a.rest ≡ [] = ap tail (sym a.forms ∙ h) in
          ap report_at (a.same ∙ (over_of n a.rest Refuted a.line [] a.order forms).ended),
    )

-- ---- how often a variable is named
times_more : (v : ℕ) (m : List Literal) (l : Literal) → times_named v (m ++ (l ∷ [])) ≡ times_named v m + one_if (eqb l.variable v)
unfolding times_named
times_more v [] l = omega arith
times_more v (x ∷ m) l = omega (arith, times_more v m l)

times_unnamed : (v : ℕ) (m : List Literal) → is_named v m ≡ false → times_named v m ≡ 0
unfolding times_named is_named
times_unnamed v [] h = refl
times_unnamed v (x ∷ m) h = go (eqb x.variable v) (times_unnamed v m) h
  where
    go : (b : Bool) → (is_named v m ≡ false → times_named v m ≡ 0) → (b || is_named v m) ≡ false → cond b 1 0 + times_named v m ≡ 0
    go true rest h = absurd (true≢false h)
    go false rest h = omega (arith, rest h)

times_named_lem : (v : ℕ) (m : List Literal) → is_named v m ≡ true → 1 ≤ times_named v m
unfolding times_named is_named
times_named_lem v [] h = absurd (false≢true h)
times_named_lem v (x ∷ m) h = go (eqb x.variable v) (times_named_lem v m) h
  where
    go : (b : Bool) → (is_named v m ≡ true → 1 ≤ times_named v m) → (b || is_named v m) ≡ true → 1 ≤ cond b 1 0 + times_named v m
    go true rest h = omega arith
    go false rest h = omega (arith, rest h)

-- each of m was new
abbrev Distinct : List Literal → Type 0
Distinct m = (v : ℕ) → times_named v m ≡ one_if (is_named v m)

distinct_more : (m : List Literal) (l : Literal) → Distinct m → is_named l.variable m ≡ false → Distinct (m ++ (l ∷ []))
distinct_more m l d new v = times_more v m l ∙ rw (d v, named_more v m l) (go (eqb l.variable v) refl)
  where
    go : (b : Bool) → eqb l.variable v ≡ b → one_if (is_named v m) + one_if b ≡ one_if (is_named v m || b)
    go true e = let none : is_named v m ≡ false = ap (λ (w : ℕ). is_named w m) (sym (eqb-true l.variable v e)) ∙ new in rw none
    go false e = rw (or-false (is_named v m)) (omega arith)

complete_once : (n : ℕ) (ls m : List Literal) → Completes n m ls → Distinct m → (v : ℕ) → 1 ≤ v → v ≤ n → times_named v m + times_named v ls ≡ 1
unfolding Completes times_named
complete_once n [] m c d v low high = rw (d v, all_each n m v c (λ z. omega (arith, low, z)) high)
complete_once n (l ∷ ls) m (nonzero, small, new, rest) d v low high =
    let h = complete_once n ls (m ++ (l ∷ [])) rest (distinct_more m l d new) v low high in
    omega (arith, h, times_more v m l)

complete_many : (n : ℕ) (ls m : List Literal) → Completes n m ls → named_below n m + length ls ≡ n
unfolding Completes
complete_many n [] m c = let h = all_full n m c in omega (arith, h)
complete_many n (l ∷ ls) m (nonzero, small, new, rest) =
    let h = complete_many n ls (m ++ (l ∷ [])) rest in
    let one = below_more n m l nonzero small new in
    omega (arith, h, one)

-- how often the variables 1 to n are named, all together
abbrev total : ℕ → List Literal → ℕ
total n ls = sum_below (λ i. times_named (i + 1) ls) n

-- one literal names one of them, or none
abbrev one_of : ℕ → ℕ → ℕ
one_of n v = sum_below (λ i. one_if (eqb v (i + 1))) n

one_of_lem : (n v : ℕ) → (one_of n v ≡ 0) ⊎ ((one_of n v ≡ 1) × (v ≡ 0 → ⊥) × (v ≤ n))
one_of_lem n zero = inl (sum_same _ _ n (λ i q. ap one_if (ne_eqb 0 (i + 1) (λ e. omega (arith, e)))) ∙ sum_const n 0 ∙ omega arith)
one_of_lem n (suc w) = go (ltb w n) refl
  where
    back : (i : ℕ) → eqb (suc w) (i + 1) ≡ eqb i w
    back i = by (eqb i w) refl
      where
        by : (b : Bool) → eqb i w ≡ b → eqb (suc w) (i + 1) ≡ b
        by true e = let h = eqb-true i w e in eq-eqb (suc w) (i + 1) (omega (arith, h))
        by false e = ne_eqb (suc w) (i + 1) (λ q. eqb-false i w e (omega (arith, q)))

    one : one_of n (suc w) ≡ one_if (ltb w n)
    one = sum_same _ _ n (λ i q. ap one_if (back i)) ∙ sum_one w n

    go : (b : Bool) → ltb w n ≡ b → (one_of n (suc w) ≡ 0) ⊎ ((one_of n (suc w) ≡ 1) × (suc w ≡ 0 → ⊥) × (suc w ≤ n))
    go true e = inr (one ∙ ap one_if e, λ z. omega (arith, z), ltb-true w n e)
    go false e = inl (one ∙ ap one_if e)

total_none : (n : ℕ) → total n [] ≡ 0
unfolding times_named
total_none n = sum_const n 0 ∙ omega arith

total_more : (n : ℕ) (l : Literal) (ls : List Literal) → total n (l ∷ ls) ≡ one_of n l.variable + total n ls
unfolding times_named
total_more n l ls = sum_add (λ i. one_if (eqb l.variable (i + 1))) (λ i. times_named (i + 1) ls) n

total_few : (n : ℕ) (ls : List Literal) → total n ls ≤ length ls
total_few n [] = let h = total_none n in omega (arith, h)
total_few n (l ∷ ls) =
    let h = total_few n ls in
    let more = total_more n l ls in
    ⊎_elim (λ q. omega (arith, h, more, q)) (λ q. omega (arith, h, more, q.0)) (one_of_lem n l.variable)

-- as many as there are literals: none names another variable
total_full : (n : ℕ) (l : Literal) (ls : List Literal) → total n (l ∷ ls) ≡ suc (length ls)
    → (l.variable ≡ 0 → ⊥) × (l.variable ≤ n) × (total n ls ≡ length ls)
total_full n l ls h =
    let few = total_few n ls in
    let more = total_more n l ls in
    ⊎_elim (λ q. absurd (omega (arith, h, few, more, q))) (λ q. (q.1, q.2, omega (arith, h, more, q.0))) (one_of_lem n l.variable)

once_complete : (n : ℕ) (ls m : List Literal) → total n ls ≡ length ls → ((v : ℕ) → 1 ≤ v → v ≤ n → times_named v m + times_named v ls ≡ 1)
    → Completes n m ls
unfolding Completes times_named all_named
once_complete n [] m full once = (T_true _).0 ((all_below_lem (λ i. is_named (i + 1) m) n).1 (λ i q. (T_true _).1 (each i q)))
  where
    each : (i : ℕ) → i < n → is_named (i + 1) m ≡ true
    each i q = go (is_named (i + 1) m) refl
      where
        go : (b : Bool) → is_named (i + 1) m ≡ b → is_named (i + 1) m ≡ true
        go true e = e
        go false e =
            let h = once (i + 1) (omega arith) (omega (arith, q)) in
            absurd (omega (arith, h, times_unnamed (i + 1) m e))
once_complete n (l ∷ ls) m full once =
    let (nonzero, small, rest) = total_full n l ls full in
    let others = once_complete n ls (m ++ (l ∷ [])) rest (λ v low high. let h = once v low high in omega (arith, h, times_more v m l)) in
    (nonzero, small, new nonzero small (is_named l.variable m) refl, others)
  where
    new : (l.variable ≡ 0 → ⊥) → l.variable ≤ n → (b : Bool) → is_named l.variable m ≡ b → is_named l.variable m ≡ false
    new nonzero small true e =
        let h = once l.variable (omega (arith, nonzero)) small in
        let self = ap one_if (eq-eqb l.variable l.variable refl) in
        absurd (omega (arith, h, self, times_named_lem l.variable m e))
    new nonzero small false e = e

once_total : (n : ℕ) (ls : List Literal) → length ls ≡ n → ((v : ℕ) → 1 ≤ v → v ≤ n → times_named v ls ≡ 1) → total n ls ≡ length ls
once_total n ls many once = sum_same _ (λ i. 1) n (λ i q. once (i + 1) (omega arith) (omega (arith, q))) ∙ sum_const n 1 ∙ omega (arith, many)

-- ---- satisfiable
-- an accepted text, and the literals that its judging leaves
record Satisfied (n : ℕ) (t : List ℕ) : Type 0 where
  names : NamesOnce n t
  left : (judged n t).named ≡ names.named

satisfied : (n : ℕ) (t : List ℕ) → output_report t n ≡ output_accepted 10 → Satisfied n t
unfolding times_named is_named judged
satisfied n t h = go (begun n t)
  where
    tokens : List Token
    tokens = tokens_of literal_of t

    end : Progress
    end = foldl (judge n) start tokens

    ten : outcome_of end ≡ 10
    ten = ap (λ (r : OutputReport). r.outcome) (sym (report_is n t) ∙ h)

    go : Beginning n 0 tokens → Satisfied n t
    go (no_status a b) = absurd (omega (arith, a, ten))
    go (is_satisfiable a) =
        let same : outcome_of end ≡ outcome_of (foldl (judge n) (going InValues a.line []) a.rest) = ap outcome_of a.same in
        let c = values_to n a.rest none a.line [] a.order (λ q. omega (arith, ten, same, q)) in
        let many = complete_many n c.named [] c.complete in
        record {
          names = record {
            lines = c.lines;
            status = a.forms ∙ ap (λ (fs : List (Option LineForm)). (Some Satisfiable) ∷ fs) c.forms;
            named = c.named;
            zero = c.closing;
            is_zero = c.zero;
            closed = a.literals ∙ c.literals;
            many = omega (arith, many, none_named n);
            once = λ v low high. let k = complete_once n c.named [] c.complete (λ w. refl) v low high in omega (arith, k);
          };
          left = ap (λ (p : Progress). p.named) (a.same ∙ c.ends.ended);
        }
    go (is_unsatisfiable a) =
        let same : outcome_of end ≡ outcome_of (foldl (judge n) (going Refuted a.line []) a.rest) = ap outcome_of a.same in
        let (forms, accepted) = refuted_to n a.line a.rest a.order (λ q. omega (arith, ten, same, q)) in
        let twenty : outcome_of end ≡ 20 = same ∙ ap (λ (r : OutputReport). r.outcome) accepted in
        absurd (omega (arith, ten, twenty))

accepted_of : (n : ℕ) (t : List ℕ) → NamesOnce n t → output_report t n ≡ output_accepted 10
unfolding times_named
accepted_of n t h = report_is n t ∙ go (begun n t)
  where
    tokens : List Token
    tokens = tokens_of literal_of t

    status : status_of (forms_in tokens) ≡ 1
    status = ap status_of h.status

    go : Beginning n 0 tokens → report_at (foldl (judge n) start tokens) ≡ output_accepted 10
    go (no_status a b) = absurd (omega (arith, b, status))
    go (is_satisfiable a) =
        let all = once_complete n h.named [] (once_total n h.named h.many h.once)
        (λ v low high. let k = h.once v low high in omega (arith, k)) in
        let forms : forms_in a.rest ≡ replicate h.lines (Some Values) = ap tail (sym a.forms ∙ h.status) in
        ap report_at a.same
        ∙ values_of n a.rest none a.line [] h.lines h.named h.zero a.order forms h.is_zero (sym a.literals ∙ h.closed) all
    go (is_unsatisfiable a) = let two : status_of (forms_in tokens) ≡ 2 = ap status_of a.forms in absurd (omega (arith, status, two))

-- The outcome is 10 if and only if, but for comments, the text is `s SATISFIABLE` and then lines of literals: each variable from 1 to n once, then 0.
pub satisfiable_iff : (n : ℕ) (t : List ℕ) → (output_report t n ≡ output_accepted 10) ↔ NamesOnce n t
satisfiable_iff n t = (λ h. (satisfied n t h).names, accepted_of n t)

-- ---- the bytes left
-- as many as before
pub left_length : (t old : List ℕ) → length (output_left t old) ≡ length old
unfolding output_left bytes_of
left_length t old = go (eqb (output_report t (length old)).outcome 10)
  where
    go : (b : Bool) → length (cond b (bytes_of (length old) (judged (length old) t).named) old) ≡ length old
    go true = length_list (λ i. cond (is_bare (i + 1) (judged (length old) t).named) 1 0) (length old)
    go false = refl

-- with another outcome, those that stood there
pub left_same : (t old : List ℕ) → ((output_report t (length old)).outcome ≡ 10 → ⊥) → output_left t old ≡ old
unfolding output_left
left_same t old h = rw (ne_eqb (output_report t (length old)).outcome 10 h)

-- a variable that is named once is bare or has a minus, and not both
times_none : (v : ℕ) (ls : List Literal) → times_named v ls ≡ 0 → (is_bare v ls ≡ false) × (is_negated v ls ≡ false)
unfolding times_named is_bare is_negated
times_none v [] h = (refl, refl)
times_none v (l ∷ ls) h = go (eqb l.variable v) (times_none v ls) h
  where
    go : (b : Bool) → (times_named v ls ≡ 0 → (is_bare v ls ≡ false) × (is_negated v ls ≡ false)) → cond b 1 0 + times_named v ls ≡ 0
        → (((b && l.bare) || is_bare v ls) ≡ false) × (((b && not l.bare) || is_negated v ls) ≡ false)
    go true rest h = absurd (omega (arith, h))
    go false rest h = rest (omega (arith, h))

once_negated : (v : ℕ) (ls : List Literal) → times_named v ls ≡ 1 → is_negated v ls ≡ not (is_bare v ls)
unfolding times_named is_bare is_negated
once_negated v [] h = absurd (omega (arith, h))
once_negated v (l ∷ ls) h = go (eqb l.variable v) l.bare (once_negated v ls) h
  where
    go : (b x : Bool) → (times_named v ls ≡ 1 → is_negated v ls ≡ not (is_bare v ls)) → cond b 1 0 + times_named v ls ≡ 1
        → ((b && not x) || is_negated v ls) ≡ not ((b && x) || is_bare v ls)
    go true true rest h = (times_none v ls (omega (arith, h))).1
    go true false rest h = rw (times_none v ls (omega (arith, h))).0
    go false x rest h = rest (omega (arith, h))

one_true : (b : Bool) → (one_if b ≡ 1) ↔ (b ≡ true)
one_true true = (λ h. refl, λ h. refl)
one_true false = (λ h. absurd (omega (arith, h)), λ h. absurd (false≢true h))

zero_true : (b : Bool) → (one_if b ≡ 0) ↔ (not b ≡ true)
zero_true true = (λ h. absurd (omega (arith, h)), λ h. absurd (false≢true h))
zero_true false = (λ h. refl, λ h. refl)

-- A variable's byte, by the literals of the text.
module _ (t old : List ℕ) (accepted : output_report t (length old) ≡ output_accepted 10) (v : ℕ) (low : 1 ≤ v) (high : v ≤ length old) where
  byte_is : get_or (output_left t old) (v - 1) 0 ≡ one_if (is_bare v (literals_in (tokens_of literal_of t)))
  unfolding output_left bytes_of
  byte_is =
      let s = satisfied (length old) t accepted in
      let names = s.names in
      let place : v - 1 + 1 ≡ v = omega (arith, low) in
      let other = ne_eqb names.zero.variable v (λ q. omega (arith, q, names.is_zero, low)) in
      let bare : is_bare v (literals_in (tokens_of literal_of t)) ≡ is_bare v names.named =
      ap (is_bare v) names.closed ∙ bare_more v names.named names.zero ∙ rw other (or-false (is_bare v names.named)) in
      rw (accepted, bare, s.left)
      (get_d_list 0 (λ i. cond (is_bare (i + 1) names.named) 1 0) (length old) (v - 1) (omega (arith, low, high)) ∙ rw place)

  once_in : times_named v (literals_in (tokens_of literal_of t)) ≡ 1
  once_in =
      let names = (satisfied (length old) t accepted).names in
      let other = ap one_if (ne_eqb names.zero.variable v (λ q. omega (arith, q, names.is_zero, low))) in
      let once = names.once v low high in
      let more = ap (times_named v) names.closed ∙ times_more v names.named names.zero in
      omega (arith, more, once, other)

  -- The byte is 1 if and only if the variable's literal is bare.
  pub byte_one : (get_or (output_left t old) (v - 1) 0 ≡ 1) ↔ (is_bare v (literals_in (tokens_of literal_of t)) ≡ true)
  byte_one = rw byte_is (one_true (is_bare v (literals_in (tokens_of literal_of t))))

  -- The byte is 0 if and only if the variable's literal has a minus.
  pub byte_zero : (get_or (output_left t old) (v - 1) 0 ≡ 0) ↔ (is_negated v (literals_in (tokens_of literal_of t)) ≡ true)
  byte_zero = rw (byte_is, once_negated v (literals_in (tokens_of literal_of t)) once_in) (zero_true (is_bare v (literals_in (tokens_of literal_of t))))
