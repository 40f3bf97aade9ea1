-- The literals of a text whatever the forms of its lines: what they are line by line, and that those counted by the first pass are the same as those
-- of the lines that have the form.
use Rattle.std.specs.Prelude.{Option, Some, None}
use Prim.Native.Nat.{ℕ, zero, suc, ◌+◌, ◌-◌, ◌≤◌}
use mathlib.Core.Path.{◌≡◌, refl, sym, ap, ◌∙◌}
use mathlib.Core.Logic.{◌⊎◌, inl, inr, ⊎_elim}
use mathlib.Core.List.{List, [], ◌∷◌, ◌++◌, map, foldl, foldl-append}
use mathlib.Core.Bool.{Bool, true, false, cond, ◌&&◌, ◌||◌, and-eq-true_iff}
use native.Mathlib.Omega.{arith}
use lib.ListN.{length, take}
use lib.Dec.{ltb, leb, eqb}
use borrow.Author.Tests.{ne_eqb, eqb-true}
use Rattle.text.specs.bytes.Ascii.{ascii}
use Rattle.text.specs.bytes.Bytes.{starts_with, split_on}
use Rattle.output.specs.Literals.{are_literals, literal_of}
use Rattle.output.specs.Lines.{is_text, words_of, is_values, in_place, form_of}
use Rattle.output.specs.Tokens.{Token, formed, literal, literals_by, line_tokens, last_tokens, part_tokens, tokens_of, literals_in}
use Rattle.output.specs.OutputCall.{is_no_fault}
use Rattle.output.specs.Counting.{words_left, literals_left, literal_up_to, count_line, count_literal, count}
use Rattle.output.specs.Placing.{line_literals, part_literals, literals_of}
use Rattle.output.specs.declared.lines.LineForm.{LineForm}
use Rattle.output.specs.declared.lines.LineForm.TheVariants.{Comment, Satisfiable, Unsatisfiable, Values}
use Rattle.output.specs.declared.literals.Literal.{Literal}
use Rattle.output.specs.declared.literals.Literals.{Literals}
use Rattle.output.specs.declared.variables.Variables.{Variables}
use Rattle.output.specs.declared.reading.Reading.{Reading}
use Rattle.output.proofs.TokenLaws.{ByLine}
use Rattle.output.proofs.CapLaws.{cut}
use Rattle.output.proofs.CountLaws.{count_stays, line_case, literal_case, count_rises}

-- ---- the literals of a line
pub left_is : (l : Literals) {n : Variables} {ws : List (List ℕ)} → l.variables ≡ n → words_left l.words ≡ ws → literals_left l ≡ map (literal_up_to n.most) ws
left_is l e h = rw (e, h)

pub literals_by_line : (read : List ℕ → Literal) → ByLine (part_literals read) (line_literals read) (λ l. [])
unfolding part_literals
literals_by_line read = record { one = λ l. refl; more = λ l m ps. refl }

-- ---- numbers cut off: no variable is above n + 1
map_app : (n : ℕ) (a b : List Literal) → map (cut n) (a ++ b) ≡ map (cut n) a ++ map (cut n) b
map_app n [] b = refl
map_app n (l ∷ a) b = ap (λ (ls : List Literal). cut n l ∷ ls) (map_app n a b)

words_cut : (n : ℕ) (ws : List (List ℕ)) → map (literal_up_to n) ws ≡ map (cut n) (map literal_of ws)
unfolding literal_of literal_up_to
words_cut n [] = refl
words_cut n (w ∷ ws) = ap (λ (ls : List Literal). literal_up_to n w ∷ ls) (words_cut n ws)

line_cut : (n : ℕ) (l : List ℕ) → line_literals (literal_up_to n) l ≡ map (cut n) (line_literals literal_of l)
unfolding line_literals
line_cut n l = go (starts_with (ascii "v ") l)
  where
    go : (t : Bool) → cond t (map (literal_up_to n) (words_of l)) [] ≡ map (cut n) (cond t (map literal_of (words_of l)) [])
    go true = words_cut n (words_of l)
    go false = refl

parts_cut : (n : ℕ) (ps : List (List ℕ)) → part_literals (literal_up_to n) ps ≡ map (cut n) (part_literals literal_of ps)
unfolding part_literals
parts_cut n [] = refl
parts_cut n (l ∷ []) = refl
parts_cut n (l ∷ m ∷ ps) =
    rw (line_cut n l, parts_cut n (m ∷ ps)) (sym (map_app n (line_literals literal_of l) (part_literals literal_of (m ∷ ps))))

pub literals_cut : (n : ℕ) (t : List ℕ) → literals_of (literal_up_to n) t ≡ map (cut n) (literals_of literal_of t)
unfolding literals_of
literals_cut n t = parts_cut n (split_on 10 t)

-- ---- a line has the literals that its tokens have, or is malformed
other_key : (x y : ℕ) (k j l : List ℕ) → (y ≡ x → ⊥) → starts_with (x ∷ k) l ≡ true → starts_with (y ∷ j) l ≡ false
unfolding starts_with
other_key x y k j [] other h = refl
other_key x y k j (z ∷ l) other h =
    let same = eqb-true x z ((and-eq-true_iff (eqb x z) (starts_with k l)).0 h).0 in
    rw (ne_eqb y z (λ q. other (q ∙ sym same)))

text_key : (k l : List ℕ) → is_text k l ≡ true → starts_with k l ≡ true
unfolding is_text
text_key k l h = ((and-eq-true_iff (eqb (length l) (length k)) (starts_with k l)).0 h).1

words_in : (read : List ℕ → Literal) (ws : List (List ℕ)) → literals_in (map (λ w. literal (read w)) ws) ≡ map read ws
unfolding literals_in
words_in read [] = refl
words_in read (w ∷ ws) = ap (λ (ls : List Literal). read w ∷ ls) (words_in read ws)

-- the form by the tests that are made of a line
abbrev form_by : Bool → Bool → Bool → Bool → Option LineForm
form_by a b c d = cond a (Some Comment) (cond b (Some Satisfiable) (cond c (Some Unsatisfiable) (cond d (Some Values) None)))

line_same : (read : List ℕ → Literal) (l : List ℕ) → (form_of l ≡ None) ⊎ (literals_in (literals_by read (form_of l) l) ≡ line_literals read l)
unfolding form_of is_values line_literals literals_in
line_same read l =
    go (starts_with (ascii "c ") l) (is_text (ascii "s SATISFIABLE") l) (is_text (ascii "s UNSATISFIABLE") l) (starts_with (ascii "v ") l)
    (are_literals (words_of l))
    (λ h. other_key 99 118 (32 ∷ []) (32 ∷ []) l (λ q. omega (arith, q)) h)
    (λ h. other_key 115 118 _ (32 ∷ []) l (λ q. omega (arith, q)) (text_key (ascii "s SATISFIABLE") l h))
    (λ h. other_key 115 118 _ (32 ∷ []) l (λ q. omega (arith, q)) (text_key (ascii "s UNSATISFIABLE") l h))
  where
    none : (v : Bool) → v ≡ false → [] ≡ cond v (map read (words_of l)) []
    none v h = rw h

    go : (a b c v d : Bool) → (a ≡ true → v ≡ false) → (b ≡ true → v ≡ false) → (c ≡ true → v ≡ false)
        → (form_by a b c (v && d) ≡ None) ⊎ (literals_in (literals_by read (form_by a b c (v && d)) l) ≡ cond v (map read (words_of l)) [])
    go true b c v d p q r = inr (none v (p refl))
    go false true c v d p q r = inr (none v (q refl))
    go false false true v d p q r = inr (none v (r refl))
    go false false false true true p q r = inr (words_in read (words_of l))
    go false false false true false p q r = inl refl
    go false false false false d p q r = inl refl

-- ---- so many literals as are counted are the same
-- no more variables are counted than there are literals
step_few : (n limit : ℕ) (l : Literal) (r : Reading) → (count_literal n limit l r).named ≤ r.named + 1
unfolding count_literal
step_few n limit l r = go (is_no_fault r.fault) (eqb l.variable 0) (eqb r.named n) (ltb n l.variable || leb limit r.named)
  where
    go : (a b c d : Bool) → (literal_case r a b c d).named ≤ r.named + 1
    go true true true d = omega arith
    go true true false d = omega arith
    go true false c true = omega arith
    go true false c false = omega arith
    go false b c d = omega arith

line_keeps : (f : Option LineForm) (r : Reading) → (count_line f r).named ≡ r.named
unfolding count_line
line_keeps f r = go (is_no_fault r.fault) (in_place r.stage f)
  where
    go : (a b : Bool) → (line_case r f a b).named ≡ r.named
    go true true = refl
    go true false = refl
    go false b = refl

-- a malformed line is a fault, so nothing is counted after it
malformed_fault : (r : Reading) → is_no_fault (count_line None r).fault ≡ false
unfolding count_line
malformed_fault r = go (is_no_fault r.fault) refl
  where
    go : (t : Bool) → is_no_fault r.fault ≡ t → is_no_fault (line_case r None t false).fault ≡ false
    go true e = refl
    go false e = e

malformed_ends : (n limit : ℕ) (ts : List Token) (r : Reading) → (foldl (count n limit) r (formed None ∷ ts)).named ≡ r.named
malformed_ends n limit ts r =
    ap (λ (q : Reading). q.named) (count_stays n limit ts (count_line None r) (malformed_fault r)) ∙ line_keeps None r

count_few : (n limit : ℕ) (ts : List Token) (r : Reading) → (foldl (count n limit) r ts).named ≤ r.named + length (literals_in ts)
unfolding literals_in
count_few n limit [] r = omega arith
count_few n limit (formed f ∷ ts) r = omega (arith, count_few n limit ts (count_line f r), line_keeps f r)
count_few n limit (literal l ∷ ts) r = omega (arith, count_few n limit ts (count_literal n limit l r), step_few n limit l r)

literals_app : (a b : List Token) → literals_in (a ++ b) ≡ literals_in a ++ literals_in b
unfolding literals_in
literals_app [] b = refl
literals_app (formed f ∷ a) b = literals_app a b
literals_app (literal l ∷ a) b = ap (λ (ls : List Literal). l ∷ ls) (literals_app a b)

-- what follows the same literals
take_after : (c : ℕ) (a x y : List Literal) → take (c - length a) x ≡ take (c - length a) y → take c (a ++ x) ≡ take c (a ++ y)
take_after c [] x y h = let all : c - 0 ≡ c = omega arith in rw all at h
take_after zero (l ∷ a) x y h = refl
take_after (suc c) (l ∷ a) x y h =
    let less : suc c - suc (length a) ≡ c - length a = omega arith in
    ap (λ (ls : List Literal). l ∷ ls) (take_after c a x y (rw less at h))

last_none : (l : List ℕ) → literals_in (last_tokens l) ≡ []
unfolding literals_in
last_none [] = refl
last_none (b ∷ l) = refl

module _ (n limit : ℕ) (read : List ℕ → Literal) where
  -- the first c literals of the parts, where at least c are counted from r on
  Same : List (List ℕ) → Type 0
  Same ps =
      (c : ℕ) (r : Reading) → r.named + c ≤ (foldl (count n limit) r (part_tokens read ps)).named
      → take c (literals_in (part_tokens read ps)) ≡ take c (part_literals read ps)

  line_more : (l : List ℕ) (ts : List Token) (ls : List Literal)
      → ((c : ℕ) (r : Reading) → r.named + c ≤ (foldl (count n limit) r ts).named → take c (literals_in ts) ≡ take c ls)
      → (c : ℕ) (r : Reading) → r.named + c ≤ (foldl (count n limit) r (line_tokens read l ++ ts)).named
      → take c (literals_in (line_tokens read l ++ ts)) ≡ take c (line_literals read l ++ ls)
  unfolding line_tokens literals_in
  line_more l ts ls rest c r few = ⊎_elim malformed alike (line_same read l)
    where
      malformed : form_of l ≡ None → take c (literals_in (line_tokens read l ++ ts)) ≡ take c (line_literals read l ++ ls)
      malformed e =
          let ended = malformed_ends n limit ts r in
          let none : c ≡ 0 = omega (arith, ended, rw e at few) in
          rw none

      alike : literals_in (literals_by read (form_of l) l) ≡ line_literals read l
          → take c (literals_in (line_tokens read l ++ ts)) ≡ take c (line_literals read l ++ ls)
      alike e =
          let line = line_tokens read l in
          let u = foldl (count n limit) r line in
          let both : foldl (count n limit) r (line ++ ts) ≡ foldl (count n limit) u ts = foldl-append (count n limit) r line ts in
          let more : r.named + c ≤ (foldl (count n limit) u ts).named = rw both at few in
          let mine : u.named ≤ r.named + length (literals_in line) = count_few n limit line r in
          let long : length (literals_in line) ≡ length (line_literals read l) = ap length e in
          let left : u.named + (c - length (line_literals read l)) ≤ (foldl (count n limit) u ts).named =
          omega (arith, more, mine, long, count_rises n limit ts u) in
          ap (take c) (literals_app line ts ∙ ap (λ (xs : List Literal). xs ++ literals_in ts) e)
          ∙ take_after c (line_literals read l) (literals_in ts) ls (rest (c - length (line_literals read l)) u left)

  parts_same : (ps : List (List ℕ)) → Same ps
  unfolding part_tokens part_literals Same literals_in
  parts_same [] c r few = refl
  parts_same (l ∷ []) c r few = ap (take c) (last_none l)
  parts_same (l ∷ m ∷ ps) c r few = line_more l (part_tokens read (m ∷ ps)) (part_literals read (m ∷ ps)) (parts_same (m ∷ ps)) c r few

  pub counted_same : (t : List ℕ) (c : ℕ) (r : Reading) → r.named + c ≤ (foldl (count n limit) r (tokens_of read t)).named
      → take c (literals_in (tokens_of read t)) ≡ take c (literals_of read t)
  unfolding tokens_of literals_of Same
  counted_same t c r few = parts_same (split_on 10 t) c r few
