-- Counting variables up to a limit comes to remembering them, if the limit is where the first is named again.
use Rattle.std.specs.Prelude.{Option, Some, None}
use Prim.Native.Nat.{ℕ, zero, suc, ◌+◌, ◌≤◌, ◌<◌}
use mathlib.Core.Path.{◌≡◌, refl, sym, ap, ◌∙◌}
use mathlib.Core.Logic.{◌⊎◌, inl, inr, ⊎_elim}
use mathlib.Core.List.{List, [], ◌∷◌, ◌++◌, foldl}
use mathlib.Core.Bool.{Bool, true, false, cond, ◌||◌, false≢true}
use native.Mathlib.Omega.{arith}
use lib.ListN.{length, length-append, take}
use lib.Dec.{ltb, leb, eqb}
use borrow.Author.Tests.{lt-ltb, le-ltb, le-leb, lt-leb, eq-eqb, ne_eqb, leb-true, leb-false}
use Rattle.output.specs.declared.lines.LineForm.{LineForm}
use Rattle.output.specs.declared.lines.Stage.TheVariants.{Closed}
use Rattle.output.specs.declared.literals.Literal.{Literal}
use Rattle.output.specs.declared.reading.Fault.TheVariants.{OutOfFormOrPlace, AboveOrNamedBefore, Incomplete}
use Rattle.output.specs.declared.reading.Reading.{Reading}
use Rattle.output.specs.Lines.{in_place, stage_after}
use Rattle.output.specs.Tokens.{Token, formed, literal, literals_in}
use Rattle.output.specs.OutputCall.{Progress, start, is_named, all_named, is_no_fault, judge, judge_literal, faulty, on_next_line, at_stage, with_named}
use Rattle.output.specs.Counting.{counted_from, no_reading, count_line, count_literal, count}
use Rattle.output.specs.Placing.{fresh_after}
use Rattle.model.proofs.IndexedLaws.{lt_or_le}
use Rattle.output.proofs.NamedLaws.{named_below, none_named, below_more, below_few, full_all, all_full, all_each}

-- ---- after a fault nothing changes
pub judge_stays : (n : ℕ) (ts : List Token) (p : Progress) → is_no_fault p.fault ≡ false → foldl (judge n) p ts ≡ p
unfolding judge
judge_stays n [] p h = refl
judge_stays n (t ∷ ts) p h = rw h (judge_stays n ts p h)

count_still : (n limit : ℕ) (t : Token) (r : Reading) → is_no_fault r.fault ≡ false → count n limit r t ≡ r
unfolding count_line count_literal
count_still n limit (formed f) r h = rw h
count_still n limit (literal l) r h = rw h

pub count_stays : (n limit : ℕ) (ts : List Token) (r : Reading) → is_no_fault r.fault ≡ false → foldl (count n limit) r ts ≡ r
count_stays n limit [] r h = refl
count_stays n limit (t ∷ ts) r h = rw (count_still n limit t r h) (count_stays n limit ts r h)

-- ---- the same progress, counted
-- the limit is n, or where the first variable is named again, whichever comes first; `fresh` literals are to come before that one
pub record Limit (n limit k fresh : ℕ) : Type 0 where
  pub most : limit ≤ n
  pub first : limit ≤ k + fresh
  pub either : (limit ≡ n) ⊎ (limit ≡ k + fresh)

-- the variables named are all different and lie from 1 to n
pub record Tallied (n : ℕ) (named : List Literal) : Type 0 where
  pub tally : named_below n named ≡ length named

fresh_named : (named : List Literal) (l : Literal) (ls : List Literal) → is_named l.variable named ≡ true → fresh_after named (l ∷ ls) ≡ 0
unfolding fresh_after
fresh_named named l ls h = rw h

fresh_new : (named : List Literal) (l : Literal) (ls : List Literal) → is_named l.variable named ≡ false
    → fresh_after named (l ∷ ls) ≡ fresh_after (named ++ (l ∷ [])) ls + 1
unfolding fresh_after
fresh_new named l ls h = rw h

zero_or_not : (v : ℕ) → (v ≡ 0) ⊎ (v ≡ 0 → ⊥)
zero_or_not v = ⊎_elim (λ q. inr (λ z. omega (arith, q, z))) (λ q. inl (omega (arith, q))) (lt_or_le 0 v)

-- what is judged after a fault, and what is counted
both_stay : (n limit : ℕ) (ts : List Token) (p : Progress) → is_no_fault p.fault ≡ false
    → counted_from (foldl (judge n) p ts) ≡ foldl (count n limit) (counted_from p) ts
both_stay n limit ts p h = ap counted_from (judge_stays n ts p h) ∙ sym (count_stays n limit ts (counted_from p) h)

-- the rest of a text is counted as it is judged
abbrev pub Agree : ℕ → ℕ → List Token → Type 0
Agree n limit ts =
    (p : Progress) → Tallied n p.named → Limit n limit (length p.named) (fresh_after p.named (literals_in ts))
    → counted_from (foldl (judge n) p ts) ≡ foldl (count n limit) (counted_from p) ts

module _ (n limit : ℕ) where
  line_agrees : (f : Option LineForm) (ts : List Token) → Agree n limit ts → Agree n limit (formed f ∷ ts)
  unfolding judge count_line literals_in
  line_agrees f ts rest p a b = go (is_no_fault p.fault) refl
    where
      placed-or-not : (t : Bool)
          → counted_from (foldl (judge n) (cond t (at_stage (stage_after p.stage f) (on_next_line p)) (faulty (Some OutOfFormOrPlace) (on_next_line p))) ts)
          ≡ foldl (count n limit)
          (cond t
          (record { fault = None; line = p.line + 1; stage = stage_after p.stage f; named = length p.named })
          (record { fault = Some OutOfFormOrPlace; line = p.line + 1; stage = p.stage; named = length p.named }))
          ts
      placed-or-not true = rest (at_stage (stage_after p.stage f) (on_next_line p)) a b
      placed-or-not false = both_stay n limit ts (faulty (Some OutOfFormOrPlace) (on_next_line p)) refl

      go : (t : Bool) → is_no_fault p.fault ≡ t
          → counted_from (foldl (judge n) (judge n p (formed f)) ts) ≡ foldl (count n limit) (count_line f (counted_from p)) ts
      go true e = rw e (placed-or-not (in_place p.stage f))
      go false e = rw e (both_stay n limit ts p e)

  -- 0, the closing one: all are named if and only if they are n
  zero_agrees : (l : Literal) (ts : List Token) → Agree n limit ts → (p : Progress) → Tallied n p.named
      → Limit n limit (length p.named) (fresh_after p.named (literals_in (literal l ∷ ts))) → is_no_fault p.fault ≡ true → l.variable ≡ 0
      → counted_from (foldl (judge n) (judge_literal n l p) ts) ≡ foldl (count n limit) (count_literal n limit l (counted_from p)) ts
  unfolding count_literal
  zero_agrees l ts rest p a b ok z = rw (ok, eq-eqb l.variable 0 z) (go (all_named n p.named) refl)
    where
      go : (t : Bool) → all_named n p.named ≡ t
          → counted_from (foldl (judge n) (cond t (at_stage Closed p) (faulty (Some Incomplete) p)) ts)
          ≡ foldl (count n limit)
          (cond (eqb (length p.named) n)
          (record { fault = None; line = p.line; stage = Closed; named = length p.named })
          (record { fault = Some Incomplete; line = p.line; stage = p.stage; named = length p.named }))
          ts
      go true e =
          let full : length p.named ≡ n = sym a.tally ∙ all_full n p.named e in
          rw (eq-eqb (length p.named) n full)
          (rest (at_stage Closed p) a
          (record {
            most = b.most;
            first = omega (arith, b.most, full);
            either = inl (⊎_elim (λ q. q) (λ q. omega (arith, b.most, full)) b.either);
          }))
      go false e =
          let short : length p.named ≡ n → ⊥ = λ q. false≢true (sym e ∙ full_all n p.named (a.tally ∙ q)) in
          rw (ne_eqb (length p.named) n short) (both_stay n limit ts (faulty (Some Incomplete) p) refl)

  -- a variable above n is refused by both
  above_agrees : (l : Literal) (ts : List Token) (p : Progress) → is_no_fault p.fault ≡ true → (l.variable ≡ 0 → ⊥) → n < l.variable
      → counted_from (foldl (judge n) (judge_literal n l p) ts) ≡ foldl (count n limit) (count_literal n limit l (counted_from p)) ts
  unfolding count_literal
  above_agrees l ts p ok nonzero above =
      rw (ok, ne_eqb l.variable 0 nonzero, lt-ltb n l.variable above) (both_stay n limit ts (faulty (Some AboveOrNamedBefore) p) refl)

  -- a variable from 1 to n: named before if and only if the limit is reached
  within_agrees : (l : Literal) (ts : List Token) → Agree n limit ts → (p : Progress) → Tallied n p.named
      → Limit n limit (length p.named) (fresh_after p.named (literals_in (literal l ∷ ts))) → is_no_fault p.fault ≡ true → (l.variable ≡ 0 → ⊥)
      → l.variable ≤ n
      → counted_from (foldl (judge n) (judge_literal n l p) ts) ≡ foldl (count n limit) (count_literal n limit l (counted_from p)) ts
  unfolding count_literal literals_in
  within_agrees l ts rest p a b ok nonzero small =
      rw (ok, ne_eqb l.variable 0 nonzero, le-ltb n l.variable small) (go (is_named l.variable p.named) refl)
    where
      few : length p.named ≤ n
      few = omega (arith, a.tally, below_few n p.named)

      go : (t : Bool) → is_named l.variable p.named ≡ t
          → counted_from (foldl (judge n) (cond t (faulty (Some AboveOrNamedBefore) p) (with_named l p)) ts)
          ≡ foldl (count n limit)
          (cond (leb limit (length p.named))
          (record { fault = Some AboveOrNamedBefore; line = p.line; stage = p.stage; named = length p.named })
          (record { fault = None; line = p.line; stage = p.stage; named = length p.named + 1 }))
          ts
      go true e =
          let none = fresh_named p.named l (literals_in ts) e in
          rw (le-leb limit (length p.named) (omega (arith, b.first, none))) (both_stay n limit ts (faulty (Some AboveOrNamedBefore) p) refl)
      go false e =
          let one = fresh_new p.named l (literals_in ts) e in
          let room : length p.named < n =
          ⊎_elim (λ q. q)
          (λ q.
          let all = full_all n p.named (omega (arith, a.tally, few, q)) in
          absurd (false≢true (sym e ∙ all_each n p.named l.variable all nonzero small)))
          (lt_or_le (length p.named) n) in
          let before : length p.named < limit = ⊎_elim (λ q. omega (arith, room, q)) (λ q. omega (arith, one, q)) b.either in
          let more : length (p.named ++ (l ∷ [])) ≡ length p.named + 1 = length-append p.named (l ∷ []) in
          let c = rest (with_named l p) (record { tally = below_more n p.named l nonzero small e ∙ omega (arith, a.tally, more) })
          (record {
            most = b.most;
            first = omega (arith, b.first, one, more);
            either = ⊎_elim (λ q. inl q) (λ q. inr (omega (arith, one, more, q))) b.either;
          }) in
          rw (lt-leb limit (length p.named) before) (rw more at c)

  literal_agrees : (l : Literal) (ts : List Token) → Agree n limit ts → Agree n limit (literal l ∷ ts)
  unfolding judge
  literal_agrees l ts rest p a b = go (is_no_fault p.fault) refl
    where
      by-variable : is_no_fault p.fault ≡ true
          → counted_from (foldl (judge n) (judge_literal n l p) ts) ≡ foldl (count n limit) (count_literal n limit l (counted_from p)) ts
      by-variable e =
          ⊎_elim (λ z. zero_agrees l ts rest p a b e z)
          (λ z. ⊎_elim (λ q. above_agrees l ts p e z q) (λ q. within_agrees l ts rest p a b e z q) (lt_or_le n l.variable))
          (zero_or_not l.variable)

      go : (t : Bool) → is_no_fault p.fault ≡ t
          → counted_from (foldl (judge n) (judge n p (literal l)) ts) ≡ foldl (count n limit) (count_literal n limit l (counted_from p)) ts
      go true e = rw e (by-variable e)
      go false e = rw (e, count_still n limit (literal l) (counted_from p) e) (both_stay n limit ts p e)

  pub agrees : (ts : List Token) → Agree n limit ts
  agrees [] p a b = refl
  agrees (formed f ∷ ts) p a b = line_agrees f ts (agrees ts) p a b
  agrees (literal l ∷ ts) p a b = literal_agrees l ts (agrees ts) p a b

-- from the start: the limit is n, or where the first variable is named again
pub start_agrees : (n limit : ℕ) (ts : List Token) → limit ≤ n → limit ≤ fresh_after [] (literals_in ts)
    → (limit ≡ n) ⊎ (limit ≡ fresh_after [] (literals_in ts))
    → counted_from (foldl (judge n) start ts) ≡ foldl (count n limit) no_reading ts
start_agrees n limit ts most first either =
    agrees n limit ts start (record { tally = none_named n })
    (record { most = most; first = omega (arith, first); either = ⊎_elim (λ q. inl q) (λ q. inr (omega (arith, q))) either })

-- every text has such a limit
pub some_limit : (n : ℕ) (ts : List Token) → (limit : ℕ) × (counted_from (foldl (judge n) start ts) ≡ foldl (count n limit) no_reading ts)
some_limit n ts =
    let fresh = fresh_after [] (literals_in ts) in
    ⊎_elim (λ q. (n, start_agrees n n ts (omega arith) (omega (arith, q)) (inl refl)))
    (λ q. (fresh, start_agrees n fresh ts (omega (arith, q)) (omega arith) (inr refl)))
    (lt_or_le n fresh)

-- ---- a limit that is not reached
-- a line, and a literal, by the tests that are made of it
abbrev pub line_case : Reading → Option LineForm → Bool → Bool → Reading
line_case r f a b =
    cond a
    (cond b
    (record { fault = None; line = r.line + 1; stage = stage_after r.stage f; named = r.named })
    (record { fault = Some OutOfFormOrPlace; line = r.line + 1; stage = r.stage; named = r.named }))
    r

abbrev pub literal_case : Reading → Bool → Bool → Bool → Bool → Reading
literal_case r a b c d =
    cond a
    (cond b
    (cond c
    (record { fault = None; line = r.line; stage = Closed; named = r.named })
    (record { fault = Some Incomplete; line = r.line; stage = r.stage; named = r.named }))
    (cond d
    (record { fault = Some AboveOrNamedBefore; line = r.line; stage = r.stage; named = r.named })
    (record { fault = None; line = r.line; stage = r.stage; named = r.named + 1 })))
    r

-- the count never falls
step_rises : (n limit : ℕ) (t : Token) (r : Reading) → r.named ≤ (count n limit r t).named
unfolding count_line count_literal
step_rises n limit (formed f) r = go (is_no_fault r.fault) (in_place r.stage f)
  where
    go : (a b : Bool) → r.named ≤ (line_case r f a b).named
    go true true = omega arith
    go true false = omega arith
    go false b = omega arith
step_rises n limit (literal l) r = go (is_no_fault r.fault) (eqb l.variable 0) (eqb r.named n) (ltb n l.variable || leb limit r.named)
  where
    go : (a b c d : Bool) → r.named ≤ (literal_case r a b c d).named
    go true true true d = omega arith
    go true true false d = omega arith
    go true false c true = omega arith
    go true false c false = omega arith
    go false b c d = omega arith

pub count_rises : (n limit : ℕ) (ts : List Token) (r : Reading) → r.named ≤ (foldl (count n limit) r ts).named
count_rises n limit [] r = omega arith
count_rises n limit (t ∷ ts) r = omega (arith, step_rises n limit t r, count_rises n limit ts (count n limit r t))

-- a token is counted under a limit up to n as under n, or else is one more variable
one_more : (n limit : ℕ) (t : Token) (r : Reading) → limit ≤ n → (count n limit r t ≡ count n n r t) ⊎ ((count n n r t).named ≡ r.named + 1)
unfolding count_line count_literal
one_more n limit (formed f) r h = inl refl
one_more n limit (literal l) r h =
    go (is_no_fault r.fault) (eqb l.variable 0) (eqb r.named n) (ltb n l.variable) (leb n r.named)
    (λ e. le-leb limit r.named (omega (arith, h, leb-true n r.named e)))
  where
    go : (a b c d y : Bool) → (y ≡ true → leb limit r.named ≡ true)
        → (literal_case r a b c (d || leb limit r.named) ≡ literal_case r a b c (d || y)) ⊎ ((literal_case r a b c (d || y)).named ≡ r.named + 1)
    go false b c d y e = inl refl
    go true true c d y e = inl refl
    go true false c true y e = inl refl
    go true false c false true e = inl (rw (e refl))
    go true false c false false e = inr refl

-- both limits lie above the count so far
same_under : (n limit : ℕ) (t : Token) (r : Reading) → limit ≤ n → leb limit r.named ≡ false → count n limit r t ≡ count n n r t
unfolding count_line count_literal
same_under n limit (formed f) r h e = refl
same_under n limit (literal l) r h e = rw (e, lt-leb n r.named (omega (arith, h, leb-false limit r.named e)))

-- so a limit that the count under n does not pass changes nothing
pub limit_free : (n limit : ℕ) (ts : List Token) (r : Reading) → limit ≤ n → (foldl (count n n) r ts).named ≤ limit
    → foldl (count n limit) r ts ≡ foldl (count n n) r ts
limit_free n limit [] r h few = refl
limit_free n limit (t ∷ ts) r h few =
    ap (λ (q : Reading). foldl (count n limit) q ts) (same (leb limit r.named) refl) ∙ limit_free n limit ts (count n n r t) h few
  where
    same : (b : Bool) → leb limit r.named ≡ b → count n limit r t ≡ count n n r t
    same true e =
        ⊎_elim (λ q. q) (λ q. absurd (omega (arith, q, count_rises n n ts (count n n r t), few, leb-true limit r.named e)))
        (one_more n limit t r h)
    same false e = same_under n limit t r h e

-- the count never passes its limit
step_most : (n limit : ℕ) (t : Token) (r : Reading) → r.named ≤ limit → (count n limit r t).named ≤ limit
unfolding count_line count_literal
step_most n limit (formed f) r h = go (is_no_fault r.fault) (in_place r.stage f)
  where
    go : (a b : Bool) → (line_case r f a b).named ≤ limit
    go true true = h
    go true false = h
    go false b = h
step_most n limit (literal l) r h =
    go (is_no_fault r.fault) (eqb l.variable 0) (eqb r.named n) (ltb n l.variable) (leb limit r.named) (λ e. leb-false limit r.named e)
  where
    go : (a b c d x : Bool) → (x ≡ false → r.named < limit) → (literal_case r a b c (d || x)).named ≤ limit
    go true true true d x e = h
    go true true false d x e = h
    go true false c true x e = h
    go true false c false true e = h
    go true false c false false e = omega (arith, e refl)
    go false b c d x e = h

count_most : (n limit : ℕ) (ts : List Token) (r : Reading) → r.named ≤ limit → (foldl (count n limit) r ts).named ≤ limit
count_most n limit [] r h = h
count_most n limit (t ∷ ts) r h = count_most n limit ts (count n limit r t) (step_most n limit t r h)

-- ---- the two passes
-- how many are fresh among the first c
pub record FreshAmong (c fresh all : ℕ) : Type 0 where
  pub within : fresh ≤ c
  pub first : fresh ≤ all
  pub either : (fresh ≡ c) ⊎ (fresh ≡ all)

pub fresh_among : (named : List Literal) (c : ℕ) (ls : List Literal) → FreshAmong c (fresh_after named (take c ls)) (fresh_after named ls)
unfolding fresh_after
fresh_among named zero ls = record { within = omega arith; first = omega arith; either = inl refl }
fresh_among named (suc c) [] = record { within = omega arith; first = omega arith; either = inr refl }
fresh_among named (suc c) (l ∷ ls) = go (is_named l.variable named) (fresh_among (named ++ (l ∷ [])) c ls)
  where
    go : (t : Bool) → FreshAmong c (fresh_after (named ++ (l ∷ [])) (take c ls)) (fresh_after (named ++ (l ∷ [])) ls)
        → FreshAmong (suc c) (cond t 0 (fresh_after (named ++ (l ∷ [])) (take c ls) + 1)) (cond t 0 (fresh_after (named ++ (l ∷ [])) ls + 1))
    go true h = record { within = omega arith; first = omega arith; either = inr refl }
    go false h = record {
      within = omega (arith, h.within);
      first = omega (arith, h.first);
      either = ⊎_elim (λ q. inl (omega (arith, q))) (λ q. inr (omega (arith, q))) h.either;
    }

-- the first pass stands if none of its variables is named again, and else the pass that ends at the first such literal
module _ (n : ℕ) (ts : List Token) {first : Reading} (passed : first ≡ foldl (count n n) no_reading ts)
    {fresh : ℕ} (found : fresh ≡ fresh_after [] (take first.named (literals_in ts))) where
  among : FreshAmong first.named fresh (fresh_after [] (literals_in ts))
  among = rw found (fresh_among [] first.named (literals_in ts))

  most : first.named ≤ n
  most = rw passed (count_most n n ts no_reading (omega arith))

  pub stands : fresh ≡ first.named → first ≡ counted_from (foldl (judge n) start ts)
  stands e = ⊎_elim (λ q. by n (omega arith) (omega (arith, q)) (inl refl) (omega (arith, most)))
      (λ q. by (fresh_after [] (literals_in ts)) (omega (arith, q)) (omega arith) (inr refl) (omega (arith, among.first, e)))
      (lt_or_le n (fresh_after [] (literals_in ts)))
    where
      by : (limit : ℕ) → limit ≤ n → limit ≤ fresh_after [] (literals_in ts) → (limit ≡ n) ⊎ (limit ≡ fresh_after [] (literals_in ts))
          → first.named ≤ limit → first ≡ counted_from (foldl (judge n) start ts)
      by limit a b c d =
          let few : (foldl (count n n) no_reading ts).named ≤ limit = rw (sym passed) d in
          passed ∙ sym (limit_free n limit ts no_reading a few) ∙ sym (start_agrees n limit ts a b c)

  pub again : (fresh ≡ first.named → ⊥) → {second : Reading} → second ≡ foldl (count n fresh) no_reading ts → second ≡ counted_from (foldl (judge n) start ts)
  again e q =
      let here : fresh ≡ fresh_after [] (literals_in ts) = ⊎_elim (λ z. absurd (e z)) (λ z. z) among.either in
      q ∙ sym (start_agrees n fresh ts (omega (arith, most, among.within)) (omega (arith, here)) (inr here))
