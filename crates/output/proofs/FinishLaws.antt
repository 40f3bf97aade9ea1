-- A text without a fault: the literals named are the first of the text, all different; after the closing 0 they are all variables. So the bytes placed
-- for them are the assignment.
use Rattle.std.specs.Prelude.{Option, Some, None}
use Prim.Native.Nat.{ℕ, suc, ◌+◌, ◌-◌, ◌≤◌, ◌<◌}
use mathlib.Core.Path.{◌≡◌, refl, sym, ap, ◌∙◌}
use mathlib.Core.Logic.{◌⊎◌, inl, inr, ⊎_elim}
use mathlib.Core.List.{List, [], ◌∷◌, ◌++◌, foldl, append-nil}
use mathlib.Core.Bool.{Bool, true, false, cond, ◌||◌, false≢true}
use native.Mathlib.Omega.{arith}
use lib.ListN.{length, get_or, take, replicate, length-append, length-replicate}
use lib.Seq.{append_snoc, take-append_seam, ext_get_or}
use lib.Dec.{ltb, leb, eqb}
use borrow.Author.Tests.{eqb-false, ltb-false}
use Rattle.model.specs.Indexed.{list_below}
use Rattle.model.proofs.IndexedLaws.{length_list, get_d_list}
use Rattle.output.specs.declared.lines.LineForm.{LineForm}
use Rattle.output.specs.declared.lines.LineForm.TheVariants.{Comment, Satisfiable, Unsatisfiable, Values}
use Rattle.output.specs.declared.lines.Stage.{Stage}
use Rattle.output.specs.declared.lines.Stage.TheVariants.{BeforeStatus, InValues, Closed, Refuted}
use Rattle.output.specs.declared.literals.Literal.{Literal}
use Rattle.output.specs.declared.reading.Fault.TheVariants.{OutOfFormOrPlace, AboveOrNamedBefore, Incomplete}
use Rattle.output.specs.Lines.{in_place, stage_after}
use Rattle.output.specs.Tokens.{Token, formed, literal, literals_in}
use Rattle.output.specs.OutputCall.{Progress, start, is_named, all_named, is_no_fault, judge, faulty, on_next_line, at_stage, with_named, is_bare, bytes_of}
use Rattle.output.specs.Placing.{fresh_after, Marking, placed}
use Rattle.output.proofs.NamedLaws.{named_below, none_named, below_more, all_full, all_each}
use Rattle.output.proofs.CountLaws.{judge_stays}
use Rattle.output.proofs.WindowLaws.{byte_of, no_marks, fresh_within, walked}

-- ---- literals that name different variables, and one more
fresh_head : (named : List Literal) (l : Literal) (ls : List Literal) → fresh_after named (l ∷ ls) ≡ length (l ∷ ls)
    → (is_named l.variable named ≡ false) × (fresh_after (named ++ (l ∷ [])) ls ≡ length ls)
unfolding fresh_after
fresh_head named l ls h = go (is_named l.variable named) h
  where
    go : (t : Bool) → cond t 0 (fresh_after (named ++ (l ∷ [])) ls + 1) ≡ length (l ∷ ls) → (t ≡ false) × (fresh_after (named ++ (l ∷ [])) ls ≡ length ls)
    go true h = absurd (omega (arith, h))
    go false h = (refl, omega (arith, h))

fresh_tail : (named : List Literal) (l : Literal) (ls : List Literal) → is_named l.variable named ≡ false
    → fresh_after (named ++ (l ∷ [])) ls ≡ length ls → fresh_after named (l ∷ ls) ≡ length (l ∷ ls)
unfolding fresh_after
fresh_tail named l ls new h = rw new (omega (arith, h))

fresh_snoc : (named ls : List Literal) (l : Literal) → fresh_after named ls ≡ length ls → is_named l.variable (named ++ ls) ≡ false
    → fresh_after named (ls ++ (l ∷ [])) ≡ length (ls ++ (l ∷ []))
unfolding fresh_after
fresh_snoc named [] l h new = fresh_tail named l [] (rw (append-nil named) at new) refl
fresh_snoc named (x ∷ ls) l h new =
    let f = fresh_head named x ls h in
    fresh_tail named x (ls ++ (l ∷ [])) f.0 (fresh_snoc (named ++ (x ∷ [])) ls l f.1 (rw (sym (append_snoc named x ls)) at new))

-- ---- what holds all along
abbrev is_closed : Stage → Bool
is_closed BeforeStatus = false
is_closed InValues = false
is_closed Closed = true
is_closed Refuted = false

pub record Kept (n : ℕ) (ls : List Literal) (p : Progress) : Type 0 where
  pub tally : named_below n p.named ≡ length p.named
  pub fresh : fresh_after [] p.named ≡ length p.named
  pub closed : is_closed p.stage ≡ true → all_named n p.named ≡ true
  pub rest : List Literal
  pub first : p.named ++ rest ≡ ls

-- the literals that are still to come follow those named, or all variables are named
record Going (n : ℕ) (ls : List Literal) (p : Progress) (ts : List Token) : Type 0 where
  kept : Kept n ls p
  next : (kept.rest ≡ literals_in ts) ⊎ (all_named n p.named ≡ true)

closed_before : (s : Stage) (f : Option LineForm) → is_closed (stage_after s f) ≡ true → is_closed s ≡ true
closed_before s None h = h
closed_before s (Some Comment) h = h
closed_before s (Some Satisfiable) h = absurd (false≢true h)
closed_before s (Some Unsatisfiable) h = absurd (false≢true h)
closed_before s (Some Values) h = h

Goes : ℕ → List Literal → List Token → Type 0
Goes n ls ts = (p : Progress) → Going n ls p ts → Kept n ls (foldl (judge n) p ts)

module _ (n : ℕ) (ls : List Literal) where
  stopped : (ts : List Token) (p q : Progress) → is_no_fault q.fault ≡ false → q.named ≡ p.named → q.stage ≡ p.stage → Kept n ls p
      → Kept n ls (foldl (judge n) q ts)
  stopped ts p q f e s k = rw (judge_stays n ts q f, e, s) (record { tally = k.tally; fresh = k.fresh; closed = k.closed; rest = k.rest; first = k.first })

  line_goes : (f : Option LineForm) (ts : List Token) → Goes n ls ts → Goes n ls (formed f ∷ ts)
  unfolding Goes judge literals_in
  line_goes f ts next p g = go (is_no_fault p.fault) refl
    where
      k : Kept n ls p
      k = g.kept

      placed-or-not : (t : Bool)
          → Kept n ls (foldl (judge n) (cond t (at_stage (stage_after p.stage f) (on_next_line p)) (faulty (Some OutOfFormOrPlace) (on_next_line p))) ts)
      placed-or-not true =
          next (at_stage (stage_after p.stage f) (on_next_line p))
          (record {
            kept = record {
              tally = k.tally;
              fresh = k.fresh;
              closed = λ h. k.closed (closed_before p.stage f h);
              rest = k.rest;
              first = k.first;
            };
            next = g.next;
          })
      placed-or-not false = stopped ts p (faulty (Some OutOfFormOrPlace) (on_next_line p)) refl refl refl k

      go : (t : Bool) → is_no_fault p.fault ≡ t → Kept n ls (foldl (judge n) (judge n p (formed f)) ts)
      go true e = rw e (placed-or-not (in_place p.stage f))
      go false e = rw e (stopped ts p p e refl refl k)

  -- a variable that is not named yet
  new_goes : (l : Literal) (ts : List Token) → Goes n ls ts → (p : Progress) → Going n ls p (literal l ∷ ts) → (l.variable ≡ 0 → ⊥) → l.variable ≤ n
      → is_named l.variable p.named ≡ false → Kept n ls (foldl (judge n) (with_named l p) ts)
  unfolding Goes literals_in
  new_goes l ts next p g nonzero small new =
      let k = g.kept in
      let not-all : all_named n p.named ≡ true → ⊥ = λ h. false≢true (sym new ∙ all_each n p.named l.variable h nonzero small) in
      let more : length (p.named ++ (l ∷ [])) ≡ length p.named + 1 = length-append p.named (l ∷ []) in
      let here : k.rest ≡ l ∷ literals_in ts = ⊎_elim (λ q. q) (λ q. absurd (not-all q)) g.next in
      next (with_named l p)
      (record {
        kept = record {
          tally = below_more n p.named l nonzero small new ∙ omega (arith, k.tally, more);
          fresh = fresh_snoc [] p.named l k.fresh new;
          closed = λ h. absurd (not-all (k.closed h));
          rest = literals_in ts;
          first = append_snoc p.named l (literals_in ts) ∙ ap (λ (r : List Literal). p.named ++ r) (sym here) ∙ k.first;
        };
        next = inl refl;
      })

  literal_goes : (l : Literal) (ts : List Token) → Goes n ls ts → Goes n ls (literal l ∷ ts)
  unfolding Goes judge
  literal_goes l ts next p g = go (is_no_fault p.fault) refl
    where
      k : Kept n ls p
      k = g.kept

      closing : (t : Bool) → all_named n p.named ≡ t → Kept n ls (foldl (judge n) (cond t (at_stage Closed p) (faulty (Some Incomplete) p)) ts)
      closing true e =
          next (at_stage Closed p)
          (record { kept = record { tally = k.tally; fresh = k.fresh; closed = λ h. e; rest = k.rest; first = k.first }; next = inr e })
      closing false e = stopped ts p (faulty (Some Incomplete) p) refl refl refl k

      naming : (a t : Bool) → (l.variable ≡ 0 → ⊥) → ltb n l.variable ≡ a → is_named l.variable p.named ≡ t
          → Kept n ls (foldl (judge n) (cond (a || t) (faulty (Some AboveOrNamedBefore) p) (with_named l p)) ts)
      naming true t z a e = stopped ts p (faulty (Some AboveOrNamedBefore) p) refl refl refl k
      naming false true z a e = stopped ts p (faulty (Some AboveOrNamedBefore) p) refl refl refl k
      naming false false z a e = new_goes l ts next p g z (ltb-false n l.variable a) e

      by_zero : (z : Bool) → eqb l.variable 0 ≡ z → Kept n ls (foldl (judge n)
          (cond z (cond (all_named n p.named) (at_stage Closed p) (faulty (Some Incomplete) p))
          (cond (ltb n l.variable || is_named l.variable p.named) (faulty (Some AboveOrNamedBefore) p) (with_named l p))) ts)
      by_zero true e = closing (all_named n p.named) refl
      by_zero false e = naming (ltb n l.variable) (is_named l.variable p.named) (eqb-false l.variable 0 e) refl refl

      go : (t : Bool) → is_no_fault p.fault ≡ t → Kept n ls (foldl (judge n) (judge n p (literal l)) ts)
      go true e = rw e (by_zero (eqb l.variable 0) refl)
      go false e = rw e (stopped ts p p e refl refl k)

  goes : (ts : List Token) → Goes n ls ts
  unfolding Goes
  goes [] p g = g.kept
  goes (formed f ∷ ts) p g = line_goes f ts (goes ts) p g
  goes (literal l ∷ ts) p g = literal_goes l ts (goes ts) p g

-- from the start
pub kept_all : (n : ℕ) (ts : List Token) → Kept n (literals_in ts) (foldl (judge n) start ts)
unfolding Goes fresh_after
kept_all n ts =
    goes n (literals_in ts) ts start
    (record {
      kept = record { tally = none_named n; fresh = refl; closed = λ h. absurd (false≢true h); rest = literals_in ts; first = refl };
      next = inl refl;
    })

-- ---- the bytes
all_within_lem : (low width : ℕ) (named ls : List Literal) → fresh_after named ls ≡ length ls → fresh_within low width named ls ≡ length ls
unfolding fresh_within fresh_after
all_within_lem low width named [] h = refl
all_within_lem low width named (l ∷ ls) h =
    let f = fresh_head named l ls h in
    rw (f.0, all_within_lem low width (named ++ (l ∷ [])) ls f.1) (either (ltb l.variable low || leb width (l.variable - low)))
  where
    either : (t : Bool) → cond t (length ls + 1) (length ls + 1) ≡ suc (length ls)
    either true = omega arith
    either false = omega arith

-- the buffer after literals ls that begin with those named by an accepted text
pub written : (n : ℕ) (ts : List Token) (ls : List Literal)
    → ((c : ℕ) → c ≤ length (foldl (judge n) start ts).named → take c (literals_in ts) ≡ take c ls) → (foldl (judge n) start ts).stage ≡ Closed
    → (foldl (placed 1) (record { seen = 0; bound = n; marks = replicate n 2 }) ls).marks ≡ bytes_of n (foldl (judge n) start ts).named
unfolding bytes_of
written n ts ls same closed =
    let named = (foldl (judge n) start ts).named in
    let k = kept_all n ts in
    let all : all_named n named ≡ true = k.closed (ap is_closed closed) in
    let many : length named ≡ n = sym k.tally ∙ all_full n named all in
    let m : Marking = record { seen = 0; bound = n; marks = replicate n 2 } in
    let w = walked 1 ls [] m (no_marks 1 n) in
    let end = foldl (placed 1) m ls in
    let first : take n ls ≡ named =
    sym (same n (omega (arith, many)))
    ∙ ap (λ (l : List Literal). take n l) (sym k.first) ∙ ap (λ (i : ℕ). take i (named ++ k.rest)) (sym many) ∙ take-append_seam named k.rest in
    let none : n - 0 ≡ n = omega arith in
    let passed : fresh_within 1 (length (replicate {A = ℕ} n 2)) [] (take (n - 0) ls) ≡ n =
    rw (none, first) (all_within_lem 1 (length (replicate {A = ℕ} n 2)) [] named k.fresh ∙ many) in
    let seen : end.seen - 0 ≡ n = omega (arith, w.seen_is, passed) in
    let long : length end.marks ≡ n = w.long ∙ length-replicate {A = ℕ} n 2 in
    let byte : (i : ℕ) → i < length end.marks → get_or end.marks i 0 ≡ byte_of (1 + i) named =
    λ i q. w.marks_are.each i q ∙ ap (λ (l : List Literal). byte_of (1 + i) l) (ap (λ (j : ℕ). take j ls) seen ∙ first) in
    let bit : (i : ℕ) → i < n → byte_of (1 + i) named ≡ cond (is_bare (i + 1) named) 1 0 =
    λ i q.
    let same : 1 + i ≡ i + 1 = omega arith in
    rw (same, all_each n named (i + 1) all (λ z. omega (arith, z)) (omega (arith, q))) in
    ext_get_or 0 end.marks (list_below (λ i. cond (is_bare (i + 1) named) 1 0) n) (long ∙ sym (length_list (λ i. cond {A = ℕ} (is_bare (i + 1) named) 1 0) n))
    (λ i q. byte i q ∙ bit i (omega (arith, long, q)) ∙ sym (get_d_list 0 (λ i. cond (is_bare (i + 1) named) 1 0) n i (omega (arith, long, q))))
