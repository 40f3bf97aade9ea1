-- Literals placed into a window: how many are seen before one names a variable of the window again, and what then stands there; the least over all
-- windows is where the first variable at all is named again.
use Prim.Native.Nat.{ℕ, zero, suc, ◌+◌, ◌-◌, ◌≤◌, ◌<◌}
use mathlib.Core.Path.{◌≡◌, refl, sym, ap, ◌∙◌}
use mathlib.Core.Logic.{⊎_elim}
use mathlib.Core.List.{List, [], ◌∷◌, ◌++◌, map, foldl, append-nil}
use mathlib.Core.Bool.{Bool, true, false, cond, ◌&&◌, ◌||◌, or-false, and-false, false≢true}
use native.Mathlib.Omega.{arith}
use native.Mathlib.Numerals.{add-one}
use lib.ListN.{length, get_or, set, take, replicate, length-set, length-take, length-replicate, get_or-replicate}
use lib.Seq.{get_or-set_same, get_or-set_other, append_snoc, take-take, take-nil, take-length}
use lib.Dec.{ltb, leb, eqb}
use borrow.Author.Tests.{lt-ltb, le-ltb, le-leb, lt-leb, eq-eqb, ne_eqb, ltb-true, ltb-false, leb-true, leb-false, eqb-true, eqb-false}
use Rattle.model.proofs.IndexedLaws.{lt_or_le}
use Rattle.output.specs.declared.literals.Literal.{Literal}
use Rattle.output.specs.OutputCall.{is_named, is_bare}
use Rattle.output.specs.Placing.{fresh_after, Marking, seen_in, placed}
use Rattle.output.proofs.NamedLaws.{named_more, bare_more, bare_named}
use Rattle.output.proofs.CapLaws.{cut, cut_most}

-- ---- what stands in a window
-- the byte of a variable after some literals: 2 if they do not name it
abbrev pub byte_of : ℕ → List Literal → ℕ
byte_of v named = cond (is_named v named) (cond (is_bare v named) 1 0) 2

pub record Marks (low : ℕ) (named : List Literal) (marks : List ℕ) : Type 0 where
  pub each : (i : ℕ) → i < length marks → get_or marks i 0 ≡ byte_of (low + i) named

pub no_marks : (low width : ℕ) → Marks low [] (replicate width 2)
unfolding is_named
no_marks low width = record { each = λ i h. get_or-replicate width i 2 0 (omega (arith, h, length-replicate {A = ℕ} width 2)) }

-- a literal of another variable changes nothing
byte_other : (v : ℕ) (named : List Literal) (l : Literal) → (l.variable ≡ v → ⊥) → byte_of v (named ++ (l ∷ [])) ≡ byte_of v named
byte_other v named l other =
    rw (named_more v named l, bare_more v named l, ne_eqb l.variable v other, or-false (is_named v named), or-false (is_bare v named))

-- a literal of a variable that was not named is its byte
byte_new : (named : List Literal) (l : Literal) → is_named l.variable named ≡ false → byte_of l.variable (named ++ (l ∷ [])) ≡ cond l.bare 1 0
byte_new named l new =
    rw (named_more l.variable named l, bare_more l.variable named l, new, bare_named l.variable named new, eq-eqb l.variable l.variable refl)

-- the window does not hold the variable
abbrev outside : ℕ → ℕ → ℕ → Bool
outside low width v = ltb v low || leb width (v - low)

pub record Outside (low width v : ℕ) : Type 0 where
  pub apart : (i : ℕ) → i < width → v ≡ low + i → ⊥

pub record Inside (low width v : ℕ) : Type 0 where
  pub above : low ≤ v
  pub below : v - low < width

is_outside_lem : (low width v : ℕ) → outside low width v ≡ true → Outside low width v
is_outside_lem low width v h = go (ltb v low) refl h
  where
    go : (t : Bool) → ltb v low ≡ t → (t || leb width (v - low)) ≡ true → Outside low width v
    go true e h = record { apart = λ i q z. omega (arith, ltb-true v low e, z) }
    go false e h = record { apart = λ i q z. omega (arith, leb-true width (v - low) h, q, z) }

is_inside : (low width v : ℕ) → outside low width v ≡ false → Inside low width v
is_inside low width v h = go (ltb v low) refl h
  where
    go : (t : Bool) → ltb v low ≡ t → (t || leb width (v - low)) ≡ false → Inside low width v
    go true e h = absurd (false≢true (sym h))
    go false e h = record { above = ltb-false v low e; below = leb-false width (v - low) h }

-- ---- how many literals come before one that names a variable of the window again
unfoldable pub fresh_within : ℕ → ℕ → List Literal → List Literal → ℕ
fresh_within low width named [] = 0
fresh_within low width named (l ∷ ls) =
    cond (outside low width l.variable) (fresh_within low width (named ++ (l ∷ [])) ls + 1)
    (cond (is_named l.variable named) 0 (fresh_within low width (named ++ (l ∷ [])) ls + 1))

-- after m, where the literals `named` were placed, the literals ls lead to `end`
pub record Walked (low : ℕ) (named : List Literal) (m : Marking) (ls : List Literal) (end : Marking) : Type 0 where
  pub seen_is : end.seen ≡ m.seen + fresh_within low (length m.marks) named (take (m.bound - m.seen) ls)
  pub marks_are : Marks low (named ++ take (end.seen - m.seen) ls) end.marks
  pub long : length end.marks ≡ length m.marks

-- all literals that are to be seen are seen
pub placed_stays : (low : ℕ) (ls : List Literal) (m : Marking) → m.bound ≤ m.seen → foldl (placed low) m ls ≡ m
unfolding placed
placed_stays low [] m h = refl
placed_stays low (l ∷ ls) m h = rw (le-leb m.bound m.seen h, foldl) (placed_stays low ls m h)

-- the walk ends
stays : (low : ℕ) (named : List Literal) (m : Marking) (ls : List Literal) {end : Marking} → Marks low named m.marks → end.seen ≡ m.seen
    → end.marks ≡ m.marks → fresh_within low (length m.marks) named (take (m.bound - m.seen) ls) ≡ 0 → Walked low named m ls end
stays low named m ls {end} marks s e none =
    let at : end.seen - m.seen ≡ 0 = omega (arith, s) in
    record {
      seen_is = omega (arith, s, none);
      marks_are = rw (at, append-nil named, e) marks;
      long = ap length e;
    }

-- the literal is passed
passes : (low : ℕ) (named : List Literal) (m : Marking) (l : Literal) (ls : List Literal) {marks : List ℕ} {end : Marking} → m.seen < m.bound
    → length marks ≡ length m.marks → Walked low (named ++ (l ∷ [])) (seen_in marks m) ls end
    → fresh_within low (length m.marks) named (l ∷ take (m.bound - (m.seen + 1)) ls)
    ≡ fresh_within low (length m.marks) (named ++ (l ∷ [])) (take (m.bound - (m.seen + 1)) ls) + 1
    → Walked low named m (l ∷ ls) end
passes low named m l ls {marks} {end} room same w one =
    let d : m.bound - m.seen ≡ suc (m.bound - (m.seen + 1)) = omega (arith, room) in
    let e : end.seen - m.seen ≡ suc (end.seen - (m.seen + 1)) = omega (arith, w.seen_is) in
    let s = rw same at w.seen_is in
    record {
      seen_is = rw d (omega (arith, s, one));
      marks_are = rw e (rw (append_snoc named l (take (end.seen - (m.seen + 1)) ls)) at w.marks_are);
      long = w.long ∙ same;
    }

-- ---- the walk
marks_outside : (low : ℕ) (named : List Literal) (l : Literal) (marks : List ℕ) → Marks low named marks → Outside low (length marks) l.variable
    → Marks low (named ++ (l ∷ [])) marks
marks_outside low named l marks h o = record { each = λ i q. h.each i q ∙ sym (byte_other (low + i) named l (o.apart i q)) }

marks_placed : (low : ℕ) (named : List Literal) (l : Literal) (marks : List ℕ) → Marks low named marks → Inside low (length marks) l.variable
    → is_named l.variable named ≡ false → Marks low (named ++ (l ∷ [])) (set marks (l.variable - low) (cond l.bare 1 0))
marks_placed low named l marks h o new = record { each = λ i q. here i q (eqb i (l.variable - low)) refl }
  where
    here : (i : ℕ) → i < length (set marks (l.variable - low) (cond l.bare 1 0)) → (t : Bool) → eqb i (l.variable - low) ≡ t
        → get_or (set marks (l.variable - low) (cond l.bare 1 0)) i 0 ≡ byte_of (low + i) (named ++ (l ∷ []))
    here i q true e =
        let at : i ≡ l.variable - low = eqb-true i (l.variable - low) e in
        let variable : low + i ≡ l.variable = omega (arith, at, o.above) in
        ap (λ (j : ℕ). get_or (set marks (l.variable - low) (cond l.bare 1 0)) j 0) at
        ∙ get_or-set_same marks (l.variable - low) (cond l.bare 1 0) 0 o.below
        ∙ sym (byte_new named l new)
        ∙ ap (λ (v : ℕ). byte_of v (named ++ (l ∷ []))) (sym variable)
    here i q false e =
        let other : i ≡ l.variable - low → ⊥ = eqb-false i (l.variable - low) e in
        get_or-set_other marks (l.variable - low) i (cond l.bare 1 0) 0 other
        ∙ h.each i (omega (arith, q, length-set marks (l.variable - low) (cond l.bare 1 0)))
        ∙ sym (byte_other (low + i) named l (λ z. other (omega (arith, z))))

-- the literals that are still to come, walked from every marking
Walks : ℕ → List Literal → Type 0
Walks low ls = (named : List Literal) (m : Marking) → Marks low named m.marks → Walked low named m ls (foldl (placed low) m ls)

module _ (low : ℕ) (l : Literal) (ls : List Literal) (rest : Walks low ls) (named : List Literal) (m : Marking) (marks : Marks low named m.marks) where
  -- the literals that are to be seen are seen
  at_bound : m.bound ≤ m.seen → Walked low named m (l ∷ ls) (foldl (placed low) m (l ∷ ls))
  unfolding fresh_within
  at_bound h =
      let end = placed_stays low (l ∷ ls) m h in
      let none : m.bound - m.seen ≡ 0 = omega (arith, h) in
      stays low named m (l ∷ ls) marks (ap (λ (q : Marking). q.seen) end) (ap (λ (q : Marking). q.marks) end) (rw none)

  -- the window does not hold its variable
  not_held : m.seen < m.bound → outside low (length m.marks) l.variable ≡ true → Walked low named m (l ∷ ls) (foldl (placed low) m (l ∷ ls))
  unfolding fresh_within placed Walks
  not_held room o =
      rw (lt-leb m.bound m.seen room, o, foldl)
      (passes low named m l ls room refl
      (rest (named ++ (l ∷ [])) (seen_in m.marks m) (marks_outside low named l m.marks marks (is_outside_lem low (length m.marks) l.variable o)))
      (rw o))

  -- the window holds its variable, which was named
  named_again : m.seen < m.bound → outside low (length m.marks) l.variable ≡ false → is_named l.variable named ≡ true
      → Walked low named m (l ∷ ls) (foldl (placed low) m (l ∷ ls))
  unfolding fresh_within placed
  named_again room o again =
      let i = is_inside low (length m.marks) l.variable o in
      let here : low + (l.variable - low) ≡ l.variable = omega (arith, i.above) in
      let byte : get_or m.marks (l.variable - low) 0 ≡ cond (is_bare l.variable named) 1 0 =
      marks.each (l.variable - low) i.below ∙ rw (here, again) in
      let taken : eqb (get_or m.marks (l.variable - low) 0) 2 ≡ false = rw byte (bit (is_bare l.variable named)) in
      let d : m.bound - m.seen ≡ suc (m.bound - (m.seen + 1)) = omega (arith, room) in
      let end = placed_stays low ls (record { seen = m.seen; bound = m.seen; marks = m.marks }) (omega arith) in
      rw (lt-leb m.bound m.seen room, o, taken, foldl)
      (stays low named m (l ∷ ls) marks (ap (λ (q : Marking). q.seen) end) (ap (λ (q : Marking). q.marks) end) (rw (d, o, again)))
    where
      bit : (b : Bool) → eqb (cond {A = ℕ} b 1 0) 2 ≡ false
      bit true = refl
      bit false = refl

  -- the window holds its variable, which was not named
  new_here : m.seen < m.bound → outside low (length m.marks) l.variable ≡ false → is_named l.variable named ≡ false
      → Walked low named m (l ∷ ls) (foldl (placed low) m (l ∷ ls))
  unfolding fresh_within placed Walks
  new_here room o new =
      let i = is_inside low (length m.marks) l.variable o in
      let here : low + (l.variable - low) ≡ l.variable = omega (arith, i.above) in
      let byte : get_or m.marks (l.variable - low) 0 ≡ 2 = marks.each (l.variable - low) i.below ∙ rw (here, new) in
      let next = marks_placed low named l m.marks marks i new in
      rw (lt-leb m.bound m.seen room, o, eq-eqb (get_or m.marks (l.variable - low) 0) 2 byte, foldl)
      (passes low named m l ls room (length-set m.marks (l.variable - low) (cond l.bare 1 0))
      (rest (named ++ (l ∷ [])) (seen_in (set m.marks (l.variable - low) (cond l.bare 1 0)) m) next)
      (rw (o, new)))

  one_walked : Walked low named m (l ∷ ls) (foldl (placed low) m (l ∷ ls))
  one_walked =
      ⊎_elim (λ q. by (outside low (length m.marks) l.variable) (is_named l.variable named) q refl refl) at_bound
      (lt_or_le m.seen m.bound)
    where
      by : (o t : Bool) → m.seen < m.bound → outside low (length m.marks) l.variable ≡ o → is_named l.variable named ≡ t
          → Walked low named m (l ∷ ls) (foldl (placed low) m (l ∷ ls))
      by true t q e f = not_held q e
      by false true q e f = named_again q e f
      by false false q e f = new_here q e f

pub walked : (low : ℕ) (ls : List Literal) (named : List Literal) (m : Marking) → Marks low named m.marks
    → Walked low named m ls (foldl (placed low) m ls)
unfolding Walks fresh_within
walked low [] named m marks = stays low named m [] marks refl refl (rw (take-nil {A = Literal} (m.bound - m.seen)))
walked low (l ∷ ls) named m marks = one_walked low l ls (walked low ls) named m marks

-- ---- window after window
-- how many literals come before one that names a variable below `low` again
unfoldable pub fresh_below : ℕ → List Literal → List Literal → ℕ
fresh_below low named [] = 0
fresh_below low named (l ∷ ls) = cond (ltb l.variable low && is_named l.variable named) 0 (fresh_below low (named ++ (l ∷ [])) ls + 1)

module _ (low width : ℕ) (named : List Literal) (l : Literal) (ls : List Literal)
    (rest : fresh_below (low + width) (named ++ (l ∷ [])) ls
    ≡ fresh_within low width (named ++ (l ∷ [])) (take (fresh_below low (named ++ (l ∷ [])) ls) ls)) where
  Next : Type 0
  Next = fresh_below (low + width) named (l ∷ ls) ≡ fresh_within low width named (take (fresh_below low named (l ∷ ls)) (l ∷ ls))

  -- its variable was not named
  next_new : is_named l.variable named ≡ false → Next
  unfolding Next fresh_below fresh_within
  next_new e =
      rw (e, and-false (ltb l.variable (low + width)), and-false (ltb l.variable low), add-one (fresh_below low (named ++ (l ∷ [])) ls), rest)
      (either (outside low width l.variable) _)
    where
      either : (o : Bool) (x : ℕ) → x + 1 ≡ cond o (x + 1) (cond (is_named l.variable named) 0 (x + 1))
      either true x = refl
      either false x = rw e

  -- it was, and lies below the window
  next_below : is_named l.variable named ≡ true → l.variable < low → Next
  unfolding Next fresh_below fresh_within
  next_below e h = rw (e, lt-ltb l.variable low h, lt-ltb l.variable (low + width) (omega (arith, h)))

  -- it was, and lies in the window
  next_within : is_named l.variable named ≡ true → low ≤ l.variable → l.variable < low + width → Next
  unfolding Next fresh_below fresh_within
  next_within e h q =
      rw (
        e,
        le-ltb l.variable low h,
        lt-ltb l.variable (low + width) q,
        add-one (fresh_below low (named ++ (l ∷ [])) ls),
        lt-leb width (l.variable - low) (omega (arith, h, q)),
        le-ltb l.variable low h,
        e,
      )

  -- it was, and lies above the window
  next_above : is_named l.variable named ≡ true → low ≤ l.variable → low + width ≤ l.variable → Next
  unfolding Next fresh_below fresh_within
  next_above e h q =
      rw (
        e,
        le-ltb l.variable low h,
        le-ltb l.variable (low + width) q,
        add-one (fresh_below low (named ++ (l ∷ [])) ls),
        le-leb width (l.variable - low) (omega (arith, h, q)),
        rest,
        le-ltb l.variable low h,
      )

  next_walked : Next
  next_walked = go (is_named l.variable named) refl
    where
      go : (t : Bool) → is_named l.variable named ≡ t → Next
      go false e = next_new e
      go true e =
          ⊎_elim (next_below e) (λ h. ⊎_elim (next_within e h) (next_above e h) (lt_or_le l.variable (low + width)))
          (lt_or_le l.variable low)

window_next : (low width : ℕ) (named ls : List Literal) → fresh_below (low + width) named ls ≡ fresh_within low width named (take (fresh_below low named ls) ls)
unfolding fresh_below fresh_within Next
window_next low width named [] = refl
window_next low width named (l ∷ ls) = next_walked low width named l ls (window_next low width (named ++ (l ∷ [])) ls)

below_none : (named ls : List Literal) → fresh_below 0 named ls ≡ length ls
unfolding fresh_below
below_none named [] = refl
below_none named (l ∷ ls) = rw (le-ltb l.variable 0 (omega arith), below_none (named ++ (l ∷ [])) ls) (omega arith)

below_most : (low : ℕ) (named ls : List Literal) → fresh_below low named ls ≤ length ls
unfolding fresh_below
below_most low named [] = omega arith
below_most low named (l ∷ ls) = go (ltb l.variable low && is_named l.variable named) (below_most low (named ++ (l ∷ [])) ls)
  where
    go : (t : Bool) → fresh_below low (named ++ (l ∷ [])) ls ≤ length ls → cond t 0 (fresh_below low (named ++ (l ∷ [])) ls + 1) ≤ suc (length ls)
    go true h = omega arith
    go false h = omega (arith, h)

-- no variable is above n + 1
below_all : (n low : ℕ) → n + 1 < low → (c : ℕ) (named ls : List Literal)
    → fresh_below low named (take c (map (cut n) ls)) ≡ fresh_after named (take c (map (cut n) ls))
unfolding fresh_below fresh_after
below_all n low h zero named ls = refl
below_all n low h (suc c) named [] = refl
below_all n low h (suc c) named (l ∷ ls) =
    rw (lt-ltb (cut n l).variable low (omega (arith, h, cut_most n l)), below_all n low h c (named ++ (cut n l ∷ [])) ls)

-- ---- the loop over the windows: the first c of the literals ls are looked at, `bound` of them are left after the windows below `low`
pub record Looking (ls : List Literal) (c low bound : ℕ) : Type 0 where
  pub left : take bound ls ≡ take (fresh_below low [] (take c ls)) (take c ls)
  pub seen : 0 < low → bound ≡ fresh_below low [] (take c ls)

pub look_none : (ls : List Literal) (c : ℕ) → Looking ls c 0 c
look_none ls c = record { left = rw (below_none [] (take c ls)) (sym (take-length (take c ls))); seen = λ h. absurd (omega (arith, h)) }

module _ (width : ℕ) {ls : List Literal} {c low bound : ℕ} (h : Looking ls c low bound) {end : Marking}
    (w : end ≡ foldl (placed low) (record { seen = 0; bound = bound; marks = replicate width 2 }) ls) where
  look_seen : end.seen ≡ fresh_below (low + width) [] (take c ls)
  look_seen =
      let m : Marking = record { seen = 0; bound = bound; marks = replicate width 2 } in
      let s = (walked low ls [] m (no_marks low width)).seen_is in
      let none : bound - 0 ≡ bound = omega arith in
      let t : fresh_within low (length (replicate {A = ℕ} width 2)) [] (take (bound - 0) ls) ≡ fresh_within low width [] (take bound ls) =
      rw (none, length-replicate {A = ℕ} width 2) in
      ap (λ (q : Marking). q.seen) w ∙ omega (arith, s, t)
      ∙ ap (fresh_within low width []) h.left ∙ sym (window_next low width [] (take c ls))

  pub look_next : Looking ls c (low + width) end.seen
  look_next =
      let few : fresh_below (low + width) [] (take c ls) ≤ c = omega (arith, below_most (low + width) [] (take c ls), length-take c ls) in
      record { left = rw look_seen (sym (take-take (fresh_below (low + width) [] (take c ls)) c ls few)); seen = λ p. look_seen }

-- after the last window
pub look_end : {ls : List Literal} {c low bound : ℕ} → Looking ls c low bound → (n : ℕ) (all : List Literal) → ls ≡ map (cut n) all → n + 1 < low
    → bound ≡ fresh_after [] (take c ls)
look_end {ls} {c} {low} h n all e q = h.seen (omega (arith, q)) ∙ rw e (below_all n low q c [] all)
