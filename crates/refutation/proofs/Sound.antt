-- A refutation refutes: no truth of literals makes every clause before place n true, where the words and hints from there on refute them.
use mathlib.Core.Path.{◌≡◌, refl, sym, ap, ◌∙◌}
use mathlib.Core.Logic.{◌⊎◌, inl, inr, ⊎_elim}
use mathlib.Core.Bool.{Bool, true, false, not, cond, ◌&&◌}
use mathlib.Core.List.{List, [], ◌∷◌}
use Prim.Native.Nat.{ℕ, zero, suc, ◌+◌, ◌-◌, ◌<◌, ◌≤◌}
use native.Mathlib.Omega.{arith}
use borrow.Author.Tests.{ltb-true, ltb-false, eqb-true, eqb-false, eq-eqb, ne_eqb, lt-ltb}
use lib.Dec.{T, eqb, ltb}
use lib.IntN.{ℤ, pos}
use lib.ListN.{length, get_or, drop}
use lib.Seq.{get_or-drop}
use Rattle.refutation.specs.Codes.{code_of, closes, opposite, begins, all_within}
use Rattle.refutation.specs.Refutation.{is_in, clash, left, span, literals, next_at, follows, refutes}

-- ---- truth: v says which literals are true
-- Some literal of the clause at the start of the words is true.
unfoldable pub some_true : (ℕ → Bool) → List ℤ → Bool
some_true v [] = false
some_true v (w ∷ ws) = cond (closes w) false (cond (v (code_of w)) true (some_true v ws))

-- Every clause that begins before place n is true.
abbrev pub ClausesTrue : (ℕ → Bool) → List ℤ → ℕ → Type 0
ClausesTrue v ws n = (h : ℕ) → T (begins ws n h) → T (some_true v (drop h ws))

-- ---- tests
cases : (b : Bool) → (b ≡ true) ⊎ (b ≡ false)
cases true = inl refl
cases false = inr refl

pub T_is : (b : Bool) → T b → b ≡ true
T_is true t = refl
T_is false t = elim t [ ]

pub is_T : (b : Bool) → b ≡ true → T b
is_T b e = rw e tt

pub contrary : {b : Bool} → b ≡ true → b ≡ false → ⊥
contrary p q = let z : ◌≡◌ {A = ℕ} 0 1 = cc in omega arith

pub lt_or_le : (a b : ℕ) → (a < b) ⊎ (b ≤ a)
lt_or_le a b = go (ltb a b) refl
  where
    go : (t : Bool) → ltb a b ≡ t → (a < b) ⊎ (b ≤ a)
    go true e = inl (ltb-true a b e)
    go false e = inr (ltb-false a b e)

-- ---- what is left of a clause
-- a literal that is true; 0 is none
abbrev live : (ℕ → Bool) → ℕ → Bool
live v d = cond (eqb d 0) false (v d)

-- u is no literal, or it is d
abbrev fits : ℕ → ℕ → Bool
fits u d = cond (eqb u 0) true (eqb u d)

fits_same : (u d : ℕ) → u ≡ d → fits u d ≡ true
fits_same u d e = rw (eq-eqb u d e) (go (eqb u 0))
  where
    go : (b : Bool) → cond b true true ≡ true
    go true = refl
    go false = refl

fits_nonzero : (c d : ℕ) → eqb c 0 ≡ false → fits c d ≡ true → c ≡ d
fits_nonzero c d z e = eqb-true c d (rw z at e)

no_clash : (u c d : ℕ) → c ≡ d → clash u c ≡ false → fits u d ≡ true
no_clash u c d e h = rw (sym e) (go (eqb u 0) (eqb u c) h)
  where
    go : (a b : Bool) → cond a false (not b) ≡ false → cond a true b ≡ true
    go true b h = refl
    go false true h = refl
    go false false h = absurd (contrary refl h)

dead : (v : ℕ → Bool) (c d : ℕ) → c ≡ d → eqb c 0 ≡ false → live v d ≡ false → v c ≡ false
dead v c d e z h = rw z at (rw (sym e) at h)

module _ (v f : ℕ → Bool) (false-in : (c : ℕ) → f c ≡ true → v c ≡ false) where
  -- Where d is left, and d is no true literal, no literal of the clause is true.
  left_none : (u : ℕ) (ws : List ℤ) (d : ℕ) → (d ≡ 1 → ⊥) → live v d ≡ false → left f u ws ≡ d → (some_true v ws ≡ false) × (fits u d ≡ true)
  unfolding left some_true
  left_none u [] d n z h = absurd (n (sym h))
  left_none u (w ∷ ws) d n z h = go (closes w) (f (code_of w)) (clash u (code_of w)) (v (code_of w)) refl refl refl refl (left_none u ws d n z)
      (left_none (code_of w) ws d n z) h
    where
      go : (a b e t : Bool) → closes w ≡ a → f (code_of w) ≡ b → clash u (code_of w) ≡ e → v (code_of w) ≡ t
          → (left f u ws ≡ d → (some_true v ws ≡ false) × (fits u d ≡ true))
          → (left f (code_of w) ws ≡ d → (some_true v ws ≡ false) × (fits (code_of w) d ≡ true))
          → cond a u (cond b (left f u ws) (cond e 1 (left f (code_of w) ws))) ≡ d
          → (cond a false (cond t true (some_true v ws)) ≡ false) × (fits u d ≡ true)
      go true b e t p q r s on over h = (refl, fits_same u d h)
      go false true e true p q r s on over h = absurd (contrary s (false-in _ q))
      go false true e false p q r s on over h = on h
      go false false true t p q r s on over h = absurd (n (sym h))
      go false false false t p q r s on over h =
          let i = over h in
          let e = fits_nonzero (code_of w) d p i.1 in
          (rw (sym s ∙ dead v _ _ e p z) i.0, no_clash u _ _ e r)

-- ---- lemmas
-- No literal of an empty clause is true.
empty_none : (v : ℕ → Bool) (ws : List ℤ) → span ws ≡ 0 → some_true v ws ≡ false
unfolding span some_true
empty_none v [] h = refl
empty_none v (w ∷ ws) h = go (closes w) h
  where
    go : (a : Bool) → cond a 0 (span ws + 1) ≡ 0 → cond a false (cond (v (code_of w)) true (some_true v ws)) ≡ false
    go true h = refl
    go false h = absurd (omega arith)

-- The words of a clause before the one that closes it do not close it.
inside : (ws : List ℤ) (i : ℕ) → i < span ws → closes (get_or ws i (pos 0)) ≡ false
unfolding span
inside [] i l = absurd (omega arith)
inside (w ∷ ws) i l = go (closes w) i refl (inside ws) l
  where
    go : (a : Bool) (i : ℕ) → closes w ≡ a → ((i : ℕ) → i < span ws → closes (get_or ws i (pos 0)) ≡ false) → i < cond a 0 (span ws + 1) → closes
        (get_or (w ∷ ws) i (pos 0)) ≡ false
    go true i p on l = absurd (omega arith)
    go false zero p on l = p
    go false (suc i) p on l = on i (omega arith)

-- One more literal that is false.
one_more : (v : ℕ → Bool) (d : ℕ) (fs : List ℕ) → v d ≡ false → ((c : ℕ) → is_in c fs ≡ true → v c ≡ false) → (c : ℕ) → is_in c (d ∷ fs) ≡ true → v c ≡ false
unfolding is_in
one_more v d fs s k c = by (eqb c d) refl
  where
    by : (b : Bool) → eqb c d ≡ b → cond b true (is_in c fs) ≡ true → v c ≡ false
    by true e h = ap v (eqb-true _ _ e) ∙ s
    by false e h = k c h

-- Where no literal of a clause is true, each of them is false.
all_false : (v : ℕ → Bool) (ws : List ℤ) (fs : List ℕ) → some_true v ws ≡ false → ((c : ℕ) → is_in c fs ≡ true → v c ≡ false) → (c : ℕ) → is_in c
    (literals ws fs) ≡ true → v c ≡ false
unfolding some_true literals
all_false v [] fs h k = k
all_false v (w ∷ ws) fs h k = go (closes w) (v (code_of w)) refl h (all_false v ws (code_of w ∷ fs))
  where
    go : (a t : Bool) → v (code_of w) ≡ t → cond a false (cond t true (some_true v ws)) ≡ false
        → (some_true v ws ≡ false → ((c : ℕ) → is_in c (code_of w ∷ fs) ≡ true → v c ≡ false) → (c : ℕ) → is_in c (literals ws (code_of w ∷ fs)) ≡ true
        → v c ≡ false)
        → (c : ℕ) → is_in c (cond a fs (literals ws (code_of w ∷ fs))) ≡ true → v c ≡ false
    go true t s h on = k
    go false true s h on = absurd (contrary refl h)
    go false false s h on = on h (one_more v (code_of w) fs s k)

-- ---- the clauses before the next lemma
pub begins_before : (ws : List ℤ) (at h : ℕ) → T (begins ws at h) → h < at
unfolding begins
begins_before ws at h t = go (ltb h at) refl t
  where
    go : (a : Bool) → ltb h at ≡ a → T (cond a (cond (eqb h 0) true (closes (get_or ws (h - 1) (pos 0)))) false) → h < at
    go true p t = ltb-true _ _ p
    go false p t = elim t [ ]

begins_earlier : (ws : List ℤ) (at to h : ℕ) → h < at → T (begins ws to h) → T (begins ws at h)
unfolding begins
begins_earlier ws at to h l t = rw (lt-ltb h at l) (go (ltb h to) t)
  where
    go : (a : Bool) → T (cond a (cond (eqb h 0) true (closes (get_or ws (h - 1) (pos 0)))) false) → T (cond (eqb h 0) true (closes (get_or ws (h - 1) (pos 0))))
    go true t = t
    go false t = elim t [ ]

-- no clause begins inside a clause
begins_not : (ws : List ℤ) (to h : ℕ) → 0 < h → closes (get_or ws (h - 1) (pos 0)) ≡ false → T (begins ws to h) → ⊥
unfolding begins
begins_not ws to h l n t = go (ltb h to) (rw (ne_eqb h 0 (λ e. omega arith), n) at t)
  where
    go : (a : Bool) → T (cond a false false) → ⊥
    go true t = t
    go false t = t

-- A lemma that is true is one more clause.
module _ (v : ℕ → Bool) (ws : List ℤ) (at : ℕ) where
  more_clauses : ClausesTrue v ws at → T (some_true v (drop at ws)) → ClausesTrue v ws (next_at ws at)
  more_clauses k t h b =
      ⊎_elim (λ (l : h < at). k h (begins_earlier ws at _ h l b))
      (λ (l : at ≤ h). ⊎_elim (λ (l : at < h). absurd (begins_not ws _ h (omega arith) (within h l (begins_before ws _ h b)) b))
      (λ (g : h ≤ at). let e : at ≡ h = omega arith in rw (sym e) t) (lt_or_le at h))
      (lt_or_le h at)
    where
      within : (h : ℕ) → at < h → h < next_at ws at → closes (get_or ws (h - 1) (pos 0)) ≡ false
      within h l m =
          let e : h - 1 ≡ at + (h - 1 - at) = omega arith in
          rw e (rw (get_or-drop at ws (h - 1 - at) (pos 0)) at (inside (drop at ws) (h - 1 - at) (omega arith)))

abbrev remains : List ℤ → List ℕ → ℕ → ℕ
remains ws fs h = left (λ c. is_in c fs) 0 (drop h ws)

pub two : (d : ℕ) → (d ≡ 1 → ⊥) → (d ≡ 0 → ⊥) → 2 ≤ d
two zero a b = absurd (b refl)
two (suc zero) a b = absurd (a refl)
two (suc (suc d)) a b = omega arith

-- ---- the theorem, for a truth of literals that makes a literal true exactly if its opposite is not
module _ (v : ℕ → Bool) (opposed : (c : ℕ) → 2 ≤ c → v (opposite c) ≡ not (v c)) (ws : List ℤ) where
  -- Each literal that is taken to be false is so, unless the lemma is true.
  abbrev Taken : ℕ → List ℕ → Type 0
  Taken at fs = some_true v (drop at ws) ≡ false → (c : ℕ) → is_in c fs ≡ true → v c ≡ false

  first_taken : (at : ℕ) → Taken at (literals (drop at ws) [])
  unfolding is_in
  first_taken at n = all_false v (drop at ws) [] n (λ c h. absurd (contrary h refl))

  -- Where nothing is left of a true clause, the lemma is true.
  accepted : (at : ℕ) (fs : List ℕ) (h : ℕ) → Taken at fs → T (some_true v (drop h ws)) → left (λ c. is_in c fs) 0 (drop h ws) ≡ 0 → some_true v
      (drop at ws) ≡ true
  accepted at fs h k t e = ⊎_elim (λ p. p) (λ n. absurd (contrary (T_is _ t)
      (left_none v (λ c. is_in c fs) (k n) 0 (drop h ws) 0 (λ z. omega arith) refl e).0)) (cases (some_true v (drop at ws)))

  -- Where one literal is left of a true clause, its opposite is false, unless the lemma is true.
  taken_more : (at : ℕ) (fs : List ℕ) (h : ℕ) → Taken at fs → T (some_true v (drop h ws)) → 2 ≤ left (λ c. is_in c fs) 0 (drop h ws)
      → Taken at (opposite (left (λ c. is_in c fs) 0 (drop h ws)) ∷ fs)
  taken_more at fs h k t l n = one_more v (opposite (remains ws fs h)) fs
      (⊎_elim (λ p. opposed (remains ws fs h) l ∙ rw p) (λ p. absurd (contrary (T_is _ t)
      (left_none v (λ c. is_in c fs) (k n) 0 (drop h ws) (remains ws fs h) (λ z. omega arith)
      (rw (ne_eqb (remains ws fs h) 0 (λ z. omega arith)) p) refl).0)) (cases (v (remains ws fs h)))) (k n)

  follows_sound : (at : ℕ) (fs hs : List ℕ) → ClausesTrue v ws at → Taken at fs → T (follows ws at fs hs) → ⊥
  unfolding follows
  follows_sound at fs [] k f t = t
  follows_sound at fs (h ∷ hs) k f t =
      go (begins ws at h) (eqb (remains ws fs h) 1) (eqb (remains ws fs h) 0) (eqb (span (drop at ws)) 0)
      (ltb (next_at ws at) (length ws)) refl refl refl refl (λ k'. follows_sound (next_at ws at) (literals (drop (next_at ws at) ws) []) hs k'
      (first_taken (next_at ws at))) (λ f'. follows_sound at (opposite (remains ws fs h) ∷ fs) hs k f') t
    where
      go : (a b e s l : Bool) → begins ws at h ≡ a → eqb (remains ws fs h) 1 ≡ b → eqb (remains ws fs h) 0 ≡ e → eqb (span (drop at ws)) 0 ≡ s
          → (ClausesTrue v ws (next_at ws at) → T (follows ws (next_at ws at) (literals (drop (next_at ws at) ws) []) hs) → ⊥)
          → (Taken at (opposite (remains ws fs h) ∷ fs) → T (follows ws at (opposite (remains ws fs h) ∷ fs) hs) → ⊥)
          → T (cond a (cond b false (cond e (cond s true (cond l (follows ws (next_at ws at) (literals (drop (next_at ws at) ws) []) hs) false))
          (follows ws at (opposite (remains ws fs h) ∷ fs) hs))) false) → ⊥
      go true false true true l p q r s next more t = contrary (accepted at fs h f (k h (is_T _ p)) (eqb-true _ _ r))
          (empty_none v (drop at ws) (eqb-true _ _ s))
      go true false true false true p q r s next more t = next (more_clauses v ws at k (is_T _ (accepted at fs h f (k h (is_T _ p)) (eqb-true _ _ r)))) t
      go true false false s l p q r z next more t = more (taken_more at fs h f (k h (is_T _ p)) (two (remains ws fs h) (eqb-false _ _ q) (eqb-false _ _ r))) t
      go true true e s l p q r z next more t = t
      go true false true false false p q r z next more t = t
      go false b e s l p q r z next more t = t

  -- No truth of literals makes every clause before place n true where the words from there on and the hints refute them.
  pub refutes_sound : (n : ℕ) (hs : List ℕ) → ClausesTrue v ws n → T (refutes ws n hs) → ⊥
  unfolding refutes
  refutes_sound n hs k t = go (ltb n (length ws)) (all_within ws) t
    where
      go : (a b : Bool) → T (cond a (b && follows ws n (literals (drop n ws) []) hs) false) → ⊥
      go true true t = follows_sound n _ hs k (first_taken n) t
      go true false t = t
      go false b t = t
