-- Clauses word by word, marks, hints one by one.
use mathlib.Core.Path.{◌≡◌, refl, sym, ap, ◌∙◌}
use mathlib.Core.Logic.{⊎_elim}
use mathlib.Core.Bool.{Bool, true, false, cond, ◌&&◌}
use mathlib.Core.List.{List, [], ◌∷◌}
use Prim.Native.Nat.{ℕ, zero, suc, ◌+◌, ◌-◌, ◌%◌, ◌<◌, ◌≤◌}
use native.Mathlib.Numerals.{add-one}
use native.Mathlib.Omega.{arith}
use borrow.Author.Tests.{ltb-true, ltb-false, eqb-true, eqb-false, eq-eqb, ne_eqb, lt-ltb, le-ltb}
use lib.Dec.{eqb, ltb}
use lib.IntN.{ℤ, pos, negsuc, nat_abs}
use lib.ListN.{length, take, get_or, drop, set, drop_of_length-le, get_or-eq_default, replicate, get_or-replicate, length-replicate}
use lib.Seq.{drop-cons, get_or-set_same, get_or-set_other}
use Rattle.refutation.specs.Codes.{code_of, closes, opposite, begins, all_within}
use Rattle.refutation.specs.Refutation.{is_in, clash, left, span, literals, next_at, follows, refutes}
use Rattle.refutation.proofs.Sound.{lt_or_le}
use Rattle.refutation.specs.Marks.{marked, Shows, Below}
use Rattle.refutation.specs.Left.{left_number}
use Rattle.refutation.specs.declared.Left.{Left}
use Rattle.refutation.specs.declared.Left.TheVariants.{Nothing, One, Several}
use Rattle.std.specs.List.{list_all}
use Rattle.std.proofs.lemmas.Grind.{common_steps}
use Rattle.std.proofs.lemmas.Int.{to_z-of_z}
use mir.Syntax.{w32}
use mir.Val.{SFits, to_z, of_z}

head : {A : Type 0} (d : A) (l : List A) (i : ℕ) → i < length l → drop i l ≡ get_or l i d ∷ drop (i + 1) l
head d l i h = drop-cons l i d h ∙ rw (add-one i)

-- ---- places where a clause begins
pub begins_after : (ws : List ℤ) (at h : ℕ) → h < at → (h ≡ 0 → ⊥) → begins ws at h ≡ closes (get_or ws (h - 1) (pos 0))
unfolding begins
begins_after ws at h l z = rw (lt-ltb h at l, ne_eqb h 0 z)

-- ---- the opposite: the table has an even number of marks
pub opposite_below : (c : ℕ) → c < 43554 → opposite c < 43554
unfolding opposite
opposite_below c l = go (eqb (c % 2) 0) refl
  where
    go : (b : Bool) → eqb (c % 2) 0 ≡ b → cond b (c + 1) (c - 1) < 43554
    go true e = let z : c % 2 ≡ 0 = eqb-true _ _ e in omega arith
    go false e = omega arith

-- ---- a clause, word by word
pub left_end : (f : ℕ → Bool) (u : ℕ) (ws : List ℤ) (i : ℕ) → length ws ≤ i → left f u (drop i ws) ≡ 1
unfolding left
left_end f u ws i l = rw (drop_of_length-le ws l)

pub span_end : (ws : List ℤ) (i : ℕ) → length ws ≤ i → span (drop i ws) ≡ 0
unfolding span
span_end ws i l = rw (drop_of_length-le ws l)

pub literals_end : (ws : List ℤ) (i : ℕ) (fs : List ℕ) → length ws ≤ i → literals (drop i ws) fs ≡ fs
unfolding literals
literals_end ws i fs l = rw (drop_of_length-le ws l)

-- the code of a word and its variable
code_small : (w : ℤ) → code_of w < 43554 → nat_abs w ≤ 21776
code_small (pos n) h = omega arith
code_small (negsuc n) h = omega arith

small_code : (w : ℤ) → nat_abs w ≤ 21776 → code_of w < 43554
small_code (pos n) h = omega arith
small_code (negsuc n) h = omega arith

two_or_more : (c : ℕ) (w : ℤ) → c ≡ code_of w → (c ≡ 0 → ⊥) → 2 ≤ c
two_or_more c (pos zero) e z = absurd (z (omega (arith, e)))
two_or_more c (pos (suc n)) e z = omega (arith, e)
two_or_more c (negsuc n) e z = omega (arith, e)

-- the word at place i, whose code is c
module _ (ws : List ℤ) (i c : ℕ) (l : i < length ws) (fits : SFits w32 (get_or ws i (pos 0)))
    (read : c ≡ code_of (to_z w32 (of_z w32 (get_or ws i (pos 0))))) where
  e : c ≡ code_of (get_or ws i (pos 0))
  e = grind (arith, to_z-of_z)

  closed : c ≡ 0 → closes (get_or ws i (pos 0)) ≡ true
  closed z = eq-eqb _ _ (sym e ∙ z)

  open_at : (c ≡ 0 → ⊥) → closes (get_or ws i (pos 0)) ≡ false
  open_at z = ne_eqb _ _ (λ h. z (e ∙ h))

  pub not_one : (c ≡ 0 → ⊥) → 2 ≤ c
  not_one z = two_or_more c (get_or ws i (pos 0)) e z

  pub has_mark : (kept : List ℤ) → kept ≡ ws → Below kept 43554 → c < 43554
  has_mark kept k b = rw e ((rw k at b) i l)

  pub left_closed : (f : ℕ → Bool) (u : ℕ) → c ≡ 0 → left f u (drop i ws) ≡ u
  unfolding left
  left_closed f u z = rw (head (pos 0) ws i l, closed z)

  left_open : (f : ℕ → Bool) (u : ℕ) → (c ≡ 0 → ⊥) → left f u (drop i ws) ≡ cond (f c) (left f u (drop (i + 1) ws))
      (cond (clash u c) 1 (left f c (drop (i + 1) ws)))
  unfolding left
  left_open f u z = rw (head (pos 0) ws i l, open_at z, sym e)

  pub left_skip : (f : ℕ → Bool) (u : ℕ) → (c ≡ 0 → ⊥) → f c ≡ true → left f u (drop i ws) ≡ left f u (drop (i + 1) ws)
  left_skip f u z t = left_open f u z ∙ rw t

  pub left_takes : (f : ℕ → Bool) (u : ℕ) → (c ≡ 0 → ⊥) → f c ≡ false → clash u c ≡ false → left f u (drop i ws) ≡ left f c (drop (i + 1) ws)
  left_takes f u z t o = left_open f u z ∙ rw (t, o)

  pub left_clash : (f : ℕ → Bool) (u : ℕ) → (c ≡ 0 → ⊥) → f c ≡ false → clash u c ≡ true → left f u (drop i ws) ≡ 1
  left_clash f u z t o = left_open f u z ∙ rw (t, o)

  pub span_closed : c ≡ 0 → span (drop i ws) ≡ 0
  unfolding span
  span_closed z = rw (head (pos 0) ws i l, closed z)

  pub span_more : (c ≡ 0 → ⊥) → span (drop i ws) ≡ span (drop (i + 1) ws) + 1
  unfolding span
  span_more z = rw (head (pos 0) ws i l, open_at z)

  pub literals_closed : (fs : List ℕ) → c ≡ 0 → literals (drop i ws) fs ≡ fs
  unfolding literals
  literals_closed fs z = rw (head (pos 0) ws i l, closed z)

  pub literals_more : (fs : List ℕ) → (c ≡ 0 → ⊥) → literals (drop i ws) fs ≡ literals (drop (i + 1) ws) (c ∷ fs)
  unfolding literals
  literals_more fs z = rw (head (pos 0) ws i l, open_at z, sym e)

pub within_is : (ws : List ℤ) → all_within ws ≡ true → Below ws 43554
unfolding all_within
within_is [] h = λ i l. absurd (omega arith)
within_is (w ∷ ws) h = go (ltb 21776 (nat_abs w)) refl (within_is ws) h
  where
    go : (b : Bool) → ltb 21776 (nat_abs w) ≡ b → (all_within ws ≡ true → Below ws 43554) → cond b false (all_within ws) ≡ true → Below (w ∷ ws) 43554
    go false p on h zero l = small_code w (ltb-false 21776 (nat_abs w) p)
    go false p on h (suc i) l = on h i (omega arith)
    go true p on h i l = absurd (let z : ◌≡◌ {A = ℕ} 0 1 = cc in omega arith)

pub span_fits : (ws : List ℤ) → span ws ≤ length ws
unfolding span
span_fits [] = omega arith
span_fits (w ∷ ws) = go (closes w) (span_fits ws)
  where
    go : (b : Bool) → span ws ≤ length ws → cond b 0 (span ws + 1) ≤ length (w ∷ ws)
    go true h = omega arith
    go false h = omega arith

pub below_rest : (ws : List ℤ) (n from : ℕ) → Below ws 43554 → Below (take n (drop from ws)) 43554
below_rest ws n from b i l = grind (arith, common_steps, b (from + i))

-- what is left so far: nothing, or one literal below n
abbrev pub Alone : Left → ℕ → Type 0
Alone Nothing n = Unit {0}
Alone (One literal) n = (2 ≤ literal) × (literal < n)
Alone Several n = ⊥

pub clash_other : (only : Left) (n c : ℕ) → Alone only n → (only ≡ Nothing → ⊥) → (only ≡ One c → ⊥) → clash (left_number only) c ≡ true
clash_other Nothing n c a z d = absurd (z refl)
clash_other (One other) n c a z d = rw (ne_eqb other c (λ e. d (ap One e)), ne_eqb other 0 (λ e. omega (arith, a.0)))
clash_other Several n c a z d = absurd a

pub clash_none : (only : Left) (c : ℕ) → only ≡ Nothing → clash (left_number only) c ≡ false
clash_none only c e = rw e

pub clash_same : (only : Left) (c : ℕ) → only ≡ One c → clash (left_number only) c ≡ false
clash_same only c e = rw (e, eq-eqb c c refl) (go (eqb c 0))
  where
    go : (b : Bool) → cond b false false ≡ false
    go true = refl
    go false = refl

-- ---- marks
pub shows_none : (ms : List ℕ) (s : ℕ) → ((c : ℕ) → get_or ms c 0 < s) → Shows ms s []
unfolding is_in
shows_none ms s h = record { stamped = λ c. ne_eqb (get_or ms c 0) s (λ e. omega (arith, h c)) }

module _ (ms : List ℕ) (s : ℕ) (fs : List ℕ) (k : Shows ms s fs) where
  pub shows_set : (c : ℕ) → c < length ms → Shows (set ms c s) s (c ∷ fs)
  unfolding is_in
  shows_set c l = record { stamped = λ d. at d (eqb d c) refl }
    where
      at : (d : ℕ) (b : Bool) → eqb d c ≡ b → eqb (get_or (set ms c s) d 0) s ≡ cond b true (is_in d fs)
      at d true p = rw (eqb-true d c p, get_or-set_same ms c s 0 l) (eq-eqb s s refl)
      at d false p = rw (get_or-set_other ms c d s 0 (eqb-false d c p)) (k.stamped d)

  pub shows_left : (u : ℕ) (ws : List ℤ) → left (marked ms s) u ws ≡ left (λ c. is_in c fs) u ws
  shows_left u ws = ap (λ (f : ℕ → Bool). left f u ws) (λ i c. k.stamped c i)

pub zeros : (n c : ℕ) → get_or (replicate n 0) c 0 ≤ 0
zeros n c =
    ⊎_elim (λ h. rw (get_or-replicate {A = ℕ} n c 0 0 h) (omega arith))
    (λ g. let o : length (replicate {A = ℕ} n 0) ≤ c = rw (length-replicate {A = ℕ} n 0) g in rw (get_or-eq_default (replicate {A = ℕ} n 0) 0 o)
    (omega arith))
    (lt_or_le c n)

-- ---- hints one by one
module _ (ws : List ℤ) (at : ℕ) (fs hs : List ℕ) (j h : ℕ) (l : j < length hs) (e : h ≡ get_or hs j 0) where
  abbrev rest : List ℕ
  rest = drop (j + 1) hs

  abbrev remains : ℕ
  remains = left (λ c. is_in c fs) 0 (drop h ws)

  pub hint_late : begins ws at h ≡ false → follows ws at fs (drop j hs) ≡ false
  unfolding follows
  hint_late b = rw (head 0 hs j l, sym e, b)

  pub hint_more : begins ws at h ≡ true → remains ≡ 1 → follows ws at fs (drop j hs) ≡ false
  unfolding follows
  hint_more b r = rw (head 0 hs j l, sym e, b, r)

  pub hint_done : begins ws at h ≡ true → remains ≡ 0 → span (drop at ws) ≡ 0 → follows ws at fs (drop j hs) ≡ true
  unfolding follows
  hint_done b r s = rw (head 0 hs j l, sym e, b, r, s)

  pub hint_ends : begins ws at h ≡ true → remains ≡ 0 → (span (drop at ws) ≡ 0 → ⊥) → length ws ≤ next_at ws at → follows ws at fs (drop j hs) ≡ false
  unfolding follows
  hint_ends b r s n = rw (head 0 hs j l, sym e, b, r, ne_eqb _ _ s, le-ltb _ _ n)

  pub hint_next : begins ws at h ≡ true → remains ≡ 0 → (span (drop at ws) ≡ 0 → ⊥) → next_at ws at < length ws
      → follows ws at fs (drop j hs) ≡ follows ws (next_at ws at) (literals (drop (next_at ws at) ws) []) rest
  unfolding follows
  hint_next b r s n = rw (head 0 hs j l, sym e, b, r, ne_eqb _ _ s, lt-ltb _ _ n)

  pub hint_only : begins ws at h ≡ true → (remains ≡ 1 → ⊥) → (remains ≡ 0 → ⊥) → follows ws at fs (drop j hs) ≡ follows ws at (opposite remains ∷ fs) rest
  unfolding follows
  hint_only b n z = rw (head 0 hs j l, sym e, b, ne_eqb _ _ n, ne_eqb _ _ z)

pub hint_none : (ws : List ℤ) (at : ℕ) (fs hs : List ℕ) (j : ℕ) → length hs ≤ j → follows ws at fs (drop j hs) ≡ false
unfolding follows
hint_none ws at fs hs j l = rw (drop_of_length-le hs l)

-- ---- the loop over the hints: where it stands
pub record Following (ws : List ℤ) (n : ℕ) (hs ms : List ℕ) (at s end j : ℕ) : Type 0 where
  pub in_words : at < length ws
  pub ends : end ≡ at + span (drop at ws)
  pub taken : List ℕ
  pub shows : Shows ms s taken
  pub same : follows ws n (literals (drop n ws) []) hs ≡ follows ws at taken (drop j hs)

module _ {ws : List ℤ} {n : ℕ} {hs ms : List ℕ} {at s end j : ℕ} (v : Following ws n hs ms at s end j) (l : j < length hs) where
  abbrev whole : Bool
  whole = follows ws n (literals (drop n ws) []) hs

  abbrev h : ℕ
  h = get_or hs j 0

  pub turn_late : begins ws at h ≡ false → false ≡ whole
  turn_late t = sym (v.same ∙ hint_late ws at v.taken hs j h l refl t)

  -- the hint names a clause before the lemma, of which r is left
  module _ (begun : begins ws at h ≡ true) {r : ℕ} (left_is : r ≡ left (marked ms s) 0 (drop h ws)) where
    remains_is : r ≡ left (λ c. is_in c v.taken) 0 (drop h ws)
    remains_is = left_is ∙ shows_left ms s v.taken v.shows 0 (drop h ws)

    pub turn_more : r ≡ 1 → false ≡ whole
    turn_more o = sym (v.same ∙ hint_more ws at v.taken hs j h l refl begun (sym remains_is ∙ o))

    pub turn_done : r ≡ 0 → end ≡ at → true ≡ whole
    turn_done o z = sym (v.same ∙ hint_done ws at v.taken hs j h l refl begun (sym remains_is ∙ o) (omega (arith, v.ends)))

    pub turn_ends : r ≡ 0 → (end ≡ at → ⊥) → length ws ≤ end + 1 → false ≡ whole
    turn_ends o z g =
        sym (v.same ∙ hint_ends ws at v.taken hs j h l refl begun (sym remains_is ∙ o) (λ q. z (omega (arith, v.ends, q))) (omega (arith, v.ends)))

    pub turn_next : r ≡ 0 → (end ≡ at → ⊥) → end + 1 < length ws → {new : List ℕ} {s' end' : ℕ} → end' ≡ end + 1 + span (drop (end + 1) ws)
        → Shows new s' (literals (drop (end + 1) ws) []) → Following ws n hs new (end + 1) s' end' (j + 1)
    turn_next o z g ends shows =
        let to : next_at ws at ≡ end + 1 = omega (arith, v.ends) in
        record {
          in_words = g;
          ends = ends;
          taken = literals (drop (end + 1) ws) [];
          shows = shows;
          same = v.same ∙ hint_next ws at v.taken hs j h l refl begun (sym remains_is ∙ o) (λ q. z (omega (arith, v.ends, q))) (omega arith)
              ∙ ap (λ (p : ℕ). follows ws p (literals (drop p ws) []) (drop (j + 1) hs)) to;
        }

    pub turn_only : 2 ≤ r → {o : ℕ} → o ≡ opposite r → o < length ms → Following ws n hs (set ms o s) at s end (j + 1)
    turn_only p o_is m =
        record {
          in_words = v.in_words;
          ends = v.ends;
          taken = opposite r ∷ v.taken;
          shows = rw o_is (shows_set ms s v.taken v.shows (opposite r) (rw o_is at m));
          same = v.same ∙ hint_only ws at v.taken hs j h l refl begun (λ q. omega (arith, remains_is, q)) (λ q. omega (arith, remains_is, q))
              ∙ ap (λ (x : ℕ). follows ws at (opposite x ∷ v.taken) (drop (j + 1) hs)) (sym remains_is);
        }

-- ---- the call
pub within : (ws : List ℤ) → list_all (λ w. ltb (code_of w) 43554) ws ≡ all_within ws
unfolding all_within
within [] = refl
within (w ∷ ws) = by (ltb (code_of w) 43554) (ltb 21776 (nat_abs w)) refl refl (within ws)
  where
    by : (a b : Bool) → ltb (code_of w) 43554 ≡ a → ltb 21776 (nat_abs w) ≡ b → list_all (λ w. ltb (code_of w) 43554) ws ≡ all_within ws
        → a && list_all (λ w. ltb (code_of w) 43554) ws ≡ cond b false (all_within ws)
    by true false p q on = on
    by false true p q on = refl
    by true true p q on = absurd (omega (arith, ltb-true 21776 (nat_abs w) q, code_small w (ltb-true (code_of w) 43554 p)))
    by false false p q on = absurd (omega (arith, ltb-false (code_of w) 43554 p, small_code w (ltb-false 21776 (nat_abs w) q)))

module _ (ws : List ℤ) (n : ℕ) (hs : List ℕ) where
  pub call_short : length ws ≤ n → false ≡ refutes ws n hs
  unfolding refutes
  call_short l = rw (le-ltb n (length ws) l)

  pub call_outside : n < length ws → all_within ws ≡ false → false ≡ refutes ws n hs
  unfolding refutes
  call_outside l e = rw (lt-ltb n (length ws) l, e)

  pub call_answer : n < length ws → all_within ws ≡ true → refutes ws n hs ≡ follows ws n (literals (drop n ws) []) hs
  unfolding refutes
  call_answer l e = rw (lt-ltb n (length ws) l, e)
