-- A refutation of words, said with the truth of words (specs/Words): no bytes make refuted words true. So a list that is refuted for k has no satisfying
-- assignment, none for a smaller bound goes on to one (demand 3), and by demand 2 there is no run of k steps or fewer.
use mathlib.Core.Path.{◌≡◌, refl, sym, ap, subst, ◌∙◌}
use mathlib.Core.Logic.{⊎_elim}
use mathlib.Core.Bool.{Bool, true, false, not, cond, ◌||◌, ◌&&◌}
use mathlib.Core.List.{List, [], ◌∷◌, ◌++◌}
use Prim.Native.Nat.{ℕ, zero, suc, ◌+◌, ◌-◌, ◌*◌, ◌/◌, ◌%◌, ◌<◌, ◌≤◌}
use native.Mathlib.Omega.{arith}
use borrow.Author.Tests.{eq-eqb, ne_eqb, eqb-true, eqb-false}
use lib.Dec.{T, eqb}
use lib.IntN.{ℤ, pos, negsuc}
use lib.ListN.{length, get_or, drop}
use Rattle.model.specs.declared.Model.{Model}
use Rattle.model.specs.Run.{is_run}
use Rattle.list.specs.Lists.{all_of, any_of}
use Rattle.list.specs.Clauses.{words}
use Rattle.list.specs.Demands.{Satisfies}
use Rattle.list.proofs.Claims as ListClaims
use Rattle.walk.specs.Walker.{walk_report}
use Rattle.walk.proofs.Accepts.{accepts_iff}
use Rattle.emission.specs.EmitCall.{EmitReport, emit_report, emit_left}
use Rattle.refutation.specs.Codes.{code_of, closes, opposite, begins}
use Rattle.refutation.specs.Refutation.{refutes}
use Rattle.refutation.proofs.Sound.{some_true, ClausesTrue, refutes_sound, contrary, is_T, T_is, lt_or_le, begins_before}
use Rattle.refutation.proofs.Laws.{begins_after}
use Rattle.refute.specs.RefuteCall.{RefuteReport, checked_report, refute_reported, after_emission, refute_report}
use Rattle.claims.specs.Words.{is_zero, on_first, clauses_in, word_true, words_true}
use Rattle.claims.specs.Calls.{calls_with, record_calls, Accepts, Emitted}
use Rattle.claims.specs.Refuted.{Refuting, record_refutes, RefutedList, NoRun}
use Rattle.claims.proofs.Accepted.{Facts, facts, walk_accepted}
use Rattle.claims.proofs.CallProofs.{words_true_lem, solves_satisfies}

-- ---- the truth of a code under bytes
-- Code 2 v is variable v, whose byte has the index v - 1; code 2 v + 1 is its negation.
abbrev byte_true : List ℕ → ℕ → Bool
byte_true a i = eqb (get_or a i 0) 1

unfoldable code_true : List ℕ → ℕ → Bool
code_true a c = cond (eqb (c % 2) 0) (byte_true a (c / 2 - 1)) (not (byte_true a (c / 2 - 1)))

even : (a : List ℕ) (c : ℕ) → c % 2 ≡ 0 → code_true a c ≡ byte_true a (c / 2 - 1)
unfolding code_true
even a c e = rw (eq-eqb _ _ e)

odd : (a : List ℕ) (c : ℕ) → (c % 2 ≡ 0 → ⊥) → code_true a c ≡ not (byte_true a (c / 2 - 1))
unfolding code_true
odd a c e = rw (ne_eqb _ _ e)

not_not : (b : Bool) → b ≡ not (not b)
not_not true = refl
not_not false = refl

opposed : (a : List ℕ) (c : ℕ) → 2 ≤ c → code_true a (opposite c) ≡ not (code_true a c)
unfolding opposite
opposed a c h = go (eqb (c % 2) 0) refl
  where
    go : (b : Bool) → eqb (c % 2) 0 ≡ b → code_true a (cond b (c + 1) (c - 1)) ≡ not (code_true a c)
    go true e =
        let z : c % 2 ≡ 0 = eqb-true _ _ e in
        let same : (c + 1) / 2 - 1 ≡ c / 2 - 1 = omega arith in
        odd a (c + 1) (λ o. omega arith) ∙ ap (λ (n : ℕ). not (byte_true a n)) same ∙ ap not (sym (even a c z))
    go false e =
        let z : c % 2 ≡ 1 = one (c % 2) (eqb-false _ _ e) (omega arith) in
        let same : (c - 1) / 2 - 1 ≡ c / 2 - 1 = omega arith in
        even a (c - 1) (omega arith) ∙ ap (byte_true a) same ∙ not_not _ ∙ ap not (sym (odd a c (eqb-false _ _ e)))
      where
        one : (n : ℕ) → (n ≡ 0 → ⊥) → n < 2 → n ≡ 1
        one zero f l = absurd (f refl)
        one (suc zero) f l = refl
        one (suc (suc n)) f l = absurd (omega arith)

-- the code of a word is true exactly if the word is, and closes a clause exactly if the word is 0
code_true_lem : (a : List ℕ) (w : ℤ) → is_zero w ≡ false → code_true a (code_of w) ≡ word_true a w
code_true_lem a (pos zero) z = absurd (contrary refl z)
code_true_lem a (pos (suc n)) z =
    let at : 2 * suc n / 2 - 1 ≡ suc n - 1 = omega arith in
    even a (2 * suc n) (omega arith) ∙ ap (byte_true a) at
code_true_lem a (negsuc n) z =
    let at : (2 * n + 3) / 2 - 1 ≡ suc n - 1 = omega arith in
    odd a (2 * n + 3) (λ h. omega arith) ∙ ap (λ (i : ℕ). not (byte_true a i)) at

closes_zero : (w : ℤ) → closes w ≡ is_zero w
closes_zero (pos zero) = refl
closes_zero (pos (suc n)) = ne_eqb (2 * suc n) 0 (λ h. omega arith)
closes_zero (negsuc n) = ne_eqb (2 * n + 3) 0 (λ h. omega arith)

-- ---- words that are true, in front of any others
and_left : (a b : Bool) → T (a && b) → T a
and_left true b t = tt
and_left false b t = elim t [ ]

and_right : (a b : Bool) → T (a && b) → T b
and_right true b t = t
and_right false b t = elim t [ ]

module _ (a : List ℕ) (ys : List ℤ) where
  abbrev v : ℕ → Bool
  v = code_true a

  abbrev all_true : List (List ℤ) → Bool
  all_true cs = all_of (λ c. any_of (word_true a) c) cs

  -- the clauses after the first
  abbrev later_true : List (List ℤ) → Bool
  later_true [] = true
  later_true (c ∷ cs) = all_true cs

  later_of : (cs : List (List ℤ)) → T (all_true cs) → T (later_true cs)
  later_of [] t = tt
  later_of (c ∷ cs) t = and_right (any_of (word_true a) c) (all_true cs) t

  -- a first clause that begins with w is true: w is, or the rest of it is
  alone : (w : ℤ) → T (all_true (on_first w [])) → T (word_true a w)
  alone w t = go (word_true a w) t
    where
      go : (b : Bool) → T ((b || false) && true) → T b
      go true t = tt
      go false t = t

  leads : (w : ℤ) (cs : List (List ℤ)) → T (all_true (on_first w cs)) → T (word_true a w || all_true cs)
  leads w [] t = go (word_true a w)
    where
      go : (b : Bool) → T (b || true)
      go true = tt
      go false = tt
  leads w (c ∷ cs) t = go (word_true a w) (any_of (word_true a) c) (all_true cs) t
    where
      go : (b x y : Bool) → T ((b || x) && y) → T (b || (x && y))
      go true x y t = tt
      go false x y t = t

  either : (b x y : Bool) → T (b || x) → (T x → T y) → T (cond b true y)
  either true x y t f = tt
  either false x y t f = f t

  -- the clause at the start
  first_true : (xs : List ℤ) → 0 < length xs → T (all_true (clauses_in xs)) → T (some_true v (xs ++ ys))
  unfolding clauses_in some_true
  first_true [] l t = absurd (omega arith)
  first_true (w ∷ []) l t = rw (closes_zero w) (go (is_zero w) refl t)
    where
      go : (z : Bool) → is_zero w ≡ z → T (all_true (cond z ([] ∷ []) (on_first w []))) → T (cond z false (cond (v (code_of w)) true (some_true v ys)))
      go true p t = t
      go false p t = rw (code_true_lem a w p, T_is (word_true a w) (alone w t)) tt
  first_true (w ∷ x ∷ xs) l t = rw (closes_zero w) (go (is_zero w) refl (first_true (x ∷ xs) (omega arith)) t)
    where
      rest : List (List ℤ)
      rest = clauses_in (x ∷ xs)

      go : (z : Bool) → is_zero w ≡ z → (T (all_true rest) → T (some_true v (x ∷ xs ++ ys))) → T (all_true (cond z ([] ∷ rest) (on_first w rest)))
          → T (cond z false (cond (v (code_of w)) true (some_true v (x ∷ xs ++ ys))))
      go true p on t = t
      go false p on t = rw (code_true_lem a w p) (either (word_true a w) (all_true rest) (some_true v (x ∷ xs ++ ys)) (leads w rest t) on)

  -- the clauses after it
  later_rest : (w : ℤ) (cs : List (List ℤ)) → T (later_true (cond (is_zero w) ([] ∷ cs) (on_first w cs))) → T (later_true cs)
  later_rest w cs t = go (is_zero w) cs t
    where
      go : (z : Bool) (cs : List (List ℤ)) → T (later_true (cond z ([] ∷ cs) (on_first w cs))) → T (later_true cs)
      go true cs t = later_of cs t
      go false [] t = tt
      go false (c ∷ cs) t = t

  later_zero : (w : ℤ) (cs : List (List ℤ)) → is_zero w ≡ true → T (later_true (cond (is_zero w) ([] ∷ cs) (on_first w cs))) → T (all_true cs)
  later_zero w cs z t = rw z at t

  later_true_lem : (xs : List ℤ) → T (later_true (clauses_in xs)) → (h : ℕ) → T (begins (xs ++ ys) (length xs) (suc h))
      → T (some_true v (drop (suc h) (xs ++ ys)))
  unfolding clauses_in
  later_true_lem [] t h b = absurd (omega (arith, begins_before ys 0 (suc h) b))
  later_true_lem (w ∷ xs) t zero b =
      let within = begins_before (w ∷ xs ++ ys) (length (w ∷ xs)) 1 b in
      let closed = sym (begins_after (w ∷ xs ++ ys) (length (w ∷ xs)) 1 within (λ e. omega arith)) ∙ T_is _ b in
      first_true xs (omega (arith, within)) (later_zero w (clauses_in xs) (sym (closes_zero w) ∙ closed) t)
  later_true_lem (w ∷ xs) t (suc h) b =
      let within = begins_before (w ∷ xs ++ ys) (length (w ∷ xs)) (suc (suc h)) b in
      let less : suc h < length xs = omega (arith, within) in
      let closed = sym (begins_after (w ∷ xs ++ ys) (length (w ∷ xs)) (suc (suc h)) within (λ e. omega arith)) ∙ T_is _ b in
      let here : suc h - 1 ≡ h = omega arith in
      let there : suc (suc h) - 1 ≡ suc h = omega arith in
      let begun = begins_after (xs ++ ys) (length xs) (suc h) less (λ e. omega arith) ∙ ap (λ (i : ℕ). closes (get_or (xs ++ ys) i (pos 0))) here
      ∙ sym (ap (λ (i : ℕ). closes (get_or (w ∷ xs ++ ys) i (pos 0))) there) ∙ closed in
      later_true_lem xs (later_rest w (clauses_in xs) t) h (is_T _ begun)

  words_clauses : (xs : List ℤ) → T (words_true a xs) → ClausesTrue v (xs ++ ys) (length xs)
  unfolding words_true
  words_clauses xs t zero b = first_true xs (begins_before (xs ++ ys) (length xs) 0 b) t
  words_clauses xs t (suc h) b = later_true_lem xs (later_of (clauses_in xs) t) h b

-- No bytes make words true that are refuted by the words behind them and the hints.
pub refuted_false : (ws lemmas : List ℤ) (hints : List ℕ) → T (refutes (ws ++ lemmas) (length ws) hints) → (a : List ℕ) → T (words_true a ws) → ⊥
refuted_false ws lemmas hints t a h = refutes_sound (code_true a) (opposed a) (ws ++ lemmas) (length ws) hints (words_clauses a lemmas ws h) t

-- ---- a list that is refuted
-- what the call's contract promises of an answer with the outcome 1
pub from_call : (c : Refuting) (k : ℕ) (old : List ℤ) (hints : List ℕ) (x : RefuteReport) → x ≡ c k old hints → x.outcome ≡ 1 → RefutedList c k
from_call c k old hints x told h = record { old = old; hints = hints; answers = ap (λ (y : RefuteReport). y.outcome) (sym told) ∙ h }

outcome_one : (e : EmitReport) (left : List ℤ) (hints : List ℕ) → (after_emission e left hints).outcome ≡ 1 → (e.number ≡ 0) × T (refutes left e.words hints)
outcome_one e left hints h = go (eqb e.number 0) (refutes left e.words hints) refl h
  where
    go : (b r : Bool) → eqb e.number 0 ≡ b → (cond b (checked_report r e.words) (refute_reported e.number e.words 0)).outcome ≡ 1
        → (e.number ≡ 0) × T r
    go true true p h = (eqb-true _ _ p, tt)
    go true false p h = absurd (omega arith)
    go false r p h = absurd (omega arith)

module _ (room : ℕ → ℕ) (m : Model) (k : ℕ) (x : RefutedList (record_refutes m) k) where
  checked : ((emit_report m k (length x.old)).number ≡ 0)
      × T (refutes (emit_left m k (length x.old) x.old) (emit_report m k (length x.old)).words x.hints)
  unfolding refute_report
  checked = outcome_one (emit_report m k (length x.old)) (emit_left m k (length x.old) x.old) x.hints x.answers

  abbrev emission : Emitted (record_calls m) k
  emission = record { old = x.old; accepts = checked.0 }

  known : Facts (λ n. n) m k emission
  known = facts (λ n. n) m k emission

  -- the list for k has no satisfying assignment
  unsatisfied : (a : List ℕ) → Satisfies m k a → ⊥
  unsatisfied a s =
      let lemmas = drop (length (words m k)) x.old in
      let list = subst T (λ i. refutes (known.left_is i) (known.words_told i) x.hints) checked.1 in
      refuted_false (words m k) lemmas x.hints list a (subst T (sym (words_true_lem m k a)) s.satisfies)

  -- one for a smaller bound would go on to one for k
  unsatisfied_before : (j : ℕ) → j ≤ k → (a : List ℕ) → Satisfies m j a → ⊥
  unsatisfied_before j l a s =
      let on = (ListClaims.demand_3 m known.model_formed j k l).goes_on a s in
      unsatisfied on.0 on.1

  run_longer : (r : List ℕ) → T (is_run m r) → k < length r
  run_longer r h = ⊎_elim (λ (l : k < length r). l) (λ (l : length r ≤ k). absurd (short l)) (lt_or_le k (length r))
    where
      short : length r ≤ k → ⊥
      short l =
          let s = (ListClaims.demand_2 m known.model_formed (length r)).exactly.1 (r, record { long = refl; ends = h }) in
          unsatisfied_before (length r) l s.0 s.1

  walked : (r : List ℕ) → Accepts (walk_report m r) → (length r ≤ 64) × T (is_run m r)
  walked r h = let w = (accepts_iff m r).0 (walk_accepted m r h) in (w.1, w.2)

  pub no_run : NoRun (calls_with room m) k
  no_run = record {
    longer = run_longer;
    walks_none = λ r l h. omega (arith, l, run_longer r (walked r h).1);
    walks_none_at_64 = λ e r h. omega (arith, e, (walked r h).0, run_longer r (walked r h).1);
    none_solvable = λ j l e s. unsatisfied_before j l s.0 (solves_satisfies room m j e s.0 s.1);
    shortest = λ r s w h. omega (arith, w.long, run_longer s h);
  }
