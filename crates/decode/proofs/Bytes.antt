-- Loops over the bytes of an assignment: the first byte that is not 0 or 1, the place of the true member of a group, the bytes of the run.
use mathlib.Core.Path.{◌≡◌, refl, sym, ap, ap₂, ◌∙◌}
use mathlib.Core.Logic.{◌↔◌}
use mathlib.Core.Bool.{Bool, true, false, cond}
use mathlib.Core.List.{List, [], ◌∷◌}
use Rattle.std.specs.Prelude.{Option, None, Some}
use Prim.Native.Nat.{ℕ, zero, suc, ◌+◌, ◌*◌, ◌≤◌, ◌<◌}
use native.Mathlib.Nat.{mul-le-mul_right, zero-add}
use native.Mathlib.Numerals.{add-one}
use native.Mathlib.Omega.{arith}
use lib.Dec.{ltb, eqb}
use Rattle.std.specs.List.{position_or_len}
use Rattle.std.specs.Option.{unwrap_or}
use lib.ListN.{length, get_or, take, drop, length-drop}
use lib.Seq.{drop-cons, length-take-le}
use borrow.Author.Tests.{lt-ltb, le-ltb, ltb-true, ltb-false}
use Rattle.model.specs.declared.Model.{Model}
use Rattle.model.specs.declared.Totals.{Totals}
use Rattle.model.specs.Bounds.{KnownTotals}
use Rattle.model.specs.Indexed.{list_below}
use Rattle.model.specs.Automaton.{choices, variables}
use Rattle.model.proofs.IndexedLaws.{some_none}
use Rattle.model.proofs.FormLaws.{variables_is, state_of_totals, choices_of_totals}
use Rattle.list.specs.Assignments.{Binary, bit, place_of_true, run_of}
use Rattle.list.proofs.OneHot.{state_width_is}
use Rattle.list.specs.Items.{state_width}
use Rattle.list.specs.Clauses.{one_hot_width}
use Rattle.decode.specs.DecodeCall.{first_wrong_byte}

-- ---- the first byte that is not 0 or 1, where the bytes are counted from i
at_first : (n i : ℕ) → cond {A = Option ℕ} (ltb 0 (suc n)) (Some (i + 0)) None ≡ Some i
at_first n i = let e : i + 0 ≡ i = omega arith in rw (lt-ltb 0 (suc n) (omega arith)) (ap Some e)

at_next : (p n i : ℕ) → cond {A = Option ℕ} (ltb (1 + p) (suc n)) (Some (i + (1 + p))) None ≡ cond (ltb p n) (Some (i + 1 + p)) None
at_next p n i = by (ltb p n) refl
  where
    by : (b : Bool) → ltb p n ≡ b → cond {A = Option ℕ} (ltb (1 + p) (suc n)) (Some (i + (1 + p))) None ≡ cond b (Some (i + 1 + p)) None
    by true q = let e : i + (1 + p) ≡ i + 1 + p = omega arith in rw (lt-ltb (1 + p) (suc n) (omega (arith, ltb-true p n q))) (ap Some e)
    by false q = rw (le-ltb (1 + p) (suc n) (omega (arith, ltb-false p n q)))

found_from : (a : List ℕ) (i : ℕ)
    → cond (ltb (position_or_len (λ x. ltb 1 x) a) (length a)) (Some (i + position_or_len (λ x. ltb 1 x) a)) None ≡ first_wrong_byte i a
unfolding first_wrong_byte
found_from [] i = refl
found_from (x ∷ a) i = go (ltb 1 x) refl (found_from a (i + 1))
  where
    at : ℕ
    at = position_or_len (λ x. ltb 1 x) a

    go : (b : Bool) → ltb 1 x ≡ b → cond (ltb at (length a)) (Some (i + 1 + at)) None ≡ first_wrong_byte (i + 1) a
        → cond (ltb (position_or_len (λ x. ltb 1 x) (x ∷ a)) (suc (length a))) (Some (i + position_or_len (λ x. ltb 1 x) (x ∷ a))) None
        ≡ cond b (Some i) (first_wrong_byte (i + 1) a)
    go true e ih = rw e (at_first (length a) i)
    go false e ih = rw e (at_next at (length a) i ∙ ih)

pub found_first : (a : List ℕ)
    → cond (ltb (position_or_len (λ x. ltb 1 x) a) (length a)) (Some (position_or_len (λ x. ltb 1 x) a)) None ≡ first_wrong_byte 0 a
found_first a =
    ap (λ (n : ℕ). cond (ltb (position_or_len (λ x. ltb 1 x) a) (length a)) (Some n) None) (sym (zero-add (position_or_len (λ x. ltb 1 x) a))) ∙ found_from a 0

-- there is none exactly if each byte is 0 or 1
pub wrong_iff : (a : List ℕ) (i : ℕ) → (first_wrong_byte i a ≡ None) ↔ Binary a
unfolding first_wrong_byte
wrong_iff [] i = (λ h. tt, λ h. refl)
wrong_iff (x ∷ a) i = go (ltb 1 x) refl (wrong_iff a (i + 1))
  where
    go : (b : Bool) → ltb 1 x ≡ b → (first_wrong_byte (i + 1) a ≡ None) ↔ Binary a
        → (cond b (Some i) (first_wrong_byte (i + 1) a) ≡ None) ↔ ((x < 2) × Binary a)
    go true e ih = ((λ h. absurd (some_none (sym h))), λ h. absurd (omega (arith, ltb-true 1 x e, h.0)))
    go false e ih = ((λ h. (omega (arith, ltb-false 1 x e), ih.0 h)), λ h. ih.1 h.1)

-- ---- the place of the true member of the group of n members at b
pub place_is : (a : List ℕ) (b n : ℕ) → b + n ≤ length a → position_or_len (λ x. eqb x 1) (take n (drop b a)) ≡ place_of_true a b n
unfolding place_of_true
place_is a b zero h = refl
place_is a b (suc n) h =
    let here : b < length a = omega (arith, h) in
    ap (λ (l : List ℕ). position_or_len (λ x. eqb x 1) (take (suc n) l)) (drop-cons a b 0 here ∙ ap (λ (k : ℕ). get_or a b 0 ∷ drop k a) (sym (add-one b)))
    ∙ go (bit a b) refl (place_is a (b + 1) n (omega (arith, h)))
  where
    go : (x : Bool) → bit a b ≡ x → position_or_len (λ x. eqb x 1) (take n (drop (b + 1) a)) ≡ place_of_true a (b + 1) n
        → position_or_len (λ x. eqb x 1) (get_or a b 0 ∷ take n (drop (b + 1) a)) ≡ cond x 0 (place_of_true a (b + 1) n + 1)
    go true e ih = rw e refl
    go false e ih = rw e (omega (arith, ih))

pub place_most : (a : List ℕ) (b n : ℕ) → place_of_true a b n ≤ n
unfolding place_of_true
place_most a b zero = omega arith
place_most a b (suc n) = go (bit a b) (place_most a (b + 1) n)
  where
    go : (x : Bool) → place_of_true a (b + 1) n ≤ n → cond x 0 (place_of_true a (b + 1) n + 1) ≤ suc n
    go true h = omega arith
    go false h = omega (arith, h)

pub place_found : (a : List ℕ) (b n k : ℕ) {r : Option ℕ} → b + n ≤ length a → k ≡ n
    → r ≡ cond (ltb (position_or_len (λ x. eqb x 1) (take k (drop b a))) (length (take k (drop b a))))
    (Some (position_or_len (λ x. eqb x 1) (take k (drop b a)))) None
    → unwrap_or r n ≡ place_of_true a b n
place_found a b n k {r} h e q =
    let long : length (take n (drop b a)) ≡ n = length-take-le n (drop b a) (omega (arith, length-drop b a, h)) in
    ap (λ (o : Option ℕ). unwrap_or o n)
    (q
    ∙ ap (λ (j : ℕ). cond {A = Option ℕ} (ltb (position_or_len (λ x. eqb x 1) (take j (drop b a))) (length (take j (drop b a))))
    (Some (position_or_len (λ x. eqb x 1) (take j (drop b a)))) None) e
    ∙ ap₂ (λ (p l : ℕ). cond {A = Option ℕ} (ltb p l) (Some p) None) (place_is a b n h) long)
    ∙ by (ltb (place_of_true a b n) n) refl
  where
    by : (x : Bool) → ltb (place_of_true a b n) n ≡ x → unwrap_or (cond {A = Option ℕ} x (Some (place_of_true a b n)) None) n ≡ place_of_true a b n
    by true t = refl
    by false t = omega (arith, ltb-false (place_of_true a b n) n t, place_most a b n)

-- ---- the bytes of the run, where a state block has S bytes and a choice block H
unfoldable pub step_byte : List ℕ → ℕ → ℕ → ℕ → ℕ
step_byte a S H t = place_of_true a (t * (S + H) + S) H

pub step_byte_lem : (a : List ℕ) (S H t b x : ℕ) → b ≡ t * (S + H) + S → x ≡ place_of_true a b H → x ≡ step_byte a S H t
unfolding step_byte
step_byte_lem a S H t b x p q = q ∙ ap (λ (i : ℕ). place_of_true a i H) p

pub run_is : (m : Model) (k : ℕ) (a : List ℕ) (z : Totals) → KnownTotals m z → list_below (step_byte a z.state z.choices) k ≡ run_of m k a
unfolding run_of step_byte
run_is m k a z h =
    ap (λ (S : ℕ). list_below (step_byte a S z.choices) k) (state_of_totals m z h ∙ sym (state_width_is m)) ∙
    ap (λ (H : ℕ). list_below (step_byte a (state_width one_hot_width m) H) k) (choices_of_totals m z h)

-- step t + 1 of k lies within an assignment for k, and so does the state block after it
pub step_fits :
    (m : Model) (k t n : ℕ) (z : Totals) → KnownTotals m z → n ≡ variables m k → t < k → t * (z.state + z.choices) + z.state + (z.choices + z.state) ≤ n
step_fits m k t n z h l p =
    let S = state_of_totals m z h in
    let H = choices_of_totals m z h in
    let e : variables m k ≡ z.state + k * (z.state + z.choices) = variables_is m k ∙ ap (λ (x : ℕ). x + k * (x + choices m)) (sym S)
    ∙ ap (λ (x : ℕ). z.state + k * (z.state + x)) (sym H) in
    let q : t + 1 ≤ k = omega arith in
    omega (arith, mul-le-mul_right (z.state + z.choices) q)
