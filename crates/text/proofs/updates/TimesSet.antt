-- How often a counter is set: what the slots and the items after them tell of it.
use Prim.Native.Nat.{ℕ, zero, suc, ◌+◌, ◌<◌}
use mathlib.Core.Path.{◌≡◌, refl, sym, ap, ap₂, ◌∙◌}
use mathlib.Core.List.{List, [], ◌∷◌}
use mathlib.Core.Bool.{Bool, true, false, cond, not, ◌&&◌, ◌||◌, false≢true}
use native.Mathlib.Omega.{arith}
use lib.Dec.{T, ltb, leb, eqb}
use lib.ListN.{length, set, replicate, get_or-replicate}
use lib.Seq.{get_or-set_same, get_or-set_other}
use borrow.Author.Tests.{lt-ltb, ltb-true, lt-leb, eq-eqb, ne_eqb, eqb-true}
use Rattle.std.specs.Prelude.{Option, Some, None}
use Rattle.model.specs.declared.Update.{Update}
use Rattle.model.specs.Indexed.{all_below}
use Rattle.model.specs.Record.{blank_update}
use Rattle.model.specs.Automaton.{is_keep}
use Rattle.model.proofs.IndexedLaws.{and_T, T_true, all_below_lem, all_fails}
use Rattle.text.specs.declared.updates.SetRead.{SetRead}
use Rattle.text.specs.declared.updates.SetRead.TheVariants.{ToConstant, ToSum}
use Rattle.text.specs.updates.Sets.{is_malformed, counter_of, times_set, set_twice}
use Rattle.text.specs.updates.OnePass.{is_set}
use Rattle.text.proofs.Laws.Slots.{three_ways}

-- an item that sets one of v0 to v3 is of its form
sets_one : (a : Option SetRead) (i : ℕ) → i < 4 → counter_of a ≡ i → is_malformed a ≡ false
sets_one None i l e = absurd (omega (arith, l, e))
sets_one (Some (ToConstant v c)) i l e = refl
sets_one (Some (ToSum v w negative n)) i l e = refl

-- after an item is put into its slot, its counter is set too
pub set_more : (slots : List Update) (a : Option SetRead) (u : Update) → length slots ≡ 4 → is_keep u ≡ is_malformed a → (i : ℕ) → i < 4
    → is_set (set slots (counter_of a) (u)) i ≡ (eqb i (counter_of a) || is_set slots i)
set_more slots a u long keep i l =
    three_ways i (counter_of a)
    (λ s. other (λ e. omega (arith, s, e)))
    same
    (λ s. other (λ e. omega (arith, s, e)))
  where
    x : Update
    x = u

    same : i ≡ counter_of a → is_set (set slots (counter_of a) x) i ≡ (eqb i (counter_of a) || is_set slots i)
    same e = rw (← e, get_or-set_same slots i x blank_update (omega (arith, l, long)), keep, sets_one a i l (sym e), lt-ltb i 4 l, eq-eqb i i refl)

    other : (i ≡ counter_of a → ⊥) → is_set (set slots (counter_of a) x) i ≡ (eqb i (counter_of a) || is_set slots i)
    other d = rw (get_or-set_other slots (counter_of a) i x blank_update d, ne_eqb i (counter_of a) d)

-- in blank slots no counter is set
pub blank_set : (i : ℕ) → i < 4 → is_set (replicate 4 blank_update) i ≡ false
blank_set i l = rw (get_or-replicate 4 i blank_update blank_update l, lt-ltb i 4 l)

all_same : (p q : ℕ → Bool) (n : ℕ) → ((i : ℕ) → i < n → p i ≡ q i) → all_below p n ≡ all_below q n
unfolding all_below
all_same p q zero h = refl
all_same p q (suc n) h = ap₂ ◌&&◌ (all_same p q n (λ i l. h i (omega arith))) (h n (omega arith))

-- counter i is set once at most, by the slots and the items after them
abbrev pub once : List Update → List (Option SetRead) → ℕ → Bool
once slots l i = leb (cond (is_set slots i) 1 0 + times_set i l) 1

pub once_none : (slots : List Update) → all_below (once slots []) 4 ≡ true
unfolding times_set
once_none slots = (T_true _).0 ((all_below_lem (once slots []) 4).1 (λ i l. go (is_set slots i)))
  where
    go : (b : Bool) → T (leb (cond b 1 0 + 0) 1)
    go true = tt
    go false = tt

-- one of two, or none
one_or_other : (b c : Bool) → (b ≡ true → c ≡ true → ⊥) → (n : ℕ) → cond (b || c) 1 0 + n ≡ cond c 1 0 + (cond b 1 0 + n)
one_or_other true true h n = absurd (h refl refl)
one_or_other true false h n = omega arith
one_or_other false true h n = omega arith
one_or_other false false h n = omega arith

-- an item is put into its slot: its counter was set before, or each is set as often as with the item among those that follow
pub once_more : (slots : List Update) (a : Option SetRead) (u : Update) → length slots ≡ 4 → is_keep u ≡ is_malformed a → (l : List (Option SetRead))
    → (is_set slots (counter_of a) || not (all_below (once (set slots (counter_of a) (u)) l) 4)) ≡ not (all_below (once slots (a ∷ l)) 4)
unfolding times_set
once_more slots a u long keep l = go (is_set slots (counter_of a)) refl
  where
    k : ℕ
    k = counter_of a

    next : List Update
    next = set slots k u

    again : is_set slots k ≡ true → once slots (a ∷ l) k ≡ false
    again h = rw (h, eq-eqb k k refl) (lt-leb (1 + (1 + times_set k l)) 1 (omega arith))

    moved : is_set slots k ≡ false → (i : ℕ) → i < 4 → once next l i ≡ once slots (a ∷ l) i
    moved h i p =
        let apart : eqb i k ≡ true → is_set slots i ≡ true → ⊥ = λ e f. false≢true (sym h ∙ ap (is_set slots) (sym (eqb-true i k e)) ∙ f) in
        rw (set_more slots a u long keep i p) (ap (λ (n : ℕ). leb n 1) (one_or_other (eqb i k) (is_set slots i) apart (times_set i l)))

    go : (b : Bool) → is_set slots k ≡ b → (b || not (all_below (once next l) 4)) ≡ not (all_below (once slots (a ∷ l)) 4)
    go true h =
        let declared : k < 4 = ltb-true k 4 ((T_true _).0 ((and_T (ltb k 4) _).0 ((T_true _).1 h)).0) in
        rw (all_fails (once slots (a ∷ l)) k 4 declared (again h))
    go false h = ap not (all_same (once next l) (once slots (a ∷ l)) 4 (moved h))

-- after blank slots it is how often the items set it
pub once_blank : (items : List (Option SetRead)) → not (all_below (once (replicate 4 blank_update) items) 4) ≡ set_twice items
unfolding set_twice
once_blank items =
    ap not (all_same _ _ 4 (λ i l. let e : 0 + times_set i items ≡ times_set i items = omega arith in rw (blank_set i l) (ap (λ (n : ℕ). leb n 1) e)))
