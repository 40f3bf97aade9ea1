-- The counters after the listed updates, one after the other.
use Prim.Native.Nat.{ℕ, zero, suc, ◌+◌, ◌≤◌, ◌<◌}
use native.Mathlib.Numerals.{add-one}
use mathlib.Core.Path.{◌≡◌, refl, ap, ◌∙◌}
use mathlib.Core.Logic.{⊎_elim}
use mathlib.Core.List.{List}
use Rattle.std.specs.Prelude.{Option, None, Some, option_map}
use lib.ListN.{length, get_or, set, length-set, get_or-eq_default}
use lib.Seq.{ext_get_or, get_or-set_other}
use native.Mathlib.Omega.{arith}
use Rattle.model.specs.declared.Update.{Update}
use Rattle.model.specs.declared.Counter.{Counter}
use Rattle.model.specs.declared.Edge.{Edge}
use Rattle.model.specs.Indexed.{and_then}
use Rattle.model.specs.Record.{blank_counter, blank_update, counter_in}
use Rattle.model.specs.Automaton.{new_counter, applied, updated}
use Rattle.model.proofs.IndexedLaws.{lt_or_le}

set_past : (l : List ℕ) (i v : ℕ) → length l ≤ i → set l i v ≡ l
set_past l i v p =
    ext_get_or 0 (set l i v) l (length-set l i v)
    (λ k q. let r : k < length l = rw (length-set l i v) at q in get_or-set_other l i k v 0 (λ e. omega (arith, e, r)))

-- past the slots of an edge nothing is set
pub past_slots : (counters : List Counter) (e : Edge) (vs : List ℕ) (i : ℕ) → length e.updates ≤ i → length vs ≤ i
    → applied counters e vs i ≡ Some vs
unfolding applied
past_slots counters e vs i p q =
    let greatest = (get_or counters i blank_counter).greatest in
    ap (λ (u : Update). option_map (set vs i) (new_counter (λ w. get_or vs w 0) greatest (get_or vs i 0) u))
    (get_or-eq_default e.updates blank_update p)
    ∙ ap (λ (l : List ℕ). Some l) (set_past vs i (get_or vs i 0) q)

-- ---- the turns of the loop over listed updates
pub updated_first : (counters : List Counter) (e : Edge) (vs : List ℕ) → updated counters e vs 0 ≡ Some vs
unfolding updated
updated_first counters e vs = refl

pub updated_next : (counters : List Counter) (e : Edge) (vs now : List ℕ) (n : ℕ) {x : Option (List ℕ)} → updated counters e vs n ≡ Some now
    → applied counters e now (counter_in e.order n) ≡ x → updated counters e vs (n + 1) ≡ x
unfolding updated
updated_next counters e vs now n h g =
    ap (updated counters e vs) (add-one n) ∙ ap (λ (y : Option (List ℕ)). and_then y (λ now. applied counters e now (counter_in e.order n))) h ∙ g

-- where one leaves its range, so do all after it
pub updated_stays : (counters : List Counter) (e : Edge) (vs : List ℕ) (k n : ℕ) → updated counters e vs k ≡ None → k ≤ n → updated counters e vs n ≡ None
unfolding updated
updated_stays counters e vs k zero h l = let q : k ≡ 0 = omega arith in rw q at h
updated_stays counters e vs k (suc n) h l = ⊎_elim
    (λ p. ap (λ (y : Option (List ℕ)). and_then y (λ now. applied counters e now (counter_in e.order n))) (updated_stays counters e vs k n h (omega arith)))
    (λ p. let q : k ≡ suc n = omega arith in rw q at h)
    (lt_or_le k (suc n))
