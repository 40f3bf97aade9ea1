-- What two edges, guards or invariants join: slot by slot, where each counter stands in the joined order, and that all of it is formed.
use mathlib.Core.Path.{◌≡◌, refl, sym, ap, subst, ◌∙◌}
use mathlib.Core.Logic.{⊎_elim}
use mathlib.Core.Bool.{Bool, true, false, not, ◌&&◌, cond}
use mathlib.Core.List.{List}
use Prim.Native.Nat.{ℕ, zero, suc, ◌+◌, ◌-◌, ◌*◌, ◌≤◌, ◌<◌}
use native.Mathlib.Nat.{not-suc-le-zero}
use native.Mathlib.Omega.{arith}
use borrow.Author.Tests.{lt-ltb, le-ltb, ne_eqb, eqb-false}
use lib.Dec.{T, leb, ltb, eqb, ltb→lt, lt→ltb, le→leb, T_not}
use lib.IntN.{nat_abs}
use lib.ListN.{replicate, get_or-replicate}
use Rattle.model.specs.declared.Atom.{Atom}
use Rattle.model.specs.declared.Atom.TheVariants.{Blank, OnClock, OnCounter}
use Rattle.model.specs.declared.Update.{Update}
use Rattle.model.specs.declared.Update.TheVariants.{Keep, Constant, Sum}
use Rattle.model.specs.declared.ClockUpdate.{ClockUpdate}
use Rattle.model.specs.declared.ClockUpdate.TheVariants.{Unchanged, Reset, Copy}
use Rattle.model.specs.declared.Edge.{Edge}
use Rattle.model.specs.declared.Model.{Model}
use Rattle.model.specs.Indexed.{sum_below}
use Rattle.model.specs.Record.{blank_atom, blank_update, blank_reset, atom_at, update_at, counter_in, reset_at}
use Rattle.model.specs.Automaton.{is_keep, listed, place_in, set_earlier}
use Rattle.model.specs.Form.{is_not_equal, atom_formed, is_blank, no_gap, each_formed, filled_from_first, atoms_formed, update_formed}
use Rattle.model.specs.Form.{clock_update_formed, is_unchanged}
use Rattle.model.specs.Form.{update_slot_formed, updates_formed, order_slot_formed, order_formed, reset_slot_formed, resets_formed, edge_formed}
use Rattle.model.proofs.IndexedLaws.{and_T, eq_T, T_true, lt_or_le, cond_T, cond_F, not_lt, below_cases, all_below_lem}
use Rattle.model.proofs.IndexedLaws.{sum_below_lem, sum_same, sum_const, get_d_list, first_is}
use Rattle.model.proofs.OrderLaws.{Ordered, place_law, place_at, listed_is, listed_le, set_place}
use Rattle.model.proofs.FormLaws.{WellFormedEdge, and₃, atoms_at, edge_parts, order_slot, keep_is, yes, no}
use Rattle.model.proofs.BlankSlots.{and₇_of}
use Rattle.compose.proofs.JoinedLaws.{atom_wider, update_wider, reset_wider}
use Rattle.compose.proofs.Rows.{pair_lt}
use Rattle.compose.specs.Joined.{shifted_update, shifted_reset, shifted_atom, atom_count, joined_atom, joined_atoms, joined_update}
use Rattle.compose.specs.Joined.{joined_updates, joined_place}
use Rattle.compose.specs.Joined.{joined_location, joined_order, joined_reset, joined_resets, standing, joined_edge}

-- ---- slot by slot
pub joined_atom_lem : (c v : ℕ) (p q : List Atom) (k : ℕ) → k < 4 → atom_at (joined_atoms c v p q) k ≡ joined_atom c v p q k
unfolding joined_atoms
joined_atom_lem c v p q k l = (get_d_list blank_atom (λ k. (joined_atom c v p q k)) 4 k l)

pub joined_update_lem : (c v n label : ℕ) (e f : Edge) (i : ℕ) → i < 4 → update_at (joined_edge c v n label e f) i ≡ joined_update v e f i
unfolding joined_edge joined_updates
joined_update_lem c v n label e f i l = (get_d_list blank_update (λ i. (joined_update v e f i)) 4 i l)

pub joined_reset_lem : (c v n label : ℕ) (e f : Edge) (i : ℕ) → i < 4 → reset_at (joined_edge c v n label e f) i ≡ joined_reset c e f i
unfolding joined_edge joined_resets
joined_reset_lem c v n label e f i l = (get_d_list blank_reset (λ i. (joined_reset c e f i)) 4 i l)

pub joined_place_lem : (v : ℕ) (e f : Edge) (k : ℕ) → k < 4 → counter_in (joined_order v e f) k ≡ joined_place v e f k
unfolding joined_order
joined_place_lem v e f k l = get_d_list 0 (joined_place v e f) 4 k l

-- ---- the other fields of a joined edge
pub joined_source : (c v n label : ℕ) (e f : Edge) → (joined_edge c v n label e f).source ≡ joined_location n e.source f.source
unfolding joined_edge
joined_source c v n label e f = refl

pub joined_target : (c v n label : ℕ) (e f : Edge) → (joined_edge c v n label e f).target ≡ joined_location n e.target f.target
unfolding joined_edge
joined_target c v n label e f = refl

pub joined_label : (c v n label : ℕ) (e f : Edge) → (joined_edge c v n label e f).label ≡ label
unfolding joined_edge
joined_label c v n label e f = refl

pub joined_guard : (c v n label : ℕ) (e f : Edge) → (joined_edge c v n label e f).guard ≡ joined_atoms c v e.guard f.guard
unfolding joined_edge
joined_guard c v n label e f = refl

pub joined_order_lem : (c v n label : ℕ) (e f : Edge) → (joined_edge c v n label e f).order ≡ joined_order v e f
unfolding joined_edge
joined_order_lem c v n label e f = refl

-- ---- the first's slots, then the second's
pub update_first : (c v n label : ℕ) (e f : Edge) (i : ℕ) → i < 4 → i < v → update_at (joined_edge c v n label e f) i ≡ update_at e i
update_first c v n label e f i p l =
    joined_update_lem c v n label e f i p ∙ cond_T (ltb i v) (update_at e i) (shifted_update v (update_at f (i - v))) (lt→ltb i v l)

pub update_second : (c v n label : ℕ) (e f : Edge) (i : ℕ) → v + i < 4 → update_at (joined_edge c v n label e f) (v + i) ≡ shifted_update v (update_at f i)
update_second c v n label e f i p =
    let s : v + i - v ≡ i = omega arith in
    joined_update_lem c v n label e f (v + i) p
    ∙ cond_F (ltb (v + i) v) (update_at e (v + i)) (shifted_update v (update_at f (v + i - v))) (not_lt (v + i) v (omega arith))
    ∙ ap (λ (j : ℕ). shifted_update v (update_at f j)) s

pub reset_first : (c v n label : ℕ) (e f : Edge) (i : ℕ) → i < 4 → i < c → reset_at (joined_edge c v n label e f) i ≡ reset_at e i
reset_first c v n label e f i p l =
    joined_reset_lem c v n label e f i p ∙ cond_T (ltb i c) (reset_at e i) (shifted_reset c (reset_at f (i - c))) (lt→ltb i c l)

pub reset_second : (c v n label : ℕ) (e f : Edge) (i : ℕ) → c + i < 4 → reset_at (joined_edge c v n label e f) (c + i) ≡ shifted_reset c (reset_at f i)
reset_second c v n label e f i p =
    let s : c + i - c ≡ i = omega arith in
    joined_reset_lem c v n label e f (c + i) p
    ∙ cond_F (ltb (c + i) c) (reset_at e (c + i)) (shifted_reset c (reset_at f (c + i - c))) (not_lt (c + i) c (omega arith))
    ∙ ap (λ (j : ℕ). shifted_reset c (reset_at f j)) s

pub atom_first : (c v : ℕ) (p q : List Atom) (k : ℕ) → k < 4 → k < atom_count p → atom_at (joined_atoms c v p q) k ≡ atom_at p k
atom_first c v p q k l m =
    joined_atom_lem c v p q k l ∙ cond_T (ltb k (atom_count p)) (atom_at p k) (shifted_atom c v (atom_at q (k - atom_count p))) (lt→ltb k (atom_count p) m)

pub atom_second : (c v : ℕ) (p q : List Atom) (k : ℕ) → atom_count p + k < 4
    → atom_at (joined_atoms c v p q) (atom_count p + k) ≡ shifted_atom c v (atom_at q k)
atom_second c v p q k l =
    let n = atom_count p in
    let s : n + k - n ≡ k = omega arith in
    joined_atom_lem c v p q (n + k) l
    ∙ cond_F (ltb (n + k) n) (atom_at p (n + k)) (shifted_atom c v (atom_at q (n + k - n))) (not_lt (n + k) n (omega arith))
    ∙ ap (λ (j : ℕ). shifted_atom c v (atom_at q j)) s

-- ---- sums over a range in two parts
sum_parts : (h : ℕ → ℕ) (m n : ℕ) → sum_below h (m + n) ≡ sum_below h m + sum_below (λ i. h (m + i)) n
unfolding sum_below
sum_parts h m zero = let e : m + 0 ≡ m = omega arith in ap (sum_below h) e ∙ omega arith
sum_parts h m (suc n) = let e : m + suc n ≡ suc (m + n) = omega arith in ap (sum_below h) e ∙ omega (arith, sum_parts h m n)

-- terms that are 0 change no sum
sum_rest : (h : ℕ → ℕ) (m n : ℕ) → m ≤ n → ((i : ℕ) → m ≤ i → i < n → h i ≡ 0) → sum_below h n ≡ sum_below h m
unfolding sum_below
sum_rest h m zero p z = let e : m ≡ 0 = omega arith in ap (sum_below h) (sym e)
sum_rest h m (suc n) p z = ⊎_elim
    (λ q. omega (arith, sum_rest h m n (omega arith) (λ i a l. z i a (omega arith)), z n (omega arith) (omega arith)))
    (λ q. let e : suc n ≡ m = omega arith in ap (sum_below h) e)
    (lt_or_le m (suc n))

-- ---- what an edge sets
-- no counter but the first ones is set, and the order names those that are set
pub record Sets (vars : ℕ) (e : Edge) : Type 0 where
  pub rest : (i : ℕ) → vars ≤ i → i < 4 → update_at e i ≡ Keep
  pub ordered : Ordered e

-- a formed edge of a model with so many counters
pub sets_of : (locations clocks vars : ℕ) (e : Edge) → T (edge_formed locations clocks vars e) → Sets vars e
sets_of locations clocks vars e h = let g = edge_parts locations clocks vars e h in record {
  rest = λ i p l. keep_is (update_at e i) (no i vars (update_formed vars (update_at e i)) (is_keep (update_at e i)) (g.4 i l) p);
  ordered = order_slot e g.5;
}

-- the facts of a well-formed edge say it as well
pub sets_formed : (m : Model) (e : Edge) → WellFormedEdge m e → Sets m.vars e
sets_formed m e h = record { rest = h.sets_rest; ordered = h.order_ok }

-- 1 where a counter is set
abbrev is_set : Edge → ℕ → ℕ
is_set e i = cond (is_keep (update_at e i)) 0 1

one_le : (b : Bool) → cond b 0 1 ≤ 1
one_le true = omega arith
one_le false = omega arith

module _ (vars : ℕ) (e : Edge) (four : vars ≤ 4) (ok : Sets vars e) where
  listed_first : listed e ≡ sum_below (is_set e) vars
  listed_first = listed_is e ∙ sum_rest (is_set e) vars 4 four (λ i p l. ap (λ (u : Update). cond (is_keep u) 0 1) (ok.rest i p l))

  pub listed_vars : listed e ≤ vars
  listed_vars = omega (arith, listed_first, sum_below_lem (is_set e) vars 1 (λ i l. one_le (is_keep (update_at e i))))

  -- a used slot of the order names one of the first counters
  pub named_lt : (k : ℕ) → k < listed e → counter_in e.order k < vars
  named_lt k l = ⊎_elim (λ p. p)
      (λ p. absurd (T_not true (subst (λ (u : Update). T (not (is_keep u))) (ok.rest (counter_in e.order k) p (ok.ordered.slot_lt k l))
      (ok.ordered.slot_set k l)) tt)) (lt_or_le (counter_in e.order k) vars)

-- ---- two edges, the first of which sets only the first va counters, the second only the first vb
module _ (va vb : ℕ) (e f : Edge) (four : va + vb ≤ 4) (ok : Sets va e) (ok' : Sets vb f) where
  abbrev joined : List ℕ
  joined = joined_order va e f

  va_le : va ≤ 4
  va_le = omega arith

  vb_le : vb ≤ 4
  vb_le = omega arith

  pub listed_both : listed e + listed f ≤ 4
  listed_both = omega (arith, four, listed_vars va e va_le ok, listed_vars vb f vb_le ok')

  -- ---- slots of the joined order
  -- the first's counters, in its order
  pub slot_first_part : (k : ℕ) → k < listed e → counter_in joined k ≡ counter_in e.order k
  slot_first_part k l = joined_place_lem va e f k (omega (arith, listed_le e)) ∙ cond_T (ltb k (listed e)) (counter_in e.order k)
      (cond (ltb k (listed e + listed f)) (va + counter_in f.order (k - listed e)) 0) (lt→ltb k (listed e) l)

  -- then the second's, in its order
  pub slot_second_part : (k : ℕ) → k < listed f → counter_in joined (listed e + k) ≡ va + counter_in f.order k
  slot_second_part k l =
      let s : listed e + k - listed e ≡ k = omega arith in
      joined_place_lem va e f (listed e + k) (omega (arith, listed_both))
      ∙ cond_F (ltb (listed e + k) (listed e)) (counter_in e.order (listed e + k))
      (cond (ltb (listed e + k) (listed e + listed f)) (va + counter_in f.order (listed e + k - listed e)) 0)
      (not_lt (listed e + k) (listed e) (omega arith))
      ∙ cond_T (ltb (listed e + k) (listed e + listed f)) (va + counter_in f.order (listed e + k - listed e)) 0
      (lt→ltb (listed e + k) (listed e + listed f) (omega arith))
      ∙ ap (λ (j : ℕ). va + counter_in f.order j) s

  -- the others are 0
  pub slot_rest : (k : ℕ) → listed e + listed f ≤ k → k < 4 → counter_in joined k ≡ 0
  slot_rest k p l =
      joined_place_lem va e f k l
      ∙ cond_F (ltb k (listed e)) (counter_in e.order k) (cond (ltb k (listed e + listed f)) (va + counter_in f.order (k - listed e)) 0)
      (not_lt k (listed e) (omega arith))
      ∙ cond_F (ltb k (listed e + listed f)) (va + counter_in f.order (k - listed e)) 0 (not_lt k (listed e + listed f) p)

  -- ---- places in the joined order
  -- a counter that the first edge sets has the same place
  pub place_first : (x : ℕ) → place_in e.order x < listed e → place_in joined x ≡ place_in e.order x
  unfolding place_in
  place_first x l =
      let p = place_in e.order x in
      first_is (λ k. eqb (counter_in joined k) x) p 4 (omega (arith, listed_le e))
      ((eq_T (counter_in joined p) x).1 (slot_first_part p l ∙ place_at e.order x (omega (arith, listed_le e))))
      (λ j q. ap (λ (y : ℕ). eqb y x) (slot_first_part j (omega arith)) ∙ (place_law e.order x).least j q)

  -- one that it keeps has a later place than all that it sets
  pub place_first_kept : (x : ℕ) → x < va → listed e ≤ place_in e.order x → listed e ≤ place_in joined x
  place_first_kept x q l = ⊎_elim
      (λ p. let same = sym (slot_first_part (place_in joined x) p) ∙ place_at joined x (omega (arith, listed_le e)) in
      absurd (eqb-false (counter_in e.order (place_in joined x)) x ((place_law e.order x).least (place_in joined x) (omega arith)) same))
      (λ p. p) (lt_or_le (place_in joined x) (listed e))

  -- a counter of the second is at no place of the first
  apart : (j x : ℕ) → j < listed e → counter_in joined j ≡ va + x → ⊥
  apart j x l h = omega (arith, named_lt va e va_le ok j l, sym (slot_first_part j l) ∙ h)

  before_second : (x j : ℕ) → place_in f.order x < listed f → j < listed e + place_in f.order x → counter_in joined j ≡ va + x → ⊥
  before_second x j l q h = ⊎_elim (λ p. apart j x p h)
      (λ p. let i = j - listed e in
      let here : j ≡ listed e + i = omega arith in
      let less : i < place_in f.order x = omega arith in
      let slot = slot_second_part i (omega arith) in
      let same : counter_in f.order i ≡ x = omega (arith, slot, sym (ap (counter_in joined) here) ∙ h) in
      eqb-false (counter_in f.order i) x ((place_law f.order x).least i less) same)
      (lt_or_le j (listed e))

  -- a counter that the second edge sets stands after all that the first sets
  pub place_second : (x : ℕ) → place_in f.order x < listed f → place_in joined (va + x) ≡ listed e + place_in f.order x
  unfolding place_in
  place_second x l =
      let p = place_in f.order x in
      first_is (λ k. eqb (counter_in joined k) (va + x)) (listed e + p) 4 (omega (arith, listed_both))
      ((eq_T (counter_in joined (listed e + p)) (va + x)).1
      (slot_second_part p l ∙ ap (λ (y : ℕ). va + y) (place_at f.order x (omega (arith, listed_le f)))))
      (λ j q. ne_eqb (counter_in joined j) (va + x) (before_second x j l q))

  -- one that it keeps has a later place than all that are set
  pub place_second_kept : (x : ℕ) → listed f ≤ place_in f.order x → listed e + listed f ≤ place_in joined (va + x)
  place_second_kept x l = ⊎_elim
      (λ p. let at = place_at joined (va + x) (omega (arith, listed_both)) in
      ⊎_elim (λ q. absurd (apart (place_in joined (va + x)) x q at))
      (λ q. let i = place_in joined (va + x) - listed e in
      let here : place_in joined (va + x) ≡ listed e + i = omega arith in
      let slot = slot_second_part i (omega arith) in
      let same : counter_in f.order i ≡ x = omega (arith, slot, sym (ap (counter_in joined) here) ∙ at) in
      absurd (eqb-false (counter_in f.order i) x ((place_law f.order x).least i (omega arith)) same))
      (lt_or_le (place_in joined (va + x)) (listed e)))
      (λ p. p) (lt_or_le (place_in joined (va + x)) (listed e + listed f))

  -- ---- which counter is set earlier
  -- among the first's counters: as in its own order
  pub earlier_first : (w i : ℕ) → w < va → i < va → T (not (is_keep (update_at e i))) → set_earlier joined w i ≡ set_earlier e.order w i
  unfolding set_earlier
  earlier_first w i p q t =
      let l = set_place e ok.ordered i (omega arith) t in
      let here = place_first i l in
      ⊎_elim (λ k. λ j. ltb (place_first w k j) (here j))
      (λ k. le-ltb (place_in joined w) (place_in joined i) (omega (arith, here, place_first_kept w p k))
      ∙ sym (le-ltb (place_in e.order w) (place_in e.order i) (omega arith)))
      (lt_or_le (place_in e.order w) (listed e))

  -- among the second's counters: as in its own order
  pub earlier_second : (w i : ℕ) → w < vb → i < vb → T (not (is_keep (update_at f i))) → set_earlier joined (va + w) (va + i) ≡ set_earlier f.order w i
  unfolding set_earlier
  earlier_second w i p q t =
      let l = set_place f ok'.ordered i (omega arith) t in
      let here = place_second i l in
      ⊎_elim
      (λ k. ⊎_elim
      (λ less. lt-ltb (place_in joined (va + w)) (place_in joined (va + i)) (omega (arith, here, place_second w k))
      ∙ sym (lt-ltb (place_in f.order w) (place_in f.order i) less))
      (λ more. le-ltb (place_in joined (va + w)) (place_in joined (va + i)) (omega (arith, here, place_second w k))
      ∙ sym (le-ltb (place_in f.order w) (place_in f.order i) more))
      (lt_or_le (place_in f.order w) (place_in f.order i)))
      (λ k. le-ltb (place_in joined (va + w)) (place_in joined (va + i)) (omega (arith, here, place_second_kept w k))
      ∙ sym (le-ltb (place_in f.order w) (place_in f.order i) (omega arith)))
      (lt_or_le (place_in f.order w) (listed f))

  -- ---- how many updates are listed
  shifted_set : (u : Update) → ◌≡◌ {A = ℕ} (cond (is_keep (shifted_update va u)) 0 1) (cond (is_keep u) 0 1)
  shifted_set Keep = refl
  shifted_set (Constant c) = refl
  shifted_set (Sum w z) = refl

  module _ (c n label : ℕ) where
    abbrev both : Edge
    both = joined_edge c va n label e f

    -- no counter is set but the first's and the second's
    pub joined_keeps : (i : ℕ) → va + vb ≤ i → i < 4 → update_at both i ≡ Keep
    joined_keeps i p l =
        let j = i - va in
        let here : i ≡ va + j = omega arith in
        let past : va + j < 4 = omega arith in
        ap (update_at both) here ∙ update_second c va n label e f j past ∙ ap (shifted_update va) (ok'.rest j (omega arith) (omega arith))

    -- all that the two list
    pub listed_joined : listed both ≡ listed e + listed f
    listed_joined =
        let rest = sum_rest (is_set both) (va + vb) 4 four (λ i p l. ap (λ (u : Update). cond (is_keep u) 0 1) (joined_keeps i p l)) in
        let first = sum_same (is_set both) (is_set e) va
        (λ i l. ap (λ (u : Update). cond (is_keep u) 0 1) (update_first c va n label e f i (omega arith) l)) in
        let second = sum_same (λ i. is_set both (va + i)) (is_set f) vb
        (λ i l. ap (λ (u : Update). cond (is_keep u) 0 1) (update_second c va n label e f i (omega arith)) ∙ shifted_set (update_at f i)) in
        listed_is both ∙ rest ∙ sum_parts (is_set both) va vb
        ∙ (λ i. first i + second i) ∙ (λ i. sym (listed_first va e va_le ok) i + sym (listed_first vb f vb_le ok') i)

-- ---- atoms: slots filled from the first are those below their number
-- the test fails below c, and holds from there on
abbrev Filled : (ℕ → Bool) → ℕ → ℕ → Type 0
Filled p n c = (c ≤ n) × ((i : ℕ) → i < c → p i ≡ false) × ((i : ℕ) → c ≤ i → i < n → p i ≡ true)

filled_more : (p : ℕ → Bool) (n c : ℕ) → (n - 1 + 1 < suc n → T (p (n - 1)) → T (p (n - 1 + 1))) → Filled p n c → Filled p (suc n) (c + cond (p n) 0 1)
filled_more p n c h before = go (p n) refl
  where
    all : p n ≡ false → c ≡ n
    all f = ⊎_elim
        (λ l. let last : n - 1 + 1 ≡ n = omega arith in
        let less : n - 1 < n = omega arith in
        absurd (subst T f (subst (λ (k : ℕ). T (p k)) last (h (omega arith) ((T_true (p (n - 1))).1 (before.2 (n - 1) (omega arith) less))))))
        (λ l. omega (arith, before.0)) (lt_or_le c n)

    go : (b : Bool) → p n ≡ b → Filled p (suc n) (c + cond (p n) 0 1)
    go true q = let z : ◌≡◌ {A = ℕ} (cond (p n) 0 1) 0 = ap (λ (b : Bool). cond b 0 1) q in (
      omega (arith, before.0, z),
      λ i l. before.1 i (omega (arith, l, z)),
      λ i l m. below_cases i n m (λ r. ap p r ∙ q) (λ r. before.2 i (omega (arith, l, z)) r),
    )
    go false q = let z : ◌≡◌ {A = ℕ} (cond (p n) 0 1) 1 = ap (λ (b : Bool). cond b 0 1) q in let whole = all q in (
      omega (arith, whole, z),
      λ i l. below_cases i n (omega (arith, whole, z, l)) (λ r. ap p r ∙ q) (λ r. before.1 i (omega (arith, whole))),
      λ i l m. absurd (omega (arith, whole, z, l, m)),
    )

-- a test that never fails again once it holds fails below the number of its failures
filled_below : (p : ℕ → Bool) (n : ℕ) → ((k : ℕ) → k + 1 < n → T (p k) → T (p (k + 1))) → Filled p n (sum_below (λ k. cond (p k) 0 1) n)
unfolding sum_below
filled_below p zero h = (omega arith, λ i l. absurd (not-suc-le-zero l), λ i q l. absurd (not-suc-le-zero l))
filled_below p (suc n) h = filled_more p n (sum_below (λ k. cond (p k) 0 1) n) (h (n - 1)) (filled_below p n (λ k l. h k (omega arith)))

no_gap_lem : (p q : Bool) → T (cond p q true) → T p → T q
no_gap_lem true q h t = h
no_gap_lem false q h t = absurd t

no_gap_of : (p q : Bool) → (T p → T q) → T (cond p q true)
no_gap_of true q h = h tt
no_gap_of false q h = tt

pub blank_is : (x : Atom) → T (is_blank x) → x ≡ Blank
blank_is Blank h = refl
blank_is (OnClock x r c) h = absurd h
blank_is (OnCounter v r c) h = absurd h

pub filled_atoms : (clocks vars : ℕ) (atoms : List Atom) → T (atoms_formed clocks vars atoms) → T (filled_from_first atoms)
unfolding atoms_formed
filled_atoms clocks vars atoms h = ((and_T (each_formed clocks vars atoms) (filled_from_first atoms)).0 h).1

module _ (atoms : List Atom) (filled : T (filled_from_first atoms)) where
  counted : (atom_count atoms ≤ 4) × ((k : ℕ) → k < atom_count atoms → is_blank (atom_at atoms k) ≡ false)
      × ((k : ℕ) → atom_count atoms ≤ k → k < 4 → is_blank (atom_at atoms k) ≡ true)
  unfolding filled_from_first atom_count
  counted = filled_below (λ k. is_blank (atom_at atoms k)) 4
      (λ k l. no_gap_lem (is_blank (atom_at atoms k)) (is_blank (atom_at atoms (k + 1)))
      ((all_below_lem (λ k. no_gap (atom_at atoms k) (atom_at atoms (k + 1))) 3).0 filled k (omega arith)))

  pub count_le : atom_count atoms ≤ 4
  count_le = counted.0

  -- a slot below the number of atoms holds one
  pub atom_below : (k : ℕ) → k < atom_count atoms → is_blank (atom_at atoms k) ≡ false
  atom_below k l = counted.1 k l

  -- the others are blank
  pub blank_above : (k : ℕ) → atom_count atoms ≤ k → k < 4 → atom_at atoms k ≡ Blank
  blank_above k p l = blank_is (atom_at atoms k) ((T_true (is_blank (atom_at atoms k))).1 (counted.2 k p l))

-- ---- joined atoms are formed
and₃_of : (a b c : Bool) → T a → T b → T c → T (a && b && c)
and₃_of a b c p q r = (and_T (a && b) c).1 ((and_T a b).1 (p, q), r)

-- a shifted atom, where its clock or counter is declared after the shift
shifted_atom_formed : (ca va c v c' v' : ℕ) → ((x : ℕ) → x < c → ca + x < c') → ((x : ℕ) → x < v → va + x < v')
    → (x : Atom) → T (atom_formed c v x) → T (atom_formed c' v' (shifted_atom ca va x))
shifted_atom_formed ca va c v c' v' p q Blank h = tt
shifted_atom_formed ca va c v c' v' p q (OnClock x r k) h =
    let g = and₃ (ltb x c) (leb k 30) (not (is_not_equal r)) h in
    and₃_of (ltb (ca + x) c') (leb k 30) (not (is_not_equal r)) (lt→ltb (ca + x) c' (p x (ltb→lt x c g.0))) g.1 g.2
shifted_atom_formed ca va c v c' v' p q (OnCounter x r k) h =
    let g = (and_T (ltb x v) (leb k 31)).0 h in
    (and_T (ltb (va + x) v') (leb k 31)).1 (lt→ltb (va + x) v' (q x (ltb→lt x v g.0)), g.1)

pub shifted_blank : (c v : ℕ) (x : Atom) → is_blank (shifted_atom c v x) ≡ is_blank x
shifted_blank c v Blank = refl
shifted_blank c v (OnClock x r k) = refl
shifted_blank c v (OnCounter x r k) = refl

-- what holds of the first's atoms and of the second's shifted ones holds of the joined ones
pub joined_each : (P : Atom → Type 0) (c v : ℕ) (p q : List Atom) → ((k : ℕ) → k < 4 → P (atom_at p k))
    → ((k : ℕ) → k < 4 → P (shifted_atom c v (atom_at q k))) → (k : ℕ) → k < 4 → P (atom_at (joined_atoms c v p q) k)
joined_each P c v p q f g k l = ⊎_elim
    (λ m. subst P (sym (atom_first c v p q k l m)) (f k l))
    (λ m. let j = k - atom_count p in
    let here : k ≡ atom_count p + j = omega arith in
    subst P (sym (ap (atom_at (joined_atoms c v p q)) here ∙ atom_second c v p q j (omega arith))) (g j (omega arith)))
    (lt_or_le k (atom_count p))

joined_filled : (c v : ℕ) (p q : List Atom) → T (filled_from_first p) → T (filled_from_first q) → T (filled_from_first (joined_atoms c v p q))
unfolding filled_from_first
joined_filled c v p q f g = (all_below_lem (λ k. no_gap (atom_at both k) (atom_at both (k + 1))) 3).1
    (λ k l. no_gap_of (is_blank (atom_at both k)) (is_blank (atom_at both (k + 1))) (next k l))
  where
    both : List Atom
    both = joined_atoms c v p q

    next : (k : ℕ) → k < 3 → T (is_blank (atom_at both k)) → T (is_blank (atom_at both (k + 1)))
    next k l t = ⊎_elim
        (λ m. absurd (subst T (ap is_blank (atom_first c v p q k (omega arith) m) ∙ atom_below p f k m) t))
        (λ m. let j = k - atom_count p in
        let here : k ≡ atom_count p + j = omega arith in
        let after : k + 1 ≡ atom_count p + (j + 1) = omega arith in
        let same = ap (λ (i : ℕ). is_blank (atom_at both i)) here ∙ ap is_blank (atom_second c v p q j (omega arith)) ∙ shifted_blank c v (atom_at q j) in
        let past : atom_count q ≤ j = ⊎_elim (λ r. absurd (subst T (same ∙ atom_below q g j r) t)) (λ r. r) (lt_or_le j (atom_count q)) in
        let blank = ap (atom_at both) after ∙ atom_second c v p q (j + 1) (omega arith)
        ∙ ap (shifted_atom c v) (blank_above q g (j + 1) (omega arith) (omega arith)) in
        subst (λ (x : Atom). T (is_blank x)) (sym blank) tt)
        (lt_or_le k (atom_count p))

-- the first's clocks and counters stay, the second's are declared after the shift
pub joined_atoms_formed : (ca va c v c₁ v₁ c₂ v₂ : ℕ) (p q : List Atom) → c₁ ≤ c → v₁ ≤ v → ((x : ℕ) → x < c₂ → ca + x < c)
    → ((x : ℕ) → x < v₂ → va + x < v) → T (atoms_formed c₁ v₁ p) → T (atoms_formed c₂ v₂ q) → T (atoms_formed c v (joined_atoms ca va p q))
unfolding atoms_formed each_formed
joined_atoms_formed ca va c v c₁ v₁ c₂ v₂ p q l₁ l₂ m₁ m₂ f g =
    (and_T (each_formed c v (joined_atoms ca va p q)) (filled_from_first (joined_atoms ca va p q))).1 (
      (all_below_lem (λ k. atom_formed c v (atom_at (joined_atoms ca va p q) k)) 4).1
          (joined_each (λ x. T (atom_formed c v x)) ca va p q (λ k l. atom_wider c₁ v₁ c v l₁ l₂ (atom_at p k) (atoms_at c₁ v₁ p f k l))
          (λ k l. shifted_atom_formed ca va c₂ v₂ c v m₁ m₂ (atom_at q k) (atoms_at c₂ v₂ q g k l))),
      joined_filled ca va p q (filled_atoms c₁ v₁ p f) (filled_atoms c₂ v₂ q g),
    )

-- ---- joined updates, order and resets are formed
-- a slot that is declared, and one that is not
pub slot_of : (a b : ℕ) (x y : Bool) → (a < b → T x) → (b ≤ a → T y) → T (cond (ltb a b) x y)
slot_of a b x y f g = ⊎_elim
    (λ l. subst T (sym (cond_T (ltb a b) x y (lt→ltb a b l))) (f l))
    (λ l. subst T (sym (cond_F (ltb a b) x y (not_lt a b l))) (g l))
    (lt_or_le a b)

shifted_update_formed : (va vb : ℕ) (u : Update) → T (update_formed vb u) → T (update_formed (va + vb) (shifted_update va u))
shifted_update_formed va vb Keep h = tt
shifted_update_formed va vb (Constant c) h = h
shifted_update_formed va vb (Sum w z) h =
    let g = (and_T (ltb w vb) (leb (nat_abs z) 31)).0 h in
    (and_T (ltb (va + w) (va + vb)) (leb (nat_abs z) 31)).1 (lt→ltb (va + w) (va + vb) (omega (arith, ltb→lt w vb g.0)), g.1)

pub shifted_keep : (v : ℕ) (u : Update) → is_keep (shifted_update v u) ≡ is_keep u
shifted_keep v Keep = refl
shifted_keep v (Constant c) = refl
shifted_keep v (Sum w z) = refl

shifted_reset_formed : (ca cb : ℕ) (u : ClockUpdate) → T (clock_update_formed cb u) → T (clock_update_formed (ca + cb) (shifted_reset ca u))
shifted_reset_formed ca cb Unchanged h = tt
shifted_reset_formed ca cb Reset h = tt
shifted_reset_formed ca cb (Copy w) h = lt→ltb (ca + w) (ca + cb) (omega (arith, ltb→lt w cb h))

shifted_unchanged : (c : ℕ) (u : ClockUpdate) → is_unchanged (shifted_reset c u) ≡ is_unchanged u
shifted_unchanged c Unchanged = refl
shifted_unchanged c Reset = refl
shifted_unchanged c (Copy w) = refl

-- two formed edges, of models with so many locations, clocks and counters
module _ (la ca va lb cb vb : ℕ) (e f : Edge) (clocks_fit : ca + cb ≤ 4) (vars_fit : va + vb ≤ 4)
    (e-ok : T (edge_formed la ca va e)) (f-ok : T (edge_formed lb cb vb f)) (label : ℕ) where
  abbrev joint : Edge
  joint = joined_edge ca va lb label e f

  e_sets : Sets va e
  e_sets = sets_of la ca va e e-ok

  f_sets : Sets vb f
  f_sets = sets_of lb cb vb f f-ok

  -- ---- updates
  update_first_formed : (i : ℕ) → i < va → T (update_formed (va + vb) (update_at joint i))
  update_first_formed i l =
      subst (λ (u : Update). T (update_formed (va + vb) u)) (sym (update_first ca va lb label e f i (omega arith) l))
      (update_wider va (va + vb) (omega arith) (update_at e i)
      (yes i va (update_formed va (update_at e i)) (is_keep (update_at e i)) ((edge_parts la ca va e e-ok).4 i (omega arith)) l))

  update_second_formed : (i : ℕ) → i < vb → T (update_formed (va + vb) (update_at joint (va + i)))
  update_second_formed i l =
      subst (λ (u : Update). T (update_formed (va + vb) u)) (sym (update_second ca va lb label e f i (omega arith)))
      (shifted_update_formed va vb (update_at f i)
      (yes i vb (update_formed vb (update_at f i)) (is_keep (update_at f i)) ((edge_parts lb cb vb f f-ok).4 i (omega arith)) l))

  update_slot : (i : ℕ) → i < 4 → T (update_slot_formed (va + vb) (update_at joint i) i)
  update_slot i l = slot_of i (va + vb) (update_formed (va + vb) (update_at joint i)) (is_keep (update_at joint i))
      (λ p. ⊎_elim (update_first_formed i)
      (λ q. let here : va + (i - va) ≡ i = omega arith in
      subst (λ (j : ℕ). T (update_formed (va + vb) (update_at joint j))) here (update_second_formed (i - va) (omega arith)))
      (lt_or_le i va))
      (λ p. subst (λ (u : Update). T (is_keep u)) (sym (joined_keeps va vb e f vars_fit e_sets f_sets ca lb label i p l)) tt)

  pub joined_updates_formed : T (updates_formed (va + vb) joint.updates)
  unfolding updates_formed
  joined_updates_formed = (all_below_lem (λ i. update_slot_formed (va + vb) (update_at joint i) i) 4).1 update_slot

  -- ---- the order
  abbrev slots : List ℕ
  slots = joined_order va e f

  -- slot k names a counter that is set, for the first time
  abbrev Named : ℕ → Type 0
  Named k = (counter_in slots k < 4) × T (not (is_keep (update_at joint (counter_in slots k)))) × (place_in slots (counter_in slots k) ≡ k)

  first_named : (k : ℕ) → k < listed e → Named k
  first_named k l =
      let x = counter_in e.order k in
      let is = slot_first_part va vb e f vars_fit e_sets f_sets k l in
      let small = named_lt va e (omega arith) e_sets k l in
      let own = e_sets.ordered.slot_first k l in (
        omega (arith, is, small),
        subst (λ (y : ℕ). T (not (is_keep (update_at joint y)))) (sym is)
            (subst (λ (u : Update). T (not (is_keep u))) (sym (update_first ca va lb label e f x (omega arith) small)) (e_sets.ordered.slot_set k l)),
        ap (place_in slots) is ∙ place_first va vb e f vars_fit e_sets f_sets x (omega arith) ∙ own,
      )

  second_named : (k : ℕ) → k < listed f → Named (listed e + k)
  second_named k l =
      let x = counter_in f.order k in
      let is = slot_second_part va vb e f vars_fit e_sets f_sets k l in
      let small = named_lt vb f (omega arith) f_sets k l in
      let own = f_sets.ordered.slot_first k l in (
        omega (arith, is, small),
        subst (λ (y : ℕ). T (not (is_keep (update_at joint y)))) (sym is)
            (subst (λ (t : Bool). T (not t)) (sym (ap is_keep (update_second ca va lb label e f x (omega arith)) ∙ shifted_keep va (update_at f x)))
            (f_sets.ordered.slot_set k l)),
        ap (place_in slots) is ∙ place_second va vb e f vars_fit e_sets f_sets x (omega arith) ∙ ap (λ (j : ℕ). listed e + j) own,
      )

  named : (k : ℕ) → k < listed e + listed f → Named k
  named k l = ⊎_elim (first_named k)
      (λ q. let here : listed e + (k - listed e) ≡ k = omega arith in subst Named here (second_named (k - listed e) (omega arith)))
      (lt_or_le k (listed e))

  joint_listed : listed joint ≡ listed e + listed f
  joint_listed = listed_joined va vb e f vars_fit e_sets f_sets ca lb label

  order_formed_slot : (k : ℕ) → k < 4
      → T (cond (ltb k (listed joint))
      (ltb (counter_in slots k) 4 && not (is_keep (update_at joint (counter_in slots k))) && eqb (place_in slots (counter_in slots k)) k)
      (eqb (counter_in slots k) 0))
  order_formed_slot k l =
      let x = counter_in slots k in
      slot_of k (listed joint) (ltb x 4 && not (is_keep (update_at joint x)) && eqb (place_in slots x) k) (eqb x 0)
      (λ p. let h = named k (omega (arith, joint_listed)) in
      and₃_of (ltb x 4) (not (is_keep (update_at joint x))) (eqb (place_in slots x) k) (lt→ltb x 4 h.0) h.1 ((eq_T (place_in slots x) k).1 h.2))
      (λ p. (eq_T x 0).1 (slot_rest va vb e f vars_fit e_sets f_sets k (omega (arith, joint_listed)) l))

  pub joined_order_formed : T (order_formed joint)
  unfolding order_formed
  joined_order_formed = (all_below_lem (order_slot_formed joint) 4).1 (λ k l.
      subst (λ (o : List ℕ). T (cond (ltb k (listed joint)) (ltb (counter_in o k) 4 && not (is_keep (update_at joint (counter_in o k)))
      && eqb (place_in o (counter_in o k)) k) (eqb (counter_in o k) 0))) (sym (joined_order_lem ca va lb label e f)) (order_formed_slot k l))

  -- ---- resets
  reset_first_formed : (i : ℕ) → i < ca → T (clock_update_formed (ca + cb) (reset_at joint i))
  reset_first_formed i l =
      subst (λ (u : ClockUpdate). T (clock_update_formed (ca + cb) u)) (sym (reset_first ca va lb label e f i (omega arith) l))
      (reset_wider ca (ca + cb) (omega arith) (reset_at e i)
      (yes i ca (clock_update_formed ca (reset_at e i)) (is_unchanged (reset_at e i)) ((edge_parts la ca va e e-ok).6 i (omega arith)) l))

  reset_second_formed : (i : ℕ) → i < cb → T (clock_update_formed (ca + cb) (reset_at joint (ca + i)))
  reset_second_formed i l =
      subst (λ (u : ClockUpdate). T (clock_update_formed (ca + cb) u)) (sym (reset_second ca va lb label e f i (omega arith)))
      (shifted_reset_formed ca cb (reset_at f i)
      (yes i cb (clock_update_formed cb (reset_at f i)) (is_unchanged (reset_at f i)) ((edge_parts lb cb vb f f-ok).6 i (omega arith)) l))

  reset_rest : (i : ℕ) → cb ≤ i → ca + i < 4 → T (is_unchanged (reset_at joint (ca + i)))
  reset_rest i p l =
      subst T (sym (ap is_unchanged (reset_second ca va lb label e f i l) ∙ shifted_unchanged ca (reset_at f i)))
      (no i cb (clock_update_formed cb (reset_at f i)) (is_unchanged (reset_at f i)) ((edge_parts lb cb vb f f-ok).6 i (omega arith)) p)

  reset_slot : (i : ℕ) → i < 4 → T (reset_slot_formed (ca + cb) (reset_at joint i) i)
  reset_slot i l = slot_of i (ca + cb) (clock_update_formed (ca + cb) (reset_at joint i)) (is_unchanged (reset_at joint i))
      (λ p. ⊎_elim (reset_first_formed i)
      (λ q. let here : ca + (i - ca) ≡ i = omega arith in
      subst (λ (j : ℕ). T (clock_update_formed (ca + cb) (reset_at joint j))) here (reset_second_formed (i - ca) (omega arith)))
      (lt_or_le i ca))
      (λ p. let here : ca + (i - ca) ≡ i = omega arith in
      subst (λ (j : ℕ). T (is_unchanged (reset_at joint j))) here (reset_rest (i - ca) (omega arith) (omega arith)))

  pub joined_resets_formed : T (resets_formed (ca + cb) joint.resets)
  unfolding resets_formed
  joined_resets_formed = (all_below_lem (λ i. reset_slot_formed (ca + cb) (reset_at joint i) i) 4).1 reset_slot

  -- ---- the whole edge
  pub joined_guard_formed : T (atoms_formed (ca + cb) (va + vb) joint.guard)
  joined_guard_formed = subst (λ (p : List Atom). T (atoms_formed (ca + cb) (va + vb) p)) (sym (joined_guard ca va lb label e f))
      (joined_atoms_formed ca va (ca + cb) (va + vb) ca va cb vb e.guard f.guard (omega arith) (omega arith) (λ x l. omega arith) (λ x l. omega arith)
      (edge_parts la ca va e e-ok).3 (edge_parts lb cb vb f f-ok).3)

  source_lt : joint.source < la * lb
  source_lt = omega (
    arith,
    joined_source ca va lb label e f,
    pair_lt la lb e.source f.source (edge_parts la ca va e e-ok).0 (edge_parts lb cb vb f f-ok).0,
  )

  target_lt : joint.target < la * lb
  target_lt = omega (
    arith,
    joined_target ca va lb label e f,
    pair_lt la lb e.target f.target (edge_parts la ca va e e-ok).1 (edge_parts lb cb vb f f-ok).1,
  )

  pub joined_edge_formed : label ≤ 15 → T (edge_formed (la * lb) (ca + cb) (va + vb) joint)
  unfolding edge_formed
  joined_edge_formed l =
      and₇_of (ltb joint.source (la * lb)) (ltb joint.target (la * lb)) (leb joint.label 15) (atoms_formed (ca + cb) (va + vb) joint.guard)
      (updates_formed (va + vb) joint.updates) (order_formed joint) (resets_formed (ca + cb) joint.resets)
      (lt→ltb joint.source (la * lb) source_lt) (lt→ltb joint.target (la * lb) target_lt)
      (le→leb joint.label 15 (omega (arith, joined_label ca va lb label e f)))
      joined_guard_formed joined_updates_formed joined_order_formed joined_resets_formed

-- ---- standing still is a formed edge
pub blank_atom_at : (k : ℕ) → k < 4 → atom_at (replicate 4 blank_atom) k ≡ Blank
blank_atom_at k l = (get_or-replicate 4 k blank_atom blank_atom l)

pub blank_count : atom_count (replicate 4 blank_atom) ≡ 0
unfolding atom_count
blank_count = sum_same (λ k. cond (is_blank (atom_at (replicate 4 blank_atom) k)) 0 1) (λ _. 0) 4
    (λ k l. ap (λ (x : Atom). cond (is_blank x) 0 1) (blank_atom_at k l)) ∙ sum_const 4 0

pub blank_formed : (c v : ℕ) → T (atoms_formed c v (replicate 4 blank_atom))
unfolding atoms_formed each_formed filled_from_first
blank_formed c v = (and_T (each_formed c v (replicate 4 blank_atom)) (filled_from_first (replicate 4 blank_atom))).1 (
  (all_below_lem (λ k. atom_formed c v (atom_at (replicate 4 blank_atom) k)) 4).1
      (λ k l. subst (λ (x : Atom). T (atom_formed c v x)) (sym (blank_atom_at k l)) tt),
  (all_below_lem (λ k. no_gap (atom_at (replicate 4 blank_atom) k) (atom_at (replicate 4 blank_atom) (k + 1))) 3).1
      (λ k l. no_gap_of (is_blank (atom_at (replicate 4 blank_atom) k)) (is_blank (atom_at (replicate 4 blank_atom) (k + 1)))
      (λ t. subst (λ (x : Atom). T (is_blank x)) (sym (blank_atom_at (k + 1) (omega arith))) tt)),
)

module _ (l : ℕ) where
  pub standing_guard : (standing l).guard ≡ replicate 4 blank_atom
  unfolding standing
  standing_guard = refl

  pub standing_count : atom_count (standing l).guard ≡ 0
  standing_count = ap atom_count standing_guard ∙ blank_count

  pub standing_keeps : (i : ℕ) → i < 4 → update_at (standing l) i ≡ Keep
  unfolding standing
  standing_keeps i p = (get_or-replicate 4 i blank_update blank_update p)

  pub standing_stays : (i : ℕ) → i < 4 → reset_at (standing l) i ≡ Unchanged
  unfolding standing
  standing_stays i p = (get_or-replicate 4 i blank_reset blank_reset p)

  standing_order : (k : ℕ) → k < 4 → counter_in (standing l).order k ≡ 0
  unfolding standing
  standing_order k p = get_or-replicate 4 k 0 0 p

  -- no update is listed
  pub standing_listed : listed (standing l) ≡ 0
  standing_listed = listed_is (standing l)
      ∙ sum_same (is_set (standing l)) (λ _. 0) 4 (λ i p. ap (λ (u : Update). cond (is_keep u) 0 1) (standing_keeps i p)) ∙ sum_const 4 0

  standing_order_formed : T (order_formed (standing l))
  unfolding order_formed
  standing_order_formed = (all_below_lem (order_slot_formed (standing l)) 4).1 (λ k p.
      let x = counter_in (standing l).order k in
      slot_of k (listed (standing l)) (ltb x 4 && not (is_keep (update_at (standing l) x)) && eqb (place_in (standing l).order x) k) (eqb x 0)
      (λ q. absurd (omega (arith, standing_listed, q))) (λ q. (eq_T x 0).1 (standing_order k p)))

  -- from the location to itself
  pub standing_ends : ((standing l).source ≡ l) × ((standing l).target ≡ l) × ((standing l).label ≡ 0)
  unfolding standing
  standing_ends = (refl, refl, refl)

  pub standing_formed : (n c v : ℕ) → l < n → T (edge_formed n c v (standing l))
  unfolding edge_formed updates_formed resets_formed
  standing_formed n c v p =
      let e = standing l in
      let ends = standing_ends in
      and₇_of (ltb e.source n) (ltb e.target n) (leb e.label 15) (atoms_formed c v e.guard) (updates_formed v e.updates) (order_formed e)
      (resets_formed c e.resets) (lt→ltb e.source n (omega (arith, ends.0))) (lt→ltb e.target n (omega (arith, ends.1)))
      (le→leb e.label 15 (omega (arith, ends.2)))
      (subst (λ (s : List Atom). T (atoms_formed c v s)) (sym standing_guard) (blank_formed c v))
      ((all_below_lem (λ i. update_slot_formed v (update_at e i) i) 4).1 (λ i q. slot_of i v (update_formed v (update_at e i)) (is_keep (update_at e i))
      (λ _. subst (λ (u : Update). T (update_formed v u)) (sym (standing_keeps i q)) tt)
      (λ _. subst (λ (u : Update). T (is_keep u)) (sym (standing_keeps i q)) tt)))
      standing_order_formed
      ((all_below_lem (λ i. reset_slot_formed c (reset_at e i) i) 4).1 (λ i q. slot_of i c (clock_update_formed c (reset_at e i)) (is_unchanged (reset_at e i))
      (λ _. subst (λ (u : ClockUpdate). T (clock_update_formed c u)) (sym (standing_stays i q)) tt)
      (λ _. subst (λ (u : ClockUpdate). T (is_unchanged u)) (sym (standing_stays i q)) tt)))
