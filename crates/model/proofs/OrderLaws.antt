-- Updates in their listed order: each counter has one place, and the values after them are those that fit together.
use mathlib.Core.Path.{◌≡◌, refl, sym, ap, subst, ◌∙◌}
use mathlib.Core.Logic.{◌≢◌, ◌⊎◌, inl, inr, ⊎_elim}
use mathlib.Core.Bool.{Bool, true, false, not, cond}
use mathlib.Core.List.{List, [], ◌∷◌, foldl, foldl-append}
use Rattle.std.specs.Prelude.{Option, None, Some, option_map}
use Prim.Native.Nat.{ℕ, zero, suc, ◌+◌, ◌≤◌, ◌<◌}
use native.Mathlib.Nat.{not-suc-le-zero}
use native.Mathlib.Omega.{arith}
use lib.Dec.{T, ltb, eqb, lt→ltb, not_T, T_not}
use lib.ListN.{length, get_or, set, length-set}
use lib.Seq.{ext_get_or, get_or-set_same, get_or-set_other}
use Rattle.model.specs.declared.Update.{Update}
use Rattle.model.specs.declared.Update.TheVariants.{Keep, Constant, Sum}
use Rattle.model.specs.declared.Counter.{Counter}
use Rattle.model.specs.declared.Edge.{Edge}
use Rattle.model.specs.Indexed.{list_below, sum_below, and_then}
use Rattle.model.specs.Record.{blank_counter, update_at, counter_in}
use Rattle.model.specs.Automaton.{is_keep, new_counter, shifted, listed, next_counter, applied, updated, place_in}
use Rattle.model.proofs.IndexedLaws.{eq_T, split, lt_or_le, cond_T, cond_F, not_lt, some_inj, some_none, then_iff, below_cases, sum_below_lem, sum_same}
use Rattle.model.proofs.IndexedLaws.{sum_const, sum_add, one_if, one_if_lem, zero_if, sum_one, sum_equal, First, first_law}

-- ---- places
pub place_law : (order : List ℕ) (x : ℕ) → First (λ k. eqb (counter_in order k) x) 4 (place_in order x)
unfolding place_in
place_law order x = first_law (λ k. eqb (counter_in order k) x) 4

-- what stands at the place of x is x
pub place_at : (order : List ℕ) (x : ℕ) → place_in order x < 4 → counter_in order (place_in order x) ≡ x
place_at order x l = (eq_T (counter_in order (place_in order x)) x).0 ((place_law order x).holds l)

-- 1 where a counter is set
abbrev is_set : Edge → ℕ → ℕ
is_set e i = cond (is_keep (update_at e i)) 0 1

is_set_lem : (b : Bool) → T (not b) → ◌≡◌ {A = ℕ} (cond b 0 1) 1
is_set_lem b t = cond_F b 0 1 t

one_le : (b : Bool) → cond b 0 1 ≤ 1
one_le true = omega arith
one_le false = omega arith

pub listed_is : (e : Edge) → listed e ≡ sum_below (is_set e) 4
unfolding listed
listed_is e = refl

pub listed_le : (e : Edge) → listed e ≤ 4
listed_le e = omega (arith, listed_is e, sum_below_lem (is_set e) 4 1 (λ i l. one_le (is_keep (update_at e i))))

-- the slots of an order that are used name counters that are set, each for the first time
pub record Ordered (e : Edge) : Type 0 where
  pub slot_lt : (k : ℕ) → k < listed e → counter_in e.order k < 4
  pub slot_set : (k : ℕ) → k < listed e → T (not (is_keep (update_at e (counter_in e.order k))))
  pub slot_first : (k : ℕ) → k < listed e → place_in e.order (counter_in e.order k) ≡ k

-- ---- new values
new_same : (f g : ℕ → ℕ) (greatest own : ℕ) (u : Update) → ((w : ℕ) → f w ≡ g w) → new_counter f greatest own u ≡ new_counter g greatest own u
new_same f g greatest own Keep h = refl
new_same f g greatest own (Constant c) h = refl
new_same f g greatest own (Sum w z) h = ap (shifted z greatest) (h w)

map_iff : (x : Option ℕ) (f : ℕ → List ℕ) (l : List ℕ) → option_map f x ≡ Some l → (y : ℕ) × (x ≡ Some y) × (f y ≡ l)
map_iff None f l h = absurd (some_none h)
map_iff (Some y) f l h = (y, refl, some_inj h)

-- ---- the order of an edge
module _ (e : Edge) (ok : Ordered e) where
  abbrev slot : ℕ → ℕ
  slot k = counter_in e.order k

  abbrev place : ℕ → ℕ
  place x = place_in e.order x

  -- 1 if x is among the first k of the order
  abbrev among : ℕ → ℕ → ℕ
  among k x = one_if (ltb (place x) k)

  among_more : (k x : ℕ) → k < listed e → among (suc k) x ≡ among k x + one_if (eqb x (slot k))
  among_more k x l = ⊎_elim
      (λ p. omega (
        arith,
        one_if_lem (ltb (place x) k) (lt→ltb (place x) k p),
        one_if_lem (ltb (place x) (suc k)) (lt→ltb (place x) (suc k) (omega arith)),
        elsewhere (λ z. omega (arith, z)),
      ))
      (λ p. let None = zero_if (ltb (place x) k) (not_lt (place x) k p) in ⊎_elim
      (λ q. let here : place x ≡ k = omega arith in
      omega (
        arith,
        None,
        one_if_lem (ltb (place x) (suc k)) (lt→ltb (place x) (suc k) q),
        one_if_lem (eqb x (slot k)) ((eq_T x (slot k)).1 (sym (place_at e.order x (omega (arith, listed_le e))) ∙ ap slot here)),
      ))
      (λ q. omega (arith, None, zero_if (ltb (place x) (suc k)) (not_lt (place x) (suc k) q), elsewhere (λ z. omega (arith, z))))
      (lt_or_le (place x) (suc k)))
      (lt_or_le (place x) k)
    where
      elsewhere : (place x ≡ k → ⊥) → one_if (eqb x (slot k)) ≡ 0
      elsewhere h = zero_if (eqb x (slot k)) (not_T (eqb x (slot k)) (λ t. h (ap place ((eq_T x (slot k)).0 t) ∙ ok.slot_first k l)))

  -- the first k of the order are k counters
  among_sum : (k : ℕ) → k ≤ listed e → sum_below (among k) 4 ≡ k
  among_sum zero l = sum_same (among 0) (λ _. 0) 4 (λ i p. zero_if (ltb (place i) 0) (not_lt (place i) 0 (omega arith))) ∙ sum_const 4 0
  among_sum (suc k) l =
      let here : ℕ → ℕ = λ i. one_if (eqb i (slot k)) in
      omega (
        arith,
        sum_same (among (suc k)) (λ i. among k i + here i) 4 (λ i p. among_more k i (omega arith)),
        sum_add (among k) here 4,
        among_sum k (omega arith),
        sum_one (slot k) 4,
        one_if_lem (ltb (slot k) 4) (lt→ltb (slot k) 4 (ok.slot_lt k (omega arith))),
      )

  -- a counter with a place is set
  place_set : (i : ℕ) → place i < listed e → T (not (is_keep (update_at e i)))
  place_set i l = subst (λ (x : ℕ). T (not (is_keep (update_at e x)))) (place_at e.order i (omega (arith, listed_le e))) (ok.slot_set (place i) l)

  among_set : (i : ℕ) → among (listed e) i ≤ is_set e i
  among_set i = ⊎_elim
      (λ l. omega (arith, is_set_lem (is_keep (update_at e i)) (place_set i l), one_if_lem (ltb (place i) (listed e)) (lt→ltb (place i) (listed e) l)))
      (λ l. omega (arith, zero_if (ltb (place i) (listed e)) (not_lt (place i) (listed e) l)))
      (lt_or_le (place i) (listed e))

  -- a counter that is set has a place
  pub set_place : (i : ℕ) → i < 4 → T (not (is_keep (update_at e i))) → place i < listed e
  set_place i l t =
      let whole : sum_below (is_set e) 4 ≤ sum_below (among (listed e)) 4 = omega (arith, listed_is e, among_sum (listed e) (omega arith)) in
      let same = sum_equal (among (listed e)) (is_set e) 4 (λ i l. among_set i) whole i l in
      ⊎_elim (λ p. p)
      (λ p. absurd (omega (arith, same, is_set_lem (is_keep (update_at e i)) t, zero_if (ltb (place i) (listed e)) (not_lt (place i) (listed e) p))))
      (lt_or_le (place i) (listed e))

  -- a counter that is kept has none
  pub kept_place : (i : ℕ) → T (is_keep (update_at e i)) → listed e ≤ place i
  kept_place i t = ⊎_elim (λ l. absurd (T_not (is_keep (update_at e i)) (place_set i l) t)) (λ l. l) (lt_or_le (place i) (listed e))

  -- ---- the values after the updates
  module _ (counters : List Counter) where
    abbrev greatest : ℕ → ℕ
    greatest i = (get_or counters i blank_counter).greatest

    -- what the k-th update reads of counter w, where the counters show vs before and new after all updates
    abbrev pub read_at_place : ℕ → List ℕ → List ℕ → ℕ → ℕ
    read_at_place k vs new w = cond (ltb (place w) k) (get_or new w 0) (get_or vs w 0)

    -- the first n listed updates lead from vs to new, counter by counter
    pub record Updates (n : ℕ) (vs new : List ℕ) : Type 0 where
      pub long : length new ≡ length vs
      pub kept : (i : ℕ) → n ≤ place i → get_or new i 0 ≡ get_or vs i 0
      pub sets : (k : ℕ) → k < n
          → new_counter (read_at_place k vs new) (greatest (slot k)) (get_or vs (slot k) 0) (update_at e (slot k)) ≡ Some (get_or new (slot k) 0)

    -- the counter at place n stands at no other place
    apart : (n i : ℕ) → n < listed e → place i ≢ n → i ≢ slot n
    apart n i l h q = h (ap place q ∙ ok.slot_first n l)

    read_same : (k n : ℕ) (vs new : List ℕ) (y w : ℕ) → k ≤ n → n < listed e → read_at_place k vs (set new (slot n) y) w ≡ read_at_place k vs new w
    read_same k n vs new y w p l = ⊎_elim
        (λ q. let t = lt→ltb (place w) k q in
        cond_T (ltb (place w) k) (get_or (set new (slot n) y) w 0) (get_or vs w 0) t ∙ get_or-set_other new (slot n) w y 0 (apart n w l (λ z. omega (arith, z)))
        ∙ sym (cond_T (ltb (place w) k) (get_or new w 0) (get_or vs w 0) t))
        (λ q. let f = not_lt (place w) k q in
        cond_F (ltb (place w) k) (get_or (set new (slot n) y) w 0) (get_or vs w 0) f ∙ sym (cond_F (ltb (place w) k) (get_or new w 0) (get_or vs w 0) f))
        (lt_or_le (place w) k)

    -- the update at place n reads what those before it left
    read_left : (n : ℕ) (vs now : List ℕ) → Updates n vs now → (w : ℕ) → read_at_place n vs now w ≡ get_or now w 0
    read_left n vs now h w = ⊎_elim
        (λ q. cond_T (ltb (place w) n) (get_or now w 0) (get_or vs w 0) (lt→ltb (place w) n q))
        (λ q. cond_F (ltb (place w) n) (get_or now w 0) (get_or vs w 0) (not_lt (place w) n q) ∙ sym (h.kept w q))
        (lt_or_le (place w) n)

    updates_more : (n : ℕ) (vs now : List ℕ) (y : ℕ) → n < listed e → length vs ≡ 4 → Updates n vs now → next_counter counters e now (slot n) ≡ Some y
        → Updates (suc n) vs (set now (slot n) y)
    updates_more n vs now y l four h t = record {
      long = length-set now (slot n) y ∙ h.long;
      kept = λ i p. get_or-set_other now (slot n) i y 0 (apart n i l (λ z. omega (arith, z))) ∙ h.kept i (omega arith);
      sets = λ k p. below_cases k n p last earlier;
    }
      where
        last : {k : ℕ} → k ≡ n
            → new_counter (read_at_place k vs (set now (slot n) y)) (greatest (slot k)) (get_or vs (slot k) 0) (update_at e (slot k))
            ≡ Some (get_or (set now (slot n) y) (slot k) 0)
        last q = rw q (
            new_same (read_at_place n vs (set now (slot n) y)) (λ w. get_or now w 0) (greatest (slot n)) (get_or vs (slot n) 0) (update_at e (slot n))
            (λ w. read_same n n vs now y w (omega arith) l ∙ read_left n vs now h w) ∙
            ap (λ (own : ℕ). new_counter (λ w. get_or now w 0) (greatest (slot n)) own (update_at e (slot n)))
            (sym (h.kept (slot n) (omega (arith, ok.slot_first n l)))) ∙
            t ∙ ap Some (sym (get_or-set_same now (slot n) y 0 (omega (arith, ok.slot_lt n l, h.long)))))

        earlier : {k : ℕ} → k < n
            → new_counter (read_at_place k vs (set now (slot n) y)) (greatest (slot k)) (get_or vs (slot k) 0) (update_at e (slot k))
            ≡ Some (get_or (set now (slot n) y) (slot k) 0)
        earlier {k} p =
            new_same (read_at_place k vs (set now (slot n) y)) (read_at_place k vs now) (greatest (slot k)) (get_or vs (slot k) 0) (update_at e (slot k))
            (λ w. read_same k n vs now y w (omega arith) l) ∙
            h.sets k p ∙ ap Some (sym (get_or-set_other now (slot n) (slot k) y 0 (apart n (slot k) l (λ z. omega (arith, z, ok.slot_first k (omega arith))))))

    pub updated_to : (n : ℕ) (vs new : List ℕ) → n ≤ listed e → length vs ≡ 4 → updated counters e vs n ≡ Some new → Updates n vs new
    unfolding updated applied
    updated_to zero vs new l four h =
        record {
          long = ap length (sym (some_inj h));
          kept = λ i p. ap (λ (v : List ℕ). get_or v i 0) (sym (some_inj h));
          sets = λ k p. absurd (not-suc-le-zero p);
        }
    updated_to (suc n) vs new l four h =
        let now = (then_iff (updated counters e vs n) (λ now. applied counters e now (slot n)) new).0 h in
        let y = map_iff (next_counter counters e now.0 (slot n)) (set now.0 (slot n)) new now.2 in
        subst (Updates (suc n) vs) y.2 (updates_more n vs now.0 y.0 (omega arith) four (updated_to n vs now.0 (omega arith) four now.1) y.1)

    pub updated_of : (n : ℕ) (vs new : List ℕ) → n ≤ listed e → length vs ≡ 4 → Updates n vs new → updated counters e vs n ≡ Some new
    unfolding updated applied
    updated_of zero vs new l four h = ap Some (ext_get_or 0 vs new (sym h.long) (λ i p. sym (h.kept i (omega arith))))
    updated_of (suc n) vs new l four h =
        (then_iff (updated counters e vs n) (λ now. applied counters e now (slot n)) new).1
        (before, updated_of n vs before (omega arith) four back, ap (option_map (set before (slot n))) next ∙ ap Some again)
      where
        -- the counters before the last update
        before : List ℕ
        before = set new (slot n) (get_or vs (slot n) 0)

        own : get_or before (slot n) 0 ≡ get_or vs (slot n) 0
        own = get_or-set_same new (slot n) (get_or vs (slot n) 0) 0 (omega (arith, ok.slot_lt n l, h.long))

        back : Updates n vs before
        back = record {
          long = length-set new (slot n) (get_or vs (slot n) 0) ∙ h.long;
          kept = λ i p. ⊎_elim
              (λ q. get_or-set_other new (slot n) i (get_or vs (slot n) 0) 0 (apart n i l (λ z. omega (arith, z))) ∙ h.kept i q)
              (λ q. let here : i ≡ slot n = sym (place_at e.order i (omega (arith, listed_le e))) ∙ ap slot q in rw here own)
              (after i p);
          sets = λ k p.
              new_same (read_at_place k vs before) (read_at_place k vs new) (greatest (slot k)) (get_or vs (slot k) 0) (update_at e (slot k))
              (λ w. read_same k n vs new (get_or vs (slot n) 0) w (omega arith) l) ∙
              h.sets k (omega arith)
              ∙ ap Some (sym (get_or-set_other new (slot n) (slot k) (get_or vs (slot n) 0) 0
              (apart n (slot k) l (λ z. omega (arith, z, ok.slot_first k (omega arith))))));
        }
          where
            after : (i : ℕ) → n ≤ place i → (suc n ≤ place i) ⊎ (place i ≡ n)
            after i p = ⊎_elim (λ q. inl q) (λ q. inr (omega arith)) (lt_or_le n (place i))

        next : next_counter counters e before (slot n) ≡ Some (get_or new (slot n) 0)
        next =
            ap (λ (own : ℕ). new_counter (λ w. get_or before w 0) (greatest (slot n)) own (update_at e (slot n))) own ∙
            sym (new_same (read_at_place n vs new) (λ w. get_or before w 0) (greatest (slot n)) (get_or vs (slot n) 0) (update_at e (slot n))
            (λ w. sym (read_same n n vs new (get_or vs (slot n) 0) w (omega arith) l) ∙ read_left n vs before back w)) ∙
            h.sets n (omega arith)

        again : set before (slot n) (get_or new (slot n) 0) ≡ new
        again = ext_get_or 0 (set before (slot n) (get_or new (slot n) 0)) new
            (length-set before (slot n) (get_or new (slot n) 0) ∙ length-set new (slot n) (get_or vs (slot n) 0)) (λ i p. one i (split (eqb i (slot n))))
          where
            one : (i : ℕ) → T (eqb i (slot n)) ⊎ T (not (eqb i (slot n))) → get_or (set before (slot n) (get_or new (slot n) 0)) i 0 ≡ get_or new i 0
            one i (inl t) = let q = (eq_T i (slot n)).0 t in
                rw q (get_or-set_same before (slot n) (get_or new (slot n) 0) 0
                (omega (arith, ok.slot_lt n l, h.long, length-set new (slot n) (get_or vs (slot n) 0))))
            one i (inr f) = let q : i ≢ slot n = λ z. T_not (eqb i (slot n)) f ((eq_T i (slot n)).1 z) in
                get_or-set_other before (slot n) i (get_or new (slot n) 0) 0 q ∙ get_or-set_other new (slot n) i (get_or vs (slot n) 0) 0 q

-- ---- the written list
-- the counters that an edge sets, in the order in which its updates are listed
abbrev pub written : Edge → List ℕ
written e = list_below (counter_in e.order) (listed e)

-- one update on counters that may have left their ranges
abbrev pub then_update : List Counter → Edge → Option (List ℕ) → ℕ → Option (List ℕ)
then_update counters e vs i = and_then vs (λ now. applied counters e now i)

fold_below : (counters : List Counter) (e : Edge) (vs : List ℕ) (n : ℕ)
    → updated counters e vs n ≡ foldl (then_update counters e) (Some vs) (list_below (counter_in e.order) n)
unfolding updated list_below
fold_below counters e vs zero = refl
fold_below counters e vs (suc n) =
    ap (λ (x : Option (List ℕ)). then_update counters e x (counter_in e.order n)) (fold_below counters e vs n)
    ∙ sym (foldl-append (then_update counters e) (Some vs) (list_below (counter_in e.order) n) (counter_in e.order n ∷ []))

-- the counters after the listed updates are the fold of the single updates over the written list
pub updated_fold : (counters : List Counter) (e : Edge) (vs : List ℕ) → updated counters e vs (listed e) ≡ foldl (then_update counters e) (Some vs) (written e)
updated_fold counters e vs = fold_below counters e vs (listed e)
