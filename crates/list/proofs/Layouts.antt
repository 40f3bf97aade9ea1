-- Layouts: what demands 2 and 3 ask of one. And bytes, for any layout: where a list holds a piece, the bytes of a state block and of a run.
use mathlib.Core.Path.{◌≡◌, refl, sym, ap, subst, ◌∙◌}
use mathlib.Core.Logic.{◌↔◌}
use mathlib.Core.Bool.{Bool}
use mathlib.Core.List.{List, [], ◌∷◌, ◌++◌, flat_map, append_cancel_left}
use Rattle.std.specs.Prelude.{Some}
use Prim.Native.Nat.{ℕ, zero, suc, ◌+◌, ◌*◌, ◌≤◌, ◌<◌}
use native.Mathlib.Nat.{not-suc-le-zero, add-zero, mul-le-mul_right}
use native.Mathlib.Omega.{arith}
use lib.Dec.{T}
use lib.ListN.{length, take, drop, length-append, drop_of_length-le, take-append-drop}
use lib.Seq.{take-add, drop-drop, take-take, take-append_seam, drop-append_seam}
use Rattle.model.specs.declared.Model.{Model}
use Rattle.model.specs.declared.State.{State}
use Rattle.model.specs.Indexed.{each, sum_below}
use Rattle.model.specs.Automaton.{Component, loc, counter, clock, ceiling, choices, value, Declared, group_size, step}
use Rattle.model.specs.Run.{walk}
use Rattle.model.proofs.IndexedLaws.{sum_const, sum_mono, each_zero, each_suc, length_each, below_cases}
use Rattle.model.proofs.FormLaws.{WellFormed}
use Rattle.model.proofs.StepLaws.{Shaped, InRange, shaped_step, range_step, step_lt}
use Rattle.model.proofs.RunLaws.{walk_nil, walk_cons}
use Rattle.list.specs.Lists.{All}
use Rattle.list.specs.Items.{Member, Item, offset, next_block, state_width, choice_width}
use Rattle.list.specs.Clauses.{Clause}
use Rattle.list.specs.Assignments.{Binary, satisfied, state_bytes, steps_bytes}
use Rattle.list.proofs.Meaning.{Shows, Holds}
use Rattle.list.proofs.Blocks.{ShowsState}
use Rattle.list.proofs.Unfolding.{ShowsWalk}

-- the list a holds the piece p from place b on
abbrev pub At : List ℕ → ℕ → List ℕ → Type 0
At a b p = take (length p) (drop b a) ≡ p

pub at_app : (a : List ℕ) (b : ℕ) (p q : List ℕ) → At a b (p ++ q) ↔ (At a b p × At a (b + length p) q)
at_app a b p q = (λ h. (to₀ h, to₁ h), λ h. of h.0 h.1)
  where
    cut : take (length (p ++ q)) (drop b a) ≡ take (length p) (drop b a) ++ take (length q) (drop (b + length p) a)
    cut = rw (length-append, take-add, drop-drop)

    to₀ : At a b (p ++ q) → At a b p
    to₀ h = sym (take-take (length p) (length (p ++ q)) (drop b a) (rw length-append (omega arith))) ∙ ap (take (length p)) h ∙ take-append_seam p q

    to₁ : At a b (p ++ q) → At a (b + length p) q
    to₁ h = append_cancel_left p (take (length q) (drop (b + length p) a)) q
        (ap (λ (x : List ℕ). x ++ take (length q) (drop (b + length p) a)) (sym (to₀ h)) ∙ sym cut ∙ h)

    of : At a b p → At a (b + length p) q → At a b (p ++ q)
    of h k = rw (cut, h, k)

pub at_drop : (a : List ℕ) (b : ℕ) (p : List ℕ) (n : ℕ) → length p ≡ n → At a b p → drop b a ≡ p ++ drop (b + n) a
at_drop a b p n l h = sym (take-append-drop (length p) (drop b a)) ∙ rw (h, drop-drop, l)

pub drop_holds : (a : List ℕ) (b : ℕ) (p q : List ℕ) (n : ℕ) → length p ≡ n → drop b a ≡ p ++ q → At a b p × (drop (b + n) a ≡ q)
drop_holds a b p q n l h = (rw (h, take-append_seam), sym (drop-drop n b a) ∙ rw (h, ← l, drop-append_seam))

module _ (len : ℕ → ℕ) where
  pub at_each : (a : List ℕ) (b n : ℕ) (f : ℕ → List ℕ) → ((i : ℕ) → length (f i) ≡ len i) → At a b (each n f)
      ↔ ((i : ℕ) → i < n → At a (b + sum_below len i) (f i))
  at_each a b zero f h = (λ k i p. absurd (not-suc-le-zero p), λ k. rw (each_zero f) refl)
  at_each a b (suc n) f h = (
    (λ k i p.
        let g = (at_app a b (each n f) (f n)).0 (subst (At a b) (each_suc n f) k) in
        below_cases i n p (λ e. rw (e, ← length_each len n f h) g.1) (λ l. (at_each a b n f h).0 g.0 i l)),
    λ k. subst (At a b) (sym (each_suc n f)) ((at_app a b (each n f) (f n)).1
        ((at_each a b n f h).1 (λ i p. k i (omega arith)), rw (length_each len n f h) (k n (omega arith)))),
  )

-- A layout. Data: how many variables a group has, the bytes of a group that shows d, the truth of a member, the place of the true member, and the
-- clauses of an item. Laws: the bytes of a group say that it shows d exactly if they are d's, and the clauses are true exactly if the items hold.
pub record Layout : Type 1 where
  pub width : ℕ → ℕ
  pub bytes : ℕ → ℕ → List ℕ
  pub truth : List ℕ → Member → Bool
  pub place : List ℕ → ℕ → ℕ → ℕ
  pub expand : Item → List Clause
  pub bytes_length : (n d : ℕ) → length (bytes n d) ≡ width n
  pub bytes_binary : (n d : ℕ) → Binary (bytes n d)
  pub shows_at : (a : List ℕ) (b n d : ℕ) → Binary a → b + width n ≤ length a → Shows (truth a) b n d → At a b (bytes n d)
  pub at_shows : (a : List ℕ) (b n d : ℕ) → d < n → At a b (bytes n d) → Shows (truth a) b n d
  pub place_is : (a : List ℕ) (b n d : ℕ) → Shows (truth a) b n d → place a b n ≡ d
  pub satisfied_iff : (a : List ℕ) (l : List Item) → T (satisfied a (flat_map expand l)) ↔ All (Holds (truth a)) l

module _ (Y : Layout) (m : Model) where
  abbrev component_bytes : State → Component → List ℕ
  component_bytes s x = Y.bytes (group_size m x) (value s x)

  counters_length : (s : State) → length (each m.vars (λ i. component_bytes s (counter i))) ≡ sum_below (λ i. Y.width (group_size m (counter i))) m.vars
  counters_length s = length_each (λ i. Y.width (group_size m (counter i))) m.vars (λ i. component_bytes s (counter i))
      (λ i. Y.bytes_length (group_size m (counter i)) (value s (counter i)))

  location_length : (s : State) → length (component_bytes s loc) ≡ Y.width m.locations
  location_length s = Y.bytes_length m.locations (value s loc)

  clocks_length : (s : State) → length (each m.clocks (λ i. component_bytes s (clock i))) ≡ m.clocks * Y.width (ceiling m + 1)
  clocks_length s =
      length_each (λ i. Y.width (ceiling m + 1)) m.clocks (λ i. component_bytes s (clock i)) (λ i. Y.bytes_length (ceiling m + 1) (value s (clock i))) ∙
      sum_const m.clocks (Y.width (ceiling m + 1))

  pub state_length : (s : State) → length (state_bytes Y.bytes m s) ≡ state_width Y.width m
  unfolding state_bytes
  state_length s = simp length-append (omega (arith, location_length s, counters_length s, clocks_length s))

  pub at_components : (a : List ℕ) (o : ℕ) (s : State) → At a o (state_bytes Y.bytes m s)
      ↔ ((x : Component) → Declared m x → At a (o + offset Y.width m x) (component_bytes s x))
  unfolding state_bytes
  at_components a o s = (λ h. to h, of)
    where
      nv : ℕ
      nv = m.vars

      L : List ℕ
      L = component_bytes s loc

      W : List ℕ
      W = each nv (λ i. component_bytes s (counter i))

      C : List ℕ
      C = each m.clocks (λ i. component_bytes s (clock i))

      at_w : At a (o + length L) W ↔ ((i : ℕ) → i < nv → At a (o + length L + sum_below (λ i. Y.width (group_size m (counter i))) i)
          (component_bytes s (counter i)))
      at_w = at_each (λ i. Y.width (group_size m (counter i))) a (o + length L) nv (λ i. component_bytes s (counter i))
          (λ i. Y.bytes_length (group_size m (counter i)) (value s (counter i)))

      at_c : At a (o + length (L ++ W)) C
          ↔ ((i : ℕ) → i < m.clocks → At a (o + length (L ++ W) + sum_below (λ i. Y.width (ceiling m + 1)) i) (component_bytes s (clock i)))
      at_c = at_each (λ i. Y.width (ceiling m + 1)) a (o + length (L ++ W)) m.clocks (λ i. component_bytes s (clock i))
          (λ i. Y.bytes_length (ceiling m + 1) (value s (clock i)))

      place_w : (i : ℕ) → o + length L + sum_below (λ i. Y.width (group_size m (counter i))) i ≡ o + offset Y.width m (counter i)
      place_w i = omega (arith, location_length s)

      place_c : (i : ℕ) → o + length (L ++ W) + sum_below (λ i. Y.width (ceiling m + 1)) i ≡ o + offset Y.width m (clock i)
      place_c i = omega (arith, location_length s, counters_length s, length-append L W, sum_const i (Y.width (ceiling m + 1)))

      to : At a o (state_bytes Y.bytes m s) → (x : Component) → Declared m x → At a (o + offset Y.width m x) (component_bytes s x)
      to h loc p = rw add-zero ((at_app a o L W).0 ((at_app a o (L ++ W) C).0 h).0).0
      to h (counter i) p = rw (← place_w i) (at_w.0 ((at_app a o L W).0 ((at_app a o (L ++ W) C).0 h).0).1 i p)
      to h (clock i) p = rw (← place_c i) (at_c.0 ((at_app a o (L ++ W) C).0 h).1 i p)

      of : ((x : Component) → Declared m x → At a (o + offset Y.width m x) (component_bytes s x)) → At a o (state_bytes Y.bytes m s)
      of h = (at_app a o (L ++ W) C).1 (
        (at_app a o L W).1 (rw add-zero at (h loc tt), at_w.1 (λ i p. rw (place_w i) (h (counter i) p))),
        at_c.1
            (λ i p. rw (place_c i) (h (clock i) p)),
      )

pub bytes_step : (Y : Layout) (m : Model) (s t : State) (b : ℕ) (r : List ℕ) → step m s b ≡ Some t
    → steps_bytes Y.bytes m s (b ∷ r) ≡ Y.bytes (choices m) b ++ (state_bytes Y.bytes m t ++ steps_bytes Y.bytes m t r)
unfolding steps_bytes
bytes_step Y m s t b r h = rw h

module _ (Y : Layout) (m : Model) where
  pub offset_le : (x : Component) → Declared m x → offset Y.width m x + Y.width (group_size m x) ≤ state_width Y.width m
  offset_le loc p = omega arith
  offset_le (counter i) p = omega (arith, sum_mono (λ j. Y.width (group_size m (counter j))) i m.vars p)
  offset_le (clock i) p = omega (arith, mul-le-mul_right (Y.width (ceiling m + 1)) p)

  module _ (a : List ℕ) where
    -- a block shows a state exactly if it holds the state's bytes
    pub bytes_show : {o : ℕ} {s : State} → Shaped m s → InRange m s → At a o (state_bytes Y.bytes m s) → ShowsState Y.width m (Y.truth a) o s
    bytes_show {o} {s} p q h = record {
      shape = p;
      shown = λ x k. Y.at_shows a (o + offset Y.width m x) (group_size m x) (value s x) (q x k)
          ((at_components Y m a o s).0 h x k);
    }

    pub show_bytes : {o : ℕ} {s : State} → Binary a → o + state_width Y.width m ≤ length a → ShowsState Y.width m (Y.truth a) o s
        → At a o (state_bytes Y.bytes m s)
    show_bytes {o} {s} p q h = (at_components Y m a o s).1 (λ x k. Y.shows_at a (o + offset Y.width m x) (group_size m x) (value s x) p
        (omega (arith, offset_le x k)) (h.shown x k))

    -- the blocks that show a walk hold its bytes
    pub walk_bytes : (ok : WellFormed m) (r : List ℕ) (o : ℕ) (s e : State) → Binary a
        → length a ≡ o + state_width Y.width m + length r * (state_width Y.width m + choice_width Y.width m)
        → ShowsWalk Y.width m (Y.truth a) ok o s r e → drop (o + state_width Y.width m) a ≡ steps_bytes Y.bytes m s r
    unfolding steps_bytes
    walk_bytes ok [] o s e p l t = drop_of_length-le a {i = o + state_width Y.width m} (omega arith)
    walk_bytes ok (b ∷ r) o s e p l t =
        let S : ℕ = state_width Y.width m in
        let H : ℕ = choice_width Y.width m in
        at_drop a (o + S) (Y.bytes (choices m) b) H (Y.bytes_length (choices m) b) (Y.shows_at a (o + S) (choices m) b p (omega arith) t.2) ∙
        rw (
          at_drop a (o + S + H) (state_bytes Y.bytes m t.0) S (state_length Y m t.0) (show_bytes p (omega arith) t.3),
          walk_bytes ok r (next_block Y.width m o) t.0 e p (omega arith) t.4,
          bytes_step Y m s t.0 b r t.1,
        )

    pub bytes_walk : (ok : WellFormed m) (r : List ℕ) (o : ℕ) (s e : State) → Shaped m s → InRange m s
        → drop o a ≡ state_bytes Y.bytes m s ++ steps_bytes Y.bytes m s r → walk m s r ≡ Some e
        → ShowsState Y.width m (Y.truth a) o s × ShowsWalk Y.width m (Y.truth a) ok o s r e
    bytes_walk ok [] o s e p q h k = (
      bytes_show p q (drop_holds a o (state_bytes Y.bytes m s) _ (state_width Y.width m)
          (state_length Y m s) h).0,
      (walk_nil m s e).0 k,
    )
    bytes_walk ok (b ∷ r) o s e p q h k =
        let S : ℕ = state_width Y.width m in
        let H : ℕ = choice_width Y.width m in
        let x = (walk_cons m s e b r).0 k in
        let t = x.0 in
        let d = drop_holds a o (state_bytes Y.bytes m s) (steps_bytes Y.bytes m s (b ∷ r)) S (state_length Y m s) h in
        let f = drop_holds a (o + S) (Y.bytes (choices m) b) (state_bytes Y.bytes m t ++ steps_bytes Y.bytes m t r) H
        (Y.bytes_length (choices m) b) (d.1 ∙ bytes_step Y m s t b r x.1) in
        let y = bytes_walk ok r (o + S + H) t e (shaped_step m ok s t b p x.1) (range_step m ok s t b p x.1 q) f.1 x.2 in
        (bytes_show p q d.0, (t, x.1, Y.at_shows a (o + S) (choices m) b (step_lt m s t b x.1) f.0, y.0, y.1))
