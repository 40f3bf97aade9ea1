-- Demands 2 and 3 for any layout.
use mathlib.Core.Path.{◌≡◌, refl, sym, ap, subst, ◌∙◌}
use mathlib.Core.Logic.{◌↔◌}
use mathlib.Core.List.{List, [], ◌∷◌, ◌++◌, flat_map, append_assoc}
use Rattle.std.specs.Prelude.{Option, None, Some}
use Prim.Native.Nat.{ℕ, zero, suc, ◌+◌, ◌*◌, ◌<◌}
use native.Mathlib.Nat.{zero-add}
use native.Mathlib.Omega.{arith}
use lib.Dec.{T}
use lib.ListN.{length, take, drop, replicate, length-append, take-append-drop, length-replicate}
use lib.Seq.{take_at, length-take-le}
use Rattle.model.specs.declared.Model.{Model}
use Rattle.model.specs.declared.State.{State}
use Rattle.model.specs.Indexed.{each, maybe}
use Rattle.model.specs.Automaton.{choices, value, group_size, step, initial_state}
use Rattle.model.specs.Run.{walk, is_run}
use Rattle.model.proofs.FormLaws.{WellFormed}
use Rattle.model.proofs.StepLaws.{shaped_initial, range_initial}
use Rattle.model.proofs.RunLaws.{walk_nil, walk_cons, walk_app, walk_cut, walk_keeps, rest_walk, Run, run_iff}
use Rattle.list.specs.Items.{Item, next_block, state_width, choice_width, block_at, start_items, step_items, end_items, body_items, items}
use Rattle.list.specs.Clauses.{Clause}
use Rattle.list.specs.Assignments.{Binary, satisfied, state_bytes, steps_bytes}
use Rattle.list.proofs.ListLaws.{all_app, flat_app, each_add}
use Rattle.list.proofs.Blocks.{ShowsState, over_components_lem}
use Rattle.list.proofs.Unfolding.{ShowsWalk, ShowsRun, items_to, items_of, shows_walk}
use Rattle.list.proofs.Layouts.{Layout, at_drop, state_length, show_bytes, walk_bytes, bytes_walk, bytes_step}

binary_app : (a b : List ℕ) → Binary a → Binary b → Binary (a ++ b)
binary_app a b p q = (all_app (λ x. x < 2) a b).1 (p, q)

module _ (Y : Layout) (m : Model) where
  -- the list, the number of variables, the assignment of a run and the run of an assignment
  abbrev pub list_for : ℕ → List Clause
  list_for k = flat_map Y.expand (items Y.width m k)

  abbrev pub width_for : ℕ → ℕ
  width_for k = state_width Y.width m + k * (state_width Y.width m + choice_width Y.width m)

  abbrev pub encoded : List ℕ → List ℕ
  encoded r = state_bytes Y.bytes m (initial_state m) ++ steps_bytes Y.bytes m (initial_state m) r

  unfoldable pub decoded_from : List ℕ → ℕ → ℕ → List ℕ
  decoded_from a o zero = []
  decoded_from a o (suc k) = Y.place a (o + state_width Y.width m) (choices m) ∷ decoded_from a (next_block Y.width m o) k

  abbrev pub decoded : ℕ → List ℕ → List ℕ
  decoded k a = decoded_from a 0 k

  -- ---- the assignment of a run: its bytes and its length
  state_binary : (s : State) → Binary (state_bytes Y.bytes m s)
  unfolding state_bytes
  state_binary s = (over_components_lem m (λ x. x < 2) (λ x. Y.bytes (group_size m x) (value s x))).1 (λ x p. Y.bytes_binary (group_size m x) (value s x))

  steps_binary : (r : List ℕ) (s : State) → Binary (steps_bytes Y.bytes m s r)
  unfolding steps_bytes
  steps_binary [] s = tt
  steps_binary (b ∷ r) s = go (step m s b) (λ t. steps_binary r t)
    where
      go : (o : Option State) → ((t : State) → Binary (steps_bytes Y.bytes m t r))
          → Binary (maybe o [] (λ t. Y.bytes (choices m) b ++ (state_bytes Y.bytes m t ++ steps_bytes Y.bytes m t r)))
      go None f = tt
      go (Some t) f = binary_app (Y.bytes (choices m) b) _ (Y.bytes_binary (choices m) b) (binary_app (state_bytes Y.bytes m t) _ (state_binary t) (f t))

  pub encoded_binary : (r : List ℕ) → Binary (encoded r)
  encoded_binary r = binary_app (state_bytes Y.bytes m (initial_state m)) _ (state_binary (initial_state m)) (steps_binary r (initial_state m))

  steps_length : (r : List ℕ) (s e : State) → walk m s r ≡ Some e
      → length (steps_bytes Y.bytes m s r) ≡ length r * (state_width Y.width m + choice_width Y.width m)
  unfolding steps_bytes
  steps_length [] s e h = omega arith
  steps_length (b ∷ r) s e h =
      let x = (walk_cons m s e b r).0 h in
      rw (
        bytes_step Y m s x.0 b r x.1,
        length-append,
        length-append,
        Y.bytes_length (choices m) b,
        state_length Y m x.0,
        steps_length r
            x.0 e x.2,
      ) (omega arith)

  pub encoded_length : (r : List ℕ) (e : State) → walk m (initial_state m) r ≡ Some e → length (encoded r) ≡ width_for (length r)
  encoded_length r e h = rw (length-append, state_length Y m (initial_state m), steps_length r (initial_state m) e h)

  module _ (ok : WellFormed m) where
    -- ---- demand 2
    pub decoded_walk : (a r : List ℕ) (o : ℕ) (s e : State) → ShowsWalk Y.width m (Y.truth a) ok o s r e → decoded_from a o (length r) ≡ r
    unfolding decoded_from
    decoded_walk a [] o s e t = refl
    decoded_walk a (b ∷ r) o s e t = rw (
      Y.place_is a (o + state_width Y.width m) (choices m) b t.2,
      decoded_walk a r (next_block Y.width m o)
          t.0 e t.4,
    )

    -- the blocks of the encoding of a walk show it
    pub encoding_shows : (r : List ℕ) (e : State) → walk m (initial_state m) r ≡ Some e
        → ShowsState Y.width m (Y.truth (encoded r)) 0 (initial_state m) × ShowsWalk Y.width m (Y.truth (encoded r)) ok 0 (initial_state m) r e
    encoding_shows r e h = bytes_walk Y m (encoded r) ok r 0 (initial_state m) e (shaped_initial m ok) (range_initial m ok) refl h

    pub decoded_encoded : (r : List ℕ) (e : State) → walk m (initial_state m) r ≡ Some e → decoded (length r) (encoded r) ≡ r
    decoded_encoded r e h = decoded_walk (encoded r) r 0 (initial_state m) e (encoding_shows r e h).1

    shows_run : (k : ℕ) (a r : List ℕ) (e : State) → Binary a → length a ≡ width_for k → ShowsRun Y.width m (Y.truth a) ok k r e
        → (length (decoded k a) ≡ k) × T (is_run m (decoded k a)) × (a ≡ encoded (decoded k a))
    shows_run k a r e p l g =
        let q : decoded k a ≡ r = rw (← g.long) (decoded_walk a r 0 (initial_state m) e g.walks) in
        rw q (
          g.long,
          (run_iff m r).1 (
            e,
            record {
              allowed = g.allowed;
              walks = shows_walk Y.width m (Y.truth a) ok r 0 (initial_state m) e
                  g.walks;
              arrives = g.arrives;
            },
          ),
          at_drop a 0 (state_bytes Y.bytes m (initial_state m)) (state_width Y.width m) (state_length Y m (initial_state m))
              (show_bytes Y m a p (omega arith) g.starts) ∙
              ap (λ (x : List ℕ). state_bytes Y.bytes m (initial_state m) ++ x)
              (walk_bytes Y m a ok r 0 (initial_state m) e p (rw (g.long, zero-add) l) g.walks),
        )

    -- one way: a satisfying assignment is the encoding of the run that it decodes to
    pub satisfying_decodes : (k : ℕ) (a : List ℕ) → Binary a → length a ≡ width_for k → T (satisfied a (list_for k))
        → (length (decoded k a) ≡ k) × T (is_run m (decoded k a)) × (a ≡ encoded (decoded k a))
    satisfying_decodes k a p l h = let x = items_to Y.width m (Y.truth a) ok k ((Y.satisfied_iff a (items Y.width m k)).0 h) in shows_run k a
        x.0 x.1 p l x.2

    -- the other way: the encoding of a run satisfies the list
    pub run_satisfies : (r : List ℕ) → T (is_run m r) → T (satisfied (encoded r) (list_for (length r)))
    run_satisfies r h =
        let x = (run_iff m r).0 h in
        let t = encoding_shows r x.0 x.1.walks in
        (Y.satisfied_iff (encoded r) (items Y.width m (length r))).1
        (items_of Y.width m (Y.truth (encoded r)) ok (length r) r x.0
        (record { long = refl; starts = t.0; allowed = x.1.allowed; walks = t.1; arrives = x.1.arrives }))

-- ---- demand 3
regroup : (a b c d : List ℕ) → a ++ (b ++ (c ++ d)) ≡ a ++ (b ++ c) ++ d
regroup a b c d = simp append_assoc

steps_bytes_app : (Y : Layout) (m : Model) (r q : List ℕ) (s e : State) → walk m s r ≡ Some e
    → steps_bytes Y.bytes m s (r ++ q) ≡ steps_bytes Y.bytes m s r ++ steps_bytes Y.bytes m e q
unfolding steps_bytes
steps_bytes_app Y m [] q s e h = ap (λ (x : State). steps_bytes Y.bytes m x q) ((walk_nil m s e).0 h)
steps_bytes_app Y m (b ∷ r) q s e h =
    let x = (walk_cons m s e b r).0 h in
    let t = x.0 in
    bytes_step Y m s t b (r ++ q) x.1 ∙ ap (λ (l : List ℕ). Y.bytes (choices m) b ++ (state_bytes Y.bytes m t ++ l))
    (steps_bytes_app Y m r q t e x.2) ∙
    regroup (Y.bytes (choices m) b) (state_bytes Y.bytes m t) (steps_bytes Y.bytes m t r) (steps_bytes Y.bytes m e q) ∙
    ap (λ (l : List ℕ). l ++ steps_bytes Y.bytes m e q) (sym (bytes_step Y m s t b r x.1))

module _ (Y : Layout) (m : Model) where
  -- the list for k is the body, start and steps, and then the end
  abbrev pub body_for : ℕ → List Clause
  body_for k = flat_map Y.expand (body_items Y.width m k)

  pub list_is : (k : ℕ) → list_for Y m k ≡ body_for k ++ flat_map Y.expand (end_items Y.width m k)
  unfolding items
  list_is k = flat_app Y.expand (body_items Y.width m k) (end_items Y.width m k)

  -- the body for a longer bound begins with the body for a shorter one
  pub body_longer : (j p : ℕ) → (l : List Clause) × (body_for (j + p) ≡ body_for j ++ l)
  unfolding body_items
  body_longer j p =
      let S : List Item = start_items Y.width m in
      let f : ℕ → List Item = λ t. step_items Y.width m (block_at Y.width m t) in
      let g : ℕ → List Item = λ t. step_items Y.width m (block_at Y.width m (j + t)) in (
        flat_map Y.expand (each p g),
        ap (λ (l : List Item). flat_map Y.expand (S ++ l)) (each_add j p f) ∙ ap (flat_map Y.expand)
            (sym (append_assoc S (each j f) (each p g))) ∙ flat_app Y.expand (S ++ each j f) (each p g),
      )

module _ (Y : Layout) (m : Model) (ok : WellFormed m) where
  -- the encoding of a walk that goes on begins with its encoding
  pub encoded_app : (r q : List ℕ) (e : State) → walk m (initial_state m) r ≡ Some e → encoded Y m (r ++ q) ≡ encoded Y m r ++ steps_bytes Y.bytes m e q
  encoded_app r q e h = rw (steps_bytes_app Y m r q (initial_state m) e h, append_assoc)

  pub encoded_cut : (r q : List ℕ) (e : State) → walk m (initial_state m) r ≡ Some e → take (width_for Y m (length r)) (encoded Y m (r ++ q)) ≡ encoded Y m r
  encoded_cut r q e h = rw (encoded_app r q e h) (take_at (encoded Y m r) (steps_bytes Y.bytes m e q) (width_for Y m (length r)) (encoded_length Y m r e h))

  -- an assignment that satisfies the list for j goes on to one that satisfies the list for j + p: its run goes on by p delays of 0
  pub goes_on : (j p : ℕ) (a : List ℕ) → Binary a → length a ≡ width_for Y m j → T (satisfied a (list_for Y m j))
      → (b : List ℕ) × Binary b × (length b ≡ width_for Y m (j + p)) × (take (width_for Y m j) b ≡ a) × T (satisfied b (list_for Y m (j + p)))
  goes_on j p a c l h =
      let x = satisfying_decodes Y m ok j a c l h in
      let y = (run_iff m (decoded Y m j a)).0 x.1 in
      go (decoded Y m j a) y.0 x.0 y.1 x.2
    where
      go : (r : List ℕ) (e : State) → length r ≡ j → Run m r e → a ≡ encoded Y m r
          → (b : List ℕ) × Binary b × (length b ≡ width_for Y m (j + p)) × (take (width_for Y m j) b ≡ a) × T (satisfied b (list_for Y m (j + p)))
      go r e n g q =
          let k = walk_keeps m ok r (initial_state m) e g.walks (shaped_initial m ok) (range_initial m ok) g.allowed in
          let z : List ℕ = r ++ replicate p 0 in
          let wz : walk m (initial_state m) z ≡ Some e = walk_app m r (replicate p 0) (initial_state m) e g.walks ∙ rest_walk m ok p e k.0 k.1 k.2 in
          let lz : length z ≡ j + p = length-append r (replicate p 0) ∙ rw (n, length-replicate) in (
            encoded Y m z,
            encoded_binary Y m z,
            rw (← lz) (encoded_length Y m z e wz),
            rw (q, ← n) (encoded_cut r (replicate p 0) e g.walks),
            rw (← lz) (run_satisfies Y m ok z ((run_iff m z).1 (e, record { allowed = g.allowed; walks = wz; arrives = g.arrives }))),
          )

  -- the encoding of a walk satisfies the list exactly if the walk is a run
  pub walk_satisfies : (r : List ℕ) (d : State) → walk m (initial_state m) r ≡ Some d → T (satisfied (encoded Y m r) (list_for Y m (length r))) ↔ T (is_run m r)
  walk_satisfies r d h = (
    (λ t. rw (decoded_encoded Y m ok r d h) at (satisfying_decodes Y m ok (length r) (encoded Y m r) (encoded_binary Y m r)
        (encoded_length Y m r d h) t).1),
    run_satisfies Y m ok r,
  )

  -- cut after step j's state, a satisfying assignment is the encoding of the first j bytes of its run, which are a walk
  pub cut_is : (j p : ℕ) (a : List ℕ) → Binary a → length a ≡ width_for Y m (j + p) → T (satisfied a (list_for Y m (j + p)))
      → (d : State) × (length (take j (decoded Y m (j + p) a)) ≡ j) × (walk m (initial_state m) (take j (decoded Y m (j + p) a)) ≡ Some d) × (take
      (width_for Y m j) a ≡ encoded Y m (take j (decoded Y m (j + p) a)))
  cut_is j p a c l h =
      let x = satisfying_decodes Y m ok (j + p) a c l h in
      let y = (run_iff m (decoded Y m (j + p) a)).0 x.1 in
      go (decoded Y m (j + p) a) y.0 x.0 y.1 x.2
    where
      go : (r : List ℕ) (e : State) → length r ≡ j + p → Run m r e → a ≡ encoded Y m r
          → (d : State) × (length (take j r) ≡ j) × (walk m (initial_state m) (take j r) ≡ Some d) × (take (width_for Y m j) a ≡ encoded Y m (take j r))
      go r e n g q =
          let s : take j r ++ drop j r ≡ r = take-append-drop j r in
          let lj : length (take j r) ≡ j = length-take-le j r (omega arith) in
          let d = walk_cut m (take j r) (drop j r) (initial_state m) e (rw s g.walks) in (
            d.0,
            lj,
            d.1,
            subst (λ (i : ℕ). take (width_for Y m i) a ≡ encoded Y m (take j r)) lj
                (rw q (subst (λ (x : List ℕ). take (width_for Y m (length (take j r))) (encoded Y m x) ≡ encoded Y m (take j r)) s
                (encoded_cut (take j r) (drop j r) d.0 d.1))),
          )

  -- cut after step j's state, an assignment satisfies the list for j exactly if its run stands in the target after j steps
  pub cut : (j p : ℕ) (a : List ℕ) → Binary a → length a ≡ width_for Y m (j + p) → T (satisfied a (list_for Y m (j + p)))
      → T (satisfied (take (width_for Y m j) a) (list_for Y m j)) ↔ T (is_run m (take j (decoded Y m (j + p) a)))
  cut j p a c l h =
      let x = cut_is j p a c l h in
      let r : List ℕ = take j (decoded Y m (j + p) a) in
      rw x.3 (subst (λ (i : ℕ). T (satisfied (encoded Y m r) (list_for Y m i)) ↔ T (is_run m r)) x.1 (walk_satisfies r x.0 x.2))
