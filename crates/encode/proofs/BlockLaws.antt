-- The bytes of a state, of a step and of a run, part after part.
use mathlib.Core.Path.{◌≡◌, refl, sym, ap, ap₂, ◌∙◌}
use mathlib.Core.Bool.{true}
use mathlib.Core.List.{List, [], ◌∷◌, ◌++◌, append_assoc, append-nil}
use Rattle.std.specs.Prelude.{Option, Some, is_some}
use Prim.Native.Nat.{ℕ, ◌+◌, ◌<◌, ◌≤◌}
use native.Mathlib.Numerals.{add-one}
use lib.ListN.{length, take, drop, get_or, take-append-drop}
use lib.Seq.{take-suc, drop-cons, get_or-take, length-take-le}
use lib.Dec.{T}
use native.Mathlib.Omega.{arith}
use Rattle.encode.specs.declared.Shown.{Shown}
use Rattle.model.specs.Form.{well_formed}
use Rattle.model.proofs.FormLaws.{formed}
use Rattle.model.proofs.IndexedLaws.{length_list, get_d_list}
use Rattle.list.proofs.ListLaws.{each_cong}
use Rattle.model.specs.declared.Model.{Model}
use Rattle.model.specs.declared.State.{State}
use Rattle.model.specs.Indexed.{each, list_below}
use Rattle.model.specs.Automaton.{ceiling, choices, step}
use Rattle.model.specs.Run.{walk}
use Rattle.model.proofs.RunLaws.{walk_nil, walk_cons, walk_step, walk_app}
use Rattle.list.specs.Assignments.{one_hot, state_bytes, steps_bytes}
use Rattle.encode.specs.BlockBytes.{counter_group, clock_group, shown_bytes, no_group, step_bytes, Walks}

-- the groups of all slots
pub length_shown : (f : ℕ → Shown) (groups : List Shown) → groups ≡ list_below f 4 → length groups ≡ 4
length_shown f groups e = ap length e ∙ length_list f 4

pub length_first : (f : ℕ → Shown) (n : ℕ) (groups : List Shown) → n ≤ 4 → groups ≡ list_below f 4 → length (take n groups) ≡ n
length_first f n groups l e = length-take-le n groups (omega (arith, length_shown f groups e, l))

-- the groups of the first n slots
each_shown : (f : ℕ → Shown) (n : ℕ) (groups : List Shown) → n ≤ 4 → groups ≡ list_below f 4
    → each n (λ i. one_hot (f i).size (f i).value) ≡ each (length (take n groups)) (shown_bytes (take n groups))
unfolding shown_bytes
each_shown f n groups l e =
    rw (length_first f n groups l e) (each_cong n _ _ (λ i p.
    ap (λ (g : Shown). one_hot g.size g.value)
    (sym (get_or-take n groups i no_group p ∙ ap (λ (x : List Shown). get_or x i no_group) e ∙ get_d_list no_group f 4 i (omega (arith, p, l))))))

-- a state block: the location, the counters, the clocks
pub state_is : (m : Model) (s : State) (top : ℕ) {counters clocks : List Shown} → T (well_formed m) → top ≡ ceiling m
    → counters ≡ list_below (counter_group m.counters s.counters) 4 → clocks ≡ list_below (clock_group top s.clocks) 4
    → state_bytes one_hot m s ≡ one_hot m.locations s.location
    ++ each (length (take m.vars counters)) (shown_bytes (take m.vars counters)) ++ each (length (take m.clocks clocks)) (shown_bytes (take m.clocks clocks))
unfolding state_bytes
state_is m s top {counters} {clocks} w e p q =
    let ok = formed m w in
    ap (λ (n : ℕ). one_hot m.locations s.location ++ each m.vars (λ i. one_hot (counter_group m.counters s.counters i).size (get_or s.counters i 0))
    ++ each m.clocks (λ i. one_hot (n + 1) (get_or s.clocks i 0))) (sym e)
    ∙ ap₂ (λ (a b : List ℕ). one_hot m.locations s.location ++ a ++ b)
    (each_shown (counter_group m.counters s.counters) m.vars counters ok.vars_le p) (each_shown (clock_group top s.clocks) m.clocks clocks ok.clocks_le q)

-- a step: the choice, the state
pub step_is : (m : Model) (b : ℕ) (t : State) (n : ℕ) → n ≡ choices m → step_bytes m b t ≡ one_hot n b ++ state_bytes one_hot m t
unfolding step_bytes
step_is m b t n e = ap (λ (k : ℕ). one_hot k b ++ state_bytes one_hot m t) (sym e)

-- no step
pub steps_none : (m : Model) (s : State) → steps_bytes one_hot m s [] ≡ []
unfolding steps_bytes
steps_none m s = refl

module _ (m : Model) where
  -- a step, and the steps after it
  steps_cons : (s t : State) (b : ℕ) (r : List ℕ) → step m s b ≡ Some t → steps_bytes one_hot m s (b ∷ r) ≡ step_bytes m b t ++ steps_bytes one_hot m t r
  unfolding steps_bytes step_bytes
  steps_cons s t b r h = rw (h, append_assoc)

  -- a walk, and the steps after it
  steps_append : (r q : List ℕ) (s e : State) → walk m s r ≡ Some e → steps_bytes one_hot m s (r ++ q) ≡ steps_bytes one_hot m s r ++ steps_bytes one_hot m e q
  steps_append [] q s e h =
      ap (λ (x : State). steps_bytes one_hot m x q) ((walk_nil m s e).0 h) ∙ ap (λ (l : List ℕ). l ++ steps_bytes one_hot m e q) (sym (steps_none m s))
  steps_append (b ∷ r) q s e h =
      let x = (walk_cons m s e b r).0 h in
      steps_cons s x.0 b (r ++ q) x.1 ∙
      ap (λ (l : List ℕ). step_bytes m b x.0 ++ l) (steps_append r q x.0 e x.2) ∙
      sym (append_assoc (step_bytes m b x.0) (steps_bytes one_hot m x.0 r) (steps_bytes one_hot m e q)) ∙
      ap (λ (l : List ℕ). l ++ steps_bytes one_hot m e q) (sym (steps_cons s x.0 b r x.1))

  -- ---- a turn of the loop over the run: s is reached after t steps
  module _ (first : State) (run : List ℕ) (t : ℕ) (s : State) (l : t < length run) (reached : walk m first (take t run) ≡ Some s) where
    rest : drop t run ≡ get_or run t 0 ∷ drop (t + 1) run
    rest = drop-cons run t 0 l ∙ ap (λ (n : ℕ). get_or run t 0 ∷ drop n run) (sym (add-one t))

    more : take (t + 1) run ≡ take t run ++ (get_or run t 0 ∷ [])
    more = ap (λ (n : ℕ). take n run) (add-one t) ∙ take-suc run t 0 l

    -- the walk goes on, so the next step is taken
    pub taken : Walks m first run → {u : Option State} → u ≡ step m s (get_or run t 0) → is_some u ≡ true
    taken w e =
        let whole : walk m s (get_or run t 0 ∷ drop (t + 1) run) ≡ Some w.end = ap (walk m s) (sym rest)
        ∙ sym (walk_app m (take t run) (drop t run) first s reached) ∙ ap (walk m first) (take-append-drop t run) ∙ w.ends in
        let x = (walk_cons m s w.end (get_or run t 0) (drop (t + 1) run)).0 whole in
        ap is_some (e ∙ x.1)

    module _ (u : State) (h : step m s (get_or run t 0) ≡ Some u) where
      pub reached_more : walk m first (take (t + 1) run) ≡ Some u
      reached_more =
          ap (walk m first) more ∙ walk_app m (take t run) (get_or run t 0 ∷ []) first s reached ∙ walk_step m s u (get_or run t 0) [] h
          ∙ (walk_nil m u u).1 refl

      pub steps_more : steps_bytes one_hot m first (take (t + 1) run) ≡ steps_bytes one_hot m first (take t run) ++ step_bytes m (get_or run t 0) u
      steps_more =
          ap (steps_bytes one_hot m first) more ∙ steps_append (take t run) (get_or run t 0 ∷ []) first s reached ∙
          ap (λ (x : List ℕ). steps_bytes one_hot m first (take t run) ++ x)
          (steps_cons s u (get_or run t 0) [] h ∙ rw (steps_none m u) (append-nil (step_bytes m (get_or run t 0) u)))

      pub steps_whole :
          steps_bytes one_hot m first run
          ≡ steps_bytes one_hot m first (take t run) ++ step_bytes m (get_or run t 0) u ++ steps_bytes one_hot m u (drop (t + 1) run)
      steps_whole =
          ap (steps_bytes one_hot m first) (sym (take-append-drop t run)) ∙ steps_append (take t run) (drop t run) first s reached ∙
          ap (λ (x : List ℕ). steps_bytes one_hot m first (take t run) ++ x)
          (ap (steps_bytes one_hot m s) rest ∙ steps_cons s u (get_or run t 0) (drop (t + 1) run) h) ∙
          sym (append_assoc (steps_bytes one_hot m first (take t run)) (step_bytes m (get_or run t 0) u) (steps_bytes one_hot m u (drop (t + 1) run)))
