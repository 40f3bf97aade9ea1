-- The clauses of a well-formed model's list name the first N variables alone: the groups and rules of every piece lie within them.
use mathlib.Core.Path.{◌≡◌, refl}
use mathlib.Core.Bool.{Bool, true, false, cond}
use mathlib.Core.List.{List, [], ◌∷◌, ◌++◌, map}
use Rattle.std.specs.Prelude.{option_map, Option, None, Some}
use Prim.Native.Nat.{ℕ, ◌+◌, ◌-◌, ◌≤◌, ◌<◌}
use native.Mathlib.Nat.{mul-le-mul_right}
use native.Mathlib.Omega.{arith}
use lib.Dec.{T}
use Rattle.model.specs.declared.Relation.{Relation}
use Rattle.model.specs.declared.Atom.{Atom}
use Rattle.model.specs.declared.Atom.TheVariants.{Blank, OnClock, OnCounter}
use Rattle.model.specs.declared.Update.{Update}
use Rattle.model.specs.declared.Update.TheVariants.{Keep, Constant, Sum}
use Rattle.model.specs.declared.ClockUpdate.{ClockUpdate}
use Rattle.model.specs.declared.ClockUpdate.TheVariants.{Unchanged, Reset, Copy}
use Rattle.model.specs.declared.Edge.{Edge}
use Rattle.model.specs.declared.Model.{Model}
use Rattle.model.specs.Indexed.{each}
use Rattle.model.specs.Record.{atom_at, update_at, reset_at, counter_at, invariant_at, edge_at}
use Rattle.model.specs.Automaton.{ceiling, choices, variables, Component, loc, counter, clock, Declared, group_size, initial_value}
use Rattle.model.specs.Automaton.{meets, delayed_value, in_range, shifted, set_earlier}
use Rattle.model.specs.Form.{well_formed}
use Rattle.model.proofs.IndexedLaws.{some_inj, sum_mono}
use Rattle.model.proofs.FormLaws.{DeclaredAtom, DeclaredUpdate, DeclaredReset, WellFormed, WellFormedEdge, formed}
use Rattle.model.proofs.StepLaws.{initial_lt, delayed_lt, in_range_lt, shifted_lt}
use Rattle.list.specs.Lists.{All, to_list}
use Rattle.list.specs.Items.{Member, Item, group, rule, over_components, offset, state_width, block_at, next_block, state_member, choice_member}
use Rattle.list.specs.Items.{exclude_values, exclude_failing, exclude_all_failing, group_items, invariant_of, invariant_items, state_items}
use Rattle.list.specs.Items.{initial_items, start_items, choice_items, leads, sets_to, delay_items, delays_items, source_items, target_items, guard_items}
use Rattle.list.specs.Items.{read_block, update_items, updates_items, reset_items, resets_items, edge_items, edge_of, edges_items, step_items, end_items}
use Rattle.list.specs.Items.{body_items, items}
use Rattle.list.specs.Clauses.{Literal, bare, negated, Clause, one, one_hot_width, variable_of, members, pairs, group_clauses, expand, clauses}
use Rattle.list.proofs.ListLaws.{all_app, all_app₄, all_app₅, all_each, all_flat, all_imp}
use Rattle.list.proofs.Blocks.{over_components_lem}
use Rattle.list.proofs.Steps.{delay_lt, edge_lt}
use Rattle.list.proofs.OneHot.{variables_are_lem}

abbrev pub index : Literal → ℕ
index (bare i) = i
index (negated i) = i

-- ---- within the first N variables: a member, an item, a clause
module _ (N : ℕ) where
  abbrev Inside : Member → Type 0
  Inside x = variable_of x < N

  abbrev ItemInside : Item → Type 0
  ItemInside (group b n) = b + n ≤ N
  ItemInside (rule ms x) = All Inside ms × All Inside (to_list x)

  abbrev pub ClauseInside : Clause → Type 0
  ClauseInside c = All (λ l. index l < N) c

  -- the clauses of an item
  one_inside : (c : Clause) → ClauseInside c → All ClauseInside (one c)
  unfolding one
  one_inside c h = (h, tt)

  members_inside : (b n : ℕ) → b + n ≤ N → ClauseInside (members b n)
  unfolding members
  members_inside b n h = (all_each (λ l. index l < N) n (λ v. bare (b + v) ∷ [])).1 (λ v p. (omega arith, tt))

  pairs_inside : (b n : ℕ) → b + n ≤ N → All ClauseInside (pairs b n)
  unfolding pairs
  pairs_inside b n h =
      (all_each ClauseInside n _).1 (λ i p. (all_each ClauseInside (n - (i + 1)) _).1 (λ j q. one_inside _ (omega arith, (omega arith, tt))))

  group_inside : (b n : ℕ) → b + n ≤ N → All ClauseInside (group_clauses b n)
  unfolding group_clauses
  group_inside b n h = (all_app ClauseInside (one (members b n)) (pairs b n)).1 (one_inside _ (members_inside b n h), pairs_inside b n h)

  negated_inside : (ms : List Member) → All Inside ms → ClauseInside (map (λ x. negated (variable_of x)) ms)
  negated_inside [] h = tt
  negated_inside (x ∷ ms) h = (h.0, negated_inside ms h.1)

  bare_inside : (ms : List Member) → All Inside ms → ClauseInside (map (λ x. bare (variable_of x)) ms)
  bare_inside [] h = tt
  bare_inside (x ∷ ms) h = (h.0, bare_inside ms h.1)

  item_inside : (i : Item) → ItemInside i → All ClauseInside (expand i)
  item_inside (group b n) h = group_inside b n h
  item_inside (rule ms x) h =
      let before = map (λ x. negated (variable_of x)) ms in
      let after = map (λ x. bare (variable_of x)) (to_list x) in
      one_inside _ ((all_app (λ l. index l < N) before after).1 (negated_inside ms h.0, bare_inside (to_list x) h.1))

-- ---- the items of a well-formed model
module _ (m : Model) where
  abbrev S : ℕ
  S = state_width one_hot_width m

  -- a component's group lies within the state block
  group_fits : (x : Component) → Declared m x → offset one_hot_width m x + group_size m x ≤ S
  group_fits loc p = omega arith
  group_fits (counter i) p = omega (arith, sum_mono (λ j. group_size m (counter j)) i m.vars p)
  group_fits (clock i) p = omega (arith, mul-le-mul_right (ceiling m + 1) p)

  -- a state member and a choice of blocks that end within N
  module _ (ok : WellFormed m) (N : ℕ) where
    state_inside : (o : ℕ) → o + S ≤ N → (x : Component) → Declared m x → (v : ℕ) → v < group_size m x
        → Inside N (state_member one_hot_width m o x v)
    state_inside o h x p v l = omega (arith, group_fits x p)

    -- ---- a state block at o
    module _ (o : ℕ) (h : o + S ≤ N) where
      values_inside : (ms : List Member) → All (Inside N) ms → (x : Component) → Declared m x → (rel : Relation) (b : ℕ)
          → All (ItemInside N) (exclude_values one_hot_width m o ms x rel b)
      values_inside ms g x p rel b = (all_each (ItemInside N) (group_size m x) _).1 (λ v l. go v l (meets rel v b))
        where
          go : (v : ℕ) → v < group_size m x → (t : Bool) → All (ItemInside N) (cond t [] (rule (ms ++ (state_member one_hot_width m o x v ∷ [])) None ∷ []))
          go v l true = tt
          go v l false =
              let failing = state_member one_hot_width m o x v ∷ [] in
              (((all_app (Inside N) ms failing).1 (g, (state_inside o h x p v l, tt)), tt), tt)

      atom_inside : (ms : List Member) → All (Inside N) ms → (t : Atom) → DeclaredAtom m t → All (ItemInside N) (exclude_failing one_hot_width m o ms t)
      atom_inside ms g Blank p = tt
      atom_inside ms g (OnClock x rel b) p = values_inside ms g (clock x) p rel b
      atom_inside ms g (OnCounter x rel b) p = values_inside ms g (counter x) p rel b

      atoms_inside : (ms : List Member) → All (Inside N) ms → (atoms : List Atom) → ((k : ℕ) → k < 4 → DeclaredAtom m (atom_at atoms k))
          → All (ItemInside N) (exclude_all_failing one_hot_width m o ms atoms)
      atoms_inside ms g atoms p = (all_each (ItemInside N) 4 _).1 (λ k l. atom_inside ms g (atom_at atoms k) (p k l))

      state_items_inside : All (ItemInside N) (state_items one_hot_width m o)
      unfolding state_items group_items invariant_items
      state_items_inside =
          let G : Component → List Item = λ x. group (o + offset one_hot_width m x) (group_size m x) ∷ [] in
          let I : ℕ → List Item = invariant_of one_hot_width m o in
          (all_app (ItemInside N) (over_components m G) (each m.locations I)).1 (
            (over_components_lem m (ItemInside N) G).1 (λ x p. (omega (arith, group_fits x p), tt)),
            (all_each (ItemInside N) m.locations I).1 (λ l p.
                let stands = state_member one_hot_width m o loc l ∷ [] in
                atoms_inside stands (state_inside o h loc tt l p, tt) (invariant_at m l) (ok.invariant_ok l p)),
          )

    -- ---- a step from the block at o
    module _ (o : ℕ) (h : next_block one_hot_width m o + S ≤ N) where
      here : o + S ≤ N
      here = omega arith

      choice_inside : (c : ℕ) → c < choices m → Inside N (choice_member one_hot_width m o c)
      choice_inside c p = omega arith

      abbrev next : ℕ
      next = next_block one_hot_width m o

      after_inside : (y : Component) → Declared m y → (v : Option ℕ) → ((u : ℕ) → v ≡ Some u → u < group_size m y)
          → All (Inside N) (to_list (option_map (state_member one_hot_width m next y) v))
      after_inside y p None f = tt
      after_inside y p (Some u) f = (state_inside next h y p u (f u refl), tt)

      module _ (c : ℕ) (hc : c < choices m) where
        leads_inside : (before : ℕ) → before + S ≤ N → (x y : Component) → Declared m x → Declared m y → (f : ℕ → Option ℕ)
            → ((v u : ℕ) → v < group_size m x → f v ≡ Some u → u < group_size m y)
            → All (ItemInside N) (leads one_hot_width m before o c x y f)
        leads_inside before b x y p q f g = (all_each (ItemInside N) (group_size m x) _).1 (λ v l.
            (((choice_inside c hc, (state_inside before b x p v l, tt)), after_inside y q (f v) (λ u e. g v u l e)), tt))

        sets_inside : (y : Component) → Declared m y → (v : Option ℕ) → ((u : ℕ) → v ≡ Some u → u < group_size m y)
            → All (ItemInside N) (sets_to one_hot_width m o c y v)
        sets_inside y q v g = (((choice_inside c hc, tt), after_inside y q v g), tt)

        -- the state block in which an update reads its source
        read_inside : (after : Bool) → cond after next o + S ≤ N
        read_inside true = h
        read_inside false = here

        update_inside : (order : List ℕ) (i : ℕ) → i < m.vars → (u : Update) → DeclaredUpdate m u
            → All (ItemInside N) (update_items one_hot_width m o c order i u)
        update_inside order i p Keep q = leads_inside o here (counter i) (counter i) p p Some (λ v u a b. rw (← some_inj b) a)
        update_inside order i p (Constant n) q =
            let greatest = (counter_at m i).greatest in
            sets_inside (counter i) p (in_range greatest n) (in_range_lt greatest n)
        update_inside order i p (Sum w z) q =
            let greatest = (counter_at m i).greatest in
            let b = read_block one_hot_width m o order w i in
            leads_inside b (read_inside (set_earlier order w i)) (counter w) (counter i) q p (shifted z greatest) (λ v u a b. shifted_lt z greatest v u b)

        reset_inside : (i : ℕ) → i < m.clocks → (u : ClockUpdate) → DeclaredReset m u → All (ItemInside N) (reset_items one_hot_width m o c i u)
        reset_inside i p Unchanged d = leads_inside o here (clock i) (clock i) p p Some (λ v u a b. rw (← some_inj b) a)
        reset_inside i p Reset d = sets_inside (clock i) p (Some 0) (λ u e. rw (← some_inj e) (omega arith))
        reset_inside i p (Copy w) d = leads_inside o here (clock w) (clock i) d p Some (λ v u a b. rw (← some_inj b) a)

        edge_inside : (e : Edge) → WellFormedEdge m e → All (ItemInside N) (edge_items one_hot_width m o c e)
        unfolding edge_items source_items target_items guard_items updates_items resets_items
        edge_inside e w =
            let source = source_items one_hot_width m o c e in
            let target = target_items one_hot_width m o c e in
            let guard = guard_items one_hot_width m o c e in
            let updates = updates_items one_hot_width m o c e in
            let resets = resets_items one_hot_width m o c e in
            (all_app₅ (ItemInside N) source target guard updates resets).1 (
              (((choice_inside c hc, tt), (state_inside o here loc tt e.source w.source_ok, tt)), tt),
              (((choice_inside c hc, tt), (state_inside next h loc tt e.target w.target_ok, tt)), tt),
              atoms_inside o here (choice_member one_hot_width m o c ∷ []) (choice_inside c hc, tt) e.guard w.guard_ok,
              (all_each (ItemInside N) m.vars (λ i. update_items one_hot_width m o c e.order i (update_at e i))).1
                  (λ i p. update_inside e.order i p (update_at e i) (w.sets_ok i p)),
              (all_each (ItemInside N) m.clocks (λ i. reset_items one_hot_width m o c i (reset_at e i))).1
                  (λ i p. reset_inside i p (reset_at e i) (w.resets_ok i p)),
            )

      delay_inside : (d : ℕ) → d < ceiling m + 1 → All (ItemInside N) (delay_items one_hot_width m o d)
      unfolding delay_items
      delay_inside d l =
          let D : Component → List Item = λ x. leads one_hot_width m o o d x x (λ v. Some (delayed_value m d x v)) in
          (over_components_lem m (ItemInside N) D).1 (λ x p.
          let to : ℕ → Option ℕ = λ v. Some (delayed_value m d x v) in
          leads_inside d (delay_lt m d l) o here x x p p to (λ v u a b. rw (← some_inj b) (delayed_lt m d x v a)))

      step_inside : All (ItemInside N) (step_items one_hot_width m o)
      unfolding step_items choice_items delays_items edges_items
      step_inside =
          let choice = choice_items one_hot_width m o in
          let delays = delays_items one_hot_width m o in
          let edges = edges_items one_hot_width m o in
          (all_app₄ (ItemInside N) choice delays edges (state_items one_hot_width m next)).1 (
            (omega arith, tt),
            (all_each (ItemInside N) (ceiling m + 1) (delay_items one_hot_width m o)).1 delay_inside,
            (all_each (ItemInside N) m.used (edge_of one_hot_width m o)).1
                (λ e l. edge_inside (ceiling m + 1 + e) (edge_lt m e l) (edge_at m e) (ok.edge_ok e l)),
            state_items_inside next h,
          )

    start_inside : S ≤ N → All (ItemInside N) (start_items one_hot_width m)
    unfolding start_items initial_items
    start_inside h =
        let z : 0 + S ≤ N = omega arith in
        let I : Component → List Item = λ x. rule [] (Some (state_member one_hot_width m 0 x (initial_value m x))) ∷ [] in
        (all_app (ItemInside N) (state_items one_hot_width m 0) (over_components m I)).1 (
          state_items_inside 0 z,
          (over_components_lem m (ItemInside N) I).1
              (λ x p. ((tt, (state_inside 0 z x p (initial_value m x) (initial_lt m ok x p), tt)), tt)),
        )

  items_inside : WellFormed m → (k : ℕ) → All (ItemInside (variables m k)) (items one_hot_width m k)
  unfolding items body_items end_items
  items_inside ok k =
      let N : ℕ = variables m k in
      let e : variables m k ≡ S + block_at one_hot_width m k = variables_are_lem m k in
      let steps : ℕ → List Item = λ t. step_items one_hot_width m (block_at one_hot_width m t) in
      (all_app (ItemInside N) (body_items one_hot_width m k) (end_items one_hot_width m k)).1 (
        (all_app (ItemInside N) (start_items one_hot_width m) (each k steps)).1 (
          start_inside ok N (omega arith),
          (all_each (ItemInside N) k steps).1 (λ t p. step_inside ok N (block_at one_hot_width m t) (step_fits t p)),
        ),
        ((tt, (state_inside ok N (block_at one_hot_width m k) (omega arith) loc tt m.target ok.target_ok, tt)), tt),
      )
    where
      step_fits : (t : ℕ) → t < k → next_block one_hot_width m (block_at one_hot_width m t) + S ≤ variables m k
      step_fits t p = let q : t + 1 ≤ k = omega arith in omega (arith, variables_are_lem m k, mul-le-mul_right (S + choices m) q)

-- Every literal of the list for k has a variable below N.
pub clauses_inside : (m : Model) → T (well_formed m) → (k : ℕ) → All (ClauseInside (variables m k)) (clauses m k)
unfolding clauses
clauses_inside m ok k =
    let N : ℕ = variables m k in
    (all_flat (ClauseInside N) expand (items one_hot_width m k)).1 (all_imp (items one_hot_width m k) (item_inside N) (items_inside m (formed m ok) k))
