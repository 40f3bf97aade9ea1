-- The clauses of each piece of the list in the first layout, piece by piece and literal by literal: what those who write, count or search the list cite.
use mathlib.Core.Path.{◌≡◌, refl, ap, ◌∙◌}
use mathlib.Core.Bool.{Bool, true, false, cond}
use mathlib.Core.List.{List, [], ◌∷◌, ◌++◌, map, flat_map}
use Rattle.std.specs.Prelude.{option_map, Option, None, Some}
use Prim.Native.Nat.{ℕ, ◌+◌}
use native.Mathlib.Omega.{arith}
use Rattle.model.specs.declared.Relation.{Relation}
use Rattle.model.specs.declared.Atom.{Atom}
use Rattle.model.specs.declared.Edge.{Edge}
use Rattle.model.specs.declared.Model.{Model}
use Rattle.model.specs.Indexed.{each}
use Rattle.model.specs.Record.{atom_at, update_at, reset_at}
use Rattle.model.specs.Automaton.{ceiling, choices, Component, loc, counter, clock, group_size, initial_value, meets, delayed_value}
use Rattle.list.specs.Lists.{to_list}
use Rattle.list.specs.Items.{Member, Item, group, rule, over_components, offset, state_width, block_at, next_block, state_member, choice_member, exclude_values}
use Rattle.list.specs.Items.{exclude_failing, exclude_all_failing, group_items, invariant_of, invariant_items, state_items, initial_items, start_items}
use Rattle.list.specs.Items.{choice_items, leads, sets_to, delay_items, delays_items, source_items, target_items, guard_items, update_items, updates_items}
use Rattle.list.specs.Items.{reset_items, resets_items, edge_items, edge_of, edges_items, step_items, end_items, body_items, items}
use Rattle.list.specs.Clauses.{bare, negated, Clause, one, one_hot_width, variable_of, group_clauses, expand, clauses_of, clauses}
use Rattle.list.proofs.ListLaws.{flat_app, flat_none, flat_one, flat_each, each_cong}

-- ---- pieces for each index and for each component
over_cong : (m : Model) {A : Type 0} (f g : Component → List A) → ((x : Component) → f x ≡ g x) → over_components m f ≡ over_components m g
over_cong m f g h = rw (
  h loc,
  each_cong m.vars (λ i. f (counter i)) (λ i. g (counter i)) (λ i p. h (counter i)),
  each_cong m.clocks
      (λ i. f (clock i)) (λ i. g (clock i)) (λ i p. h (clock i)),
)

pub flat_over : {A B : Type 0} (m : Model) (f : A → List B) (g : Component → List A)
    → flat_map f (over_components m g) ≡ over_components m (λ x. flat_map f (g x))
flat_over m f g = rw (
  flat_app f (g loc ++ each m.vars (λ i. g (counter i))) (each m.clocks (λ i. g (clock i))),
  flat_app f (g loc)
      (each m.vars (λ i. g (counter i))),
  flat_each f m.vars (λ i. g (counter i)),
  flat_each f m.clocks (λ i. g (clock i)),
)

-- one item for each index or component
each_one : (n : ℕ) (f : ℕ → Item) → clauses_of (each n (λ i. f i ∷ [])) ≡ each n (λ i. expand (f i))
each_one n f = flat_each expand n (λ i. f i ∷ []) ∙ each_cong n (λ i. flat_map expand (f i ∷ [])) (λ i. expand (f i)) (λ i p. flat_one expand (f i))

over_one : (m : Model) (f : Component → Item) → clauses_of (over_components m (λ x. f x ∷ [])) ≡ over_components m (λ x. expand (f x))
over_one m f = flat_over m expand (λ x. f x ∷ []) ∙ over_cong m (λ x. flat_map expand (f x ∷ [])) (λ x. expand (f x)) (λ x. flat_one expand (f x))

-- the literal of a member that may be missing
pub conclusion : {A : Type 0} (f : A → Member) (y : Option A)
    → map (λ x. bare (variable_of x)) (to_list (option_map f y)) ≡ map (λ u. bare (variable_of (f u))) (to_list y)
conclusion f None = refl
conclusion f (Some u) = refl

module _ (m : Model) where
  abbrev S : ℕ
  S = state_width one_hot_width m

  abbrev at : Component → ℕ
  at = offset one_hot_width m

  abbrev after : ℕ → ℕ
  after = next_block one_hot_width m

  -- ---- the numbering
  pub next_block_lem : (t : ℕ) → next_block one_hot_width m (block_at one_hot_width m t) ≡ block_at one_hot_width m (t + 1)
  next_block_lem t = omega arith

  -- ---- the whole list
  pub clauses_pieces : (k : ℕ) → clauses m k
      ≡ clauses_of (start_items one_hot_width m) ++ each k (λ t. clauses_of (step_items one_hot_width m (block_at one_hot_width m t))) ++ clauses_of
      (end_items one_hot_width m k)
  unfolding clauses items body_items
  clauses_pieces k =
      let s : ℕ → List Item = λ t. step_items one_hot_width m (block_at one_hot_width m t) in
      rw (
        flat_app expand (start_items one_hot_width m ++ each k s) (end_items one_hot_width m k),
        flat_app expand (start_items one_hot_width m)
            (each k s),
        flat_each expand k s,
      )

  pub end_piece : (k : ℕ) → clauses_of (end_items one_hot_width m k) ≡ one (bare (block_at one_hot_width m k + at loc + m.target) ∷ [])
  unfolding end_items
  end_piece k = flat_one expand _

  -- ---- state clauses and the start
  pub start_piece : clauses_of (start_items one_hot_width m) ≡ clauses_of (state_items one_hot_width m 0) ++ clauses_of (initial_items one_hot_width m)
  unfolding start_items
  start_piece = flat_app expand (state_items one_hot_width m 0) (initial_items one_hot_width m)

  pub initial_piece_lem : clauses_of (initial_items one_hot_width m) ≡ over_components m (λ x. one (bare (0 + at x + initial_value m x) ∷ []))
  unfolding initial_items
  initial_piece_lem = over_one m (λ x. rule [] (Some (state_member one_hot_width m 0 x (initial_value m x))))

  pub state_piece_lem : (o : ℕ)
      → clauses_of (state_items one_hot_width m o) ≡ clauses_of (group_items one_hot_width m o) ++ clauses_of (invariant_items one_hot_width m o)
  unfolding state_items
  state_piece_lem o = flat_app expand (group_items one_hot_width m o) (invariant_items one_hot_width m o)

  pub groups_piece : (o : ℕ) → clauses_of (group_items one_hot_width m o) ≡ over_components m (λ x. group_clauses (o + at x) (group_size m x))
  unfolding group_items
  groups_piece o = over_one m (λ x. group (o + at x) (group_size m x))

  pub invariants_piece : (o : ℕ) → clauses_of (invariant_items one_hot_width m o) ≡ each m.locations (λ l. clauses_of (invariant_of one_hot_width m o l))
  unfolding invariant_items
  invariants_piece o = flat_each expand m.locations (invariant_of one_hot_width m o)

  pub atoms_piece : (o : ℕ) (ms : List Member) (atoms : List Atom)
      → clauses_of (exclude_all_failing one_hot_width m o ms atoms) ≡ each 4 (λ k. clauses_of (exclude_failing one_hot_width m o ms (atom_at atoms k)))
  atoms_piece o ms atoms = flat_each expand 4 (λ k. exclude_failing one_hot_width m o ms (atom_at atoms k))

  -- one failing value: not x, not that value; for x a choice or a location
  pub values_piece : (o : ℕ) (y : Member) (x : Component) (rel : Relation) (b : ℕ)
      → clauses_of (exclude_values one_hot_width m o (y ∷ []) x rel b)
      ≡ each (group_size m x) (λ v. cond (meets rel v b) [] (one (negated (variable_of y) ∷ negated (o + at x + v) ∷ [])))
  values_piece o y x rel b =
      flat_each expand (group_size m x) (λ v. cond (meets rel v b) [] (item v ∷ [])) ∙
      each_cong (group_size m x) (λ v. clauses_of (cond (meets rel v b) [] (item v ∷ []))) (λ v. cond (meets rel v b) [] (expand (item v)))
      (λ v p. go v (meets rel v b))
    where
      item : ℕ → Item
      item v = rule (y ∷ state_member one_hot_width m o x v ∷ []) None

      go : (v : ℕ) (t : Bool) → clauses_of (cond t [] (item v ∷ [])) ≡ cond t [] (expand (item v))
      go v true = flat_none expand
      go v false = flat_one expand (item v)

  -- ---- a step
  pub step_piece_lem : (o : ℕ) → clauses_of (step_items one_hot_width m o)
      ≡ clauses_of (choice_items one_hot_width m o) ++ clauses_of (delays_items one_hot_width m o) ++ clauses_of (edges_items one_hot_width m o) ++ clauses_of
      (state_items one_hot_width m (after o))
  unfolding step_items
  step_piece_lem o =
      let c = choice_items one_hot_width m o in
      let d = delays_items one_hot_width m o in
      let e = edges_items one_hot_width m o in
      rw (flat_app expand (c ++ d ++ e) (state_items one_hot_width m (after o)), flat_app expand (c ++ d) e, flat_app expand c d)

  pub choice_piece : (o : ℕ) → clauses_of (choice_items one_hot_width m o) ≡ group_clauses (o + S) (choices m)
  unfolding choice_items
  choice_piece o = flat_one expand (group (o + S) (choices m))

  -- choice c takes each value v to f v
  pub leads_piece : (before o c : ℕ) (x y : Component) (f : ℕ → Option ℕ)
      → clauses_of (leads one_hot_width m before o c x y f)
      ≡ each (group_size m x) (λ v. one (negated (o + S + c) ∷ negated (before + at x + v) ∷ map (λ u. bare (after o + at y + u)) (to_list (f v))))
  leads_piece before o c x y f =
      each_one (group_size m x) item ∙
      each_cong (group_size m x) (λ v. expand (item v)) (λ v. one (negated (o + S + c) ∷ negated (before + at x + v) ∷ map
      (λ u. bare (after o + at y + u)) (to_list (f v))))
      (λ v p. ap (λ (l : Clause). one (negated (o + S + c) ∷ negated (before + at x + v) ∷ l)) (conclusion (state_member one_hot_width m (after o) y) (f v)))
    where
      item : ℕ → Item
      item v = rule (choice_member one_hot_width m o c ∷ state_member one_hot_width m before x v ∷ [])
          (option_map (state_member one_hot_width m (after o) y) (f v))

  -- choice c sets a component to a value
  pub sets_piece : (o c : ℕ) (y : Component) (v : Option ℕ)
      → clauses_of (sets_to one_hot_width m o c y v) ≡ one (negated (o + S + c) ∷ map (λ u. bare (after o + at y + u)) (to_list v))
  sets_piece o c y v = flat_one expand _ ∙ ap (λ (l : Clause). one (negated (o + S + c) ∷ l)) (conclusion (state_member one_hot_width m (after o) y) v)

  pub delays_piece : (o : ℕ) → clauses_of (delays_items one_hot_width m o) ≡ each (ceiling m + 1) (λ d. clauses_of (delay_items one_hot_width m o d))
  unfolding delays_items
  delays_piece o = flat_each expand (ceiling m + 1) (delay_items one_hot_width m o)

  pub delay_piece_lem : (o d : ℕ) → clauses_of (delay_items one_hot_width m o d)
      ≡ over_components m (λ x. each (group_size m x) (λ v. one (negated (o + S + d) ∷ negated (o + at x + v) ∷ bare
      (after o + at x + delayed_value m d x v) ∷ [])))
  unfolding delay_items
  delay_piece_lem o d =
      flat_over m expand D ∙
      over_cong m (λ x. clauses_of (D x)) (λ x. each (group_size m x) (λ v. one
      (negated (o + S + d) ∷ negated (o + at x + v) ∷ bare (after o + at x + delayed_value m d x v) ∷ [])))
      (λ x. leads_piece o o d x x (λ v. Some (delayed_value m d x v)))
    where
      D : Component → List Item
      D x = leads one_hot_width m o o d x x (λ v. Some (delayed_value m d x v))

  pub edges_piece : (o : ℕ) → clauses_of (edges_items one_hot_width m o) ≡ each m.used (λ e. clauses_of (edge_of one_hot_width m o e))
  unfolding edges_items
  edges_piece o = flat_each expand m.used (edge_of one_hot_width m o)

  -- ---- an edge e, which is choice c
  module _ (o c : ℕ) (e : Edge) where
    pub edge_piece_lem : clauses_of (edge_items one_hot_width m o c e)
        ≡ clauses_of (source_items one_hot_width m o c e) ++ clauses_of (target_items one_hot_width m o c e) ++ clauses_of
        (guard_items one_hot_width m o c e) ++ clauses_of (updates_items one_hot_width m o c e) ++ clauses_of (resets_items one_hot_width m o c e)
    unfolding edge_items
    edge_piece_lem =
        let s = source_items one_hot_width m o c e in
        let t = target_items one_hot_width m o c e in
        let g = guard_items one_hot_width m o c e in
        let u = updates_items one_hot_width m o c e in
        let r = resets_items one_hot_width m o c e in
        rw (flat_app expand (s ++ t ++ g ++ u) r, flat_app expand (s ++ t ++ g) u, flat_app expand (s ++ t) g, flat_app expand s t)

    pub source_piece : clauses_of (source_items one_hot_width m o c e) ≡ one (negated (o + S + c) ∷ bare (o + at loc + e.source) ∷ [])
    unfolding source_items
    source_piece = flat_one expand _

    pub target_piece : clauses_of (target_items one_hot_width m o c e) ≡ one (negated (o + S + c) ∷ bare (after o + at loc + e.target) ∷ [])
    unfolding target_items
    target_piece = flat_one expand _

    pub guard_piece : clauses_of (guard_items one_hot_width m o c e)
        ≡ each 4 (λ k. clauses_of (exclude_failing one_hot_width m o (choice_member one_hot_width m o c ∷ []) (atom_at e.guard k)))
    unfolding guard_items
    guard_piece = atoms_piece o (choice_member one_hot_width m o c ∷ []) e.guard

    pub updates_piece : clauses_of (updates_items one_hot_width m o c e)
        ≡ each m.vars (λ i. clauses_of (update_items one_hot_width m o c e.order i (update_at e i)))
    unfolding updates_items
    updates_piece = flat_each expand m.vars (λ i. update_items one_hot_width m o c e.order i (update_at e i))

    pub resets_piece : clauses_of (resets_items one_hot_width m o c e) ≡ each m.clocks (λ i. clauses_of (reset_items one_hot_width m o c i (reset_at e i)))
    unfolding resets_items
    resets_piece = flat_each expand m.clocks (λ i. reset_items one_hot_width m o c i (reset_at e i))
