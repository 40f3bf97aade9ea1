-- The clauses of a piece from the state block at d + o are those from the block at o with every variable raised by d: members and items are raised
-- first, and the clauses of a raised item are those of the item, raised.
use mathlib.Core.Path.{◌≡◌, refl, sym, ap, ap₂, ◌∙◌}
use mathlib.Core.Bool.{Bool, true, false, cond}
use mathlib.Core.List.{List, [], ◌∷◌, ◌++◌, map, flat_map, map-append}
use Rattle.std.specs.Prelude.{option_map, Option, None, Some}
use Prim.Native.Nat.{ℕ, zero, suc, ◌+◌, ◌-◌}
use native.Mathlib.Nat.{zero-add, add_assoc}
use native.Mathlib.Omega.{arith}
use Rattle.model.specs.declared.Relation.{Relation}
use Rattle.model.specs.declared.Atom.{Atom}
use Rattle.model.specs.declared.Atom.TheVariants.{Blank, OnClock, OnCounter}
use Rattle.model.specs.declared.Update.{Update}
use Rattle.model.specs.declared.Update.TheVariants.{Keep, Constant, Sum}
use Rattle.model.specs.declared.ClockUpdate.{ClockUpdate}
use Rattle.model.specs.declared.ClockUpdate.TheVariants.{Unchanged, Reset, Copy}
use Rattle.model.specs.declared.Edge.{Edge}
use Rattle.model.specs.declared.Model.{Model}
use Rattle.model.specs.Indexed.{each}
use Rattle.model.specs.Record.{atom_at, update_at, reset_at, counter_at, invariant_at, edge_at}
use Rattle.model.specs.Automaton.{ceiling, choices, Component, loc, counter, clock, group_size, meets, delayed_value, in_range, shifted, set_earlier}
use Rattle.model.proofs.IndexedLaws.{each_zero, each_suc}
use Rattle.list.specs.Lists.{to_list}
use Rattle.list.specs.Items.{Member, member, Item, group, rule, over_components, offset, state_width, block_at, next_block, state_member}
use Rattle.list.specs.Items.{choice_member, exclude_values, exclude_failing, exclude_all_failing, invariant_of, choice_items, leads, sets_to}
use Rattle.list.specs.Items.{delay_items, source_items, target_items, guard_items, read_block, update_items, updates_items, reset_items, resets_items}
use Rattle.list.specs.Items.{edge_items, edge_of, end_items}
use Rattle.list.specs.Clauses.{Literal, bare, negated, Clause, one, one_hot_width, variable_of, members, pairs, group_clauses, expand, clauses_of}
use Rattle.list.proofs.ListLaws.{each_cong}

-- A literal, with its variable raised by d.
abbrev pub raise : ℕ → Literal → Literal
raise d (bare i) = bare (d + i)
raise d (negated i) = negated (d + i)

-- Clauses, with every variable raised by d.
abbrev pub raised : ℕ → List Clause → List Clause
raised d cs = map (map (raise d)) cs

-- ---- the image of pieces under a function on their elements
module _ {A B : Type 0} (f : A → B) where
  -- Two pieces that are images are together the image of the two.
  map_two : {x y : List B} (a b : List A) → x ≡ map f a → y ≡ map f b → x ++ y ≡ map f (a ++ b)
  map_two a b p q = ap₂ (λ (u v : List B). u ++ v) p q ∙ sym (map-append f a b)

  -- The image of a piece for each index is the image of each piece.
  map_each : (n : ℕ) (g : ℕ → List A) → map f (each n g) ≡ each n (λ i. map f (g i))
  map_each zero g = ap (map f) (each_zero g) ∙ sym (each_zero (λ i. map f (g i)))
  map_each (suc n) g =
      ap (map f) (each_suc n g) ∙ sym (map_two (each n g) (g n) (sym (map_each n g)) refl) ∙ sym (each_suc n (λ i. map f (g i)))

  -- A piece for each index, each an image, is the image of the pieces for each index.
  maps_each : (n : ℕ) (h : ℕ → List B) (g : ℕ → List A) → ((i : ℕ) → h i ≡ map f (g i)) → each n h ≡ map f (each n g)
  maps_each n h g e = each_cong n h (λ i. map f (g i)) (λ i p. e i) ∙ sym (map_each n g)

  -- The same of a piece for each component.
  maps_over : (m : Model) (h : Component → List B) (g : Component → List A) → ((x : Component) → h x ≡ map f (g x))
      → over_components m h ≡ map f (over_components m g)
  maps_over m h g e =
      let counters : List A = each m.vars (λ i. g (counter i)) in
      let clocks : List A = each m.clocks (λ i. g (clock i)) in
      map_two (g loc ++ counters) clocks
      (map_two (g loc) counters (e loc) (maps_each m.vars (λ i. h (counter i)) (λ i. g (counter i)) (λ i. e (counter i))))
      (maps_each m.clocks (λ i. h (clock i)) (λ i. g (clock i)) (λ i. e (clock i)))

-- ---- raised clauses
-- A literal that is raised by 0 stays.
raise_none : (l : Literal) → raise 0 l ≡ l
raise_none (bare i) = ap bare (zero-add i)
raise_none (negated i) = ap negated (zero-add i)

-- So does a clause.
clause_none : (c : Clause) → map (raise 0) c ≡ c
clause_none [] = refl
clause_none (l ∷ c) = ap₂ (λ (x : Literal) (y : Clause). x ∷ y) (raise_none l) (clause_none c)

-- Clauses that are raised by 0 stay.
pub raised_none : (cs : List Clause) → raised 0 cs ≡ cs
raised_none [] = refl
raised_none (c ∷ cs) = ap₂ (λ (x : Clause) (y : List Clause). x ∷ y) (clause_none c) (raised_none cs)

module _ (d : ℕ) where
  -- The pieces for each index are raised one by one.
  pub raised_each : (n : ℕ) (f : ℕ → List Clause) → raised d (each n f) ≡ each n (λ i. raised d (f i))
  raised_each n f = map_each (map (raise d)) n f

  -- The list of a raised clause is the raised list of the clause.
  raised_one : {x : Clause} (c : Clause) → x ≡ map (raise d) c → one x ≡ raised d (one c)
  unfolding one
  raised_one c e = ap (λ (y : Clause). y ∷ []) e

  -- ---- the group clauses
  -- All members of the group in one clause.
  members_raised : (b n : ℕ) → members (d + b) n ≡ map (raise d) (members b n)
  unfolding members
  members_raised b n =
      maps_each (raise d) n (λ v. bare (d + b + v) ∷ []) (λ v. bare (b + v) ∷ []) (λ v. ap (λ (i : ℕ). bare i ∷ []) (add_assoc d b v))

  -- Each pair of members.
  pairs_raised : (b n : ℕ) → pairs (d + b) n ≡ raised d (pairs b n)
  unfolding pairs
  pairs_raised b n =
      maps_each (map (raise d)) n (λ i. each (n - (i + 1)) (pair (d + b) i)) (λ i. each (n - (i + 1)) (pair b i))
      (λ i. maps_each (map (raise d)) (n - (i + 1)) (pair (d + b) i) (pair b i) (λ j. raised_one _ (same i j)))
    where
      pair : ℕ → ℕ → ℕ → List Clause
      pair b i j = one (negated (b + i) ∷ negated (b + i + 1 + j) ∷ [])

      same : (i j : ℕ) → negated (d + b + i) ∷ negated (d + b + i + 1 + j) ∷ [] ≡ negated (d + (b + i)) ∷ negated (d + (b + i + 1 + j)) ∷ []
      same i j =
          let first : d + b + i ≡ d + (b + i) = omega arith in
          let second : d + b + i + 1 + j ≡ d + (b + i + 1 + j) = omega arith in
          ap₂ (λ (x y : ℕ). negated x ∷ negated y ∷ []) first second

  -- The group clauses of the group whose variables begin at d + b.
  pub group_raised : (b n : ℕ) → group_clauses (d + b) n ≡ raised d (group_clauses b n)
  unfolding group_clauses
  group_raised b n = map_two (map (raise d)) (one (members b n)) (pairs b n) (raised_one (members b n) (members_raised b n)) (pairs_raised b n)

  -- ---- raised members and items
  -- A member whose group's variables begin d later.
  abbrev raise_member : Member → Member
  raise_member x = member (d + x.base) x.size x.place

  -- The same of all members of an item.
  abbrev raise_item : Item → Item
  raise_item (group b n) = group (d + b) n
  raise_item (rule ms x) = rule (map raise_member ms) (option_map raise_member x)

  -- The literals of raised members on the left of a rule.
  negated_raised : (ms : List Member) → map (λ x. negated (variable_of x)) (map raise_member ms) ≡ map (raise d) (map (λ x. negated (variable_of x)) ms)
  negated_raised [] = refl
  negated_raised (x ∷ ms) = ap₂ (λ (i : ℕ) (c : Clause). negated i ∷ c) (add_assoc d x.base x.place) (negated_raised ms)

  -- The literal of a raised member on the right of a rule, if there is one.
  bare_raised : (x : Option Member)
      → map (λ x. bare (variable_of x)) (to_list (option_map raise_member x)) ≡ map (raise d) (map (λ x. bare (variable_of x)) (to_list x))
  bare_raised None = refl
  bare_raised (Some x) = ap (λ (i : ℕ). bare i ∷ []) (add_assoc d x.base x.place)

  -- The clauses of a raised item are those of the item, raised.
  item_raised : (i : Item) → expand (raise_item i) ≡ raised d (expand i)
  item_raised (group b n) = group_raised b n
  item_raised (rule ms x) =
      let before = map (λ x. negated (variable_of x)) ms in
      let after = map (λ x. bare (variable_of x)) (to_list x) in
      raised_one (before ++ after) (map_two (raise d) before after (negated_raised ms) (bare_raised x))

  -- So with the clauses of raised items,
  clauses_raised : (l : List Item) → clauses_of (map raise_item l) ≡ raised d (clauses_of l)
  unfolding flat_map
  clauses_raised [] = refl
  clauses_raised (i ∷ l) = map_two (map (raise d)) (expand i) (clauses_of l) (item_raised i) (clauses_raised l)

  -- and of items that are the raised ones.
  items_raised : {x : List Item} (l : List Item) → x ≡ map raise_item l → clauses_of x ≡ raised d (clauses_of l)
  items_raised l e = ap clauses_of e ∙ clauses_raised l

-- ---- the items of a piece, from the state block at d + o
module _ (width : ℕ → ℕ) (m : Model) (d : ℕ) where
  -- Items, each raised.
  abbrev up : List Item → List Item
  up = map (raise_item d)

  -- The state block after the step.
  abbrev after : ℕ → ℕ
  after = next_block width m

  -- A value of a component.
  state_up : (o : ℕ) (x : Component) (v : ℕ) → state_member width m (d + o) x v ≡ raise_member d (state_member width m o x v)
  state_up o x v = ap (λ (b : ℕ). member b (group_size m x) v) (add_assoc d o (offset width m x))

  -- A choice.
  choice_up : (o c : ℕ) → choice_member width m (d + o) c ≡ raise_member d (choice_member width m o c)
  choice_up o c = ap (λ (b : ℕ). member b (choices m) c) (add_assoc d o (state_width width m))

  -- A value after the step, which may be missing.
  after_up : (o : ℕ) (y : Component) (v : Option ℕ)
      → option_map (state_member width m (after (d + o)) y) v ≡ option_map (raise_member d) (option_map (state_member width m (after o) y) v)
  after_up o y None = refl
  after_up o y (Some u) =
      let e : after (d + o) ≡ d + after o = omega arith in
      ap (λ (b : ℕ). Some (state_member width m b y u)) e ∙ ap (λ (x : Member). Some x) (state_up (after o) y u)

  -- ---- a state block
  -- Each value failing a comparison.
  values_up : (o : ℕ) (ms : List Member) (x : Component) (rel : Relation) (b : ℕ)
      → exclude_values width m (d + o) (map (raise_member d) ms) x rel b ≡ up (exclude_values width m o ms x rel b)
  values_up o ms x rel b = maps_each (raise_item d) (group_size m x) _ _ (λ v. go v (meets rel v b))
    where
      go : (v : ℕ) (t : Bool) → cond t [] (rule (map (raise_member d) ms ++ (state_member width m (d + o) x v ∷ [])) None ∷ [])
          ≡ up (cond t [] (rule (ms ++ (state_member width m o x v ∷ [])) None ∷ []))
      go v true = refl
      go v false =
          let failing = state_member width m o x v ∷ [] in
          let same = ap (λ (y : Member). y ∷ []) (state_up o x v) in
          ap (λ (l : List Member). rule l None ∷ []) (map_two (raise_member d) ms failing refl same)

  -- An atom.
  atom_up : (o : ℕ) (ms : List Member) (t : Atom) → exclude_failing width m (d + o) (map (raise_member d) ms) t ≡ up (exclude_failing width m o ms t)
  atom_up o ms Blank = refl
  atom_up o ms (OnClock x rel b) = values_up o ms (clock x) rel b
  atom_up o ms (OnCounter x rel b) = values_up o ms (counter x) rel b

  -- The atoms of an invariant or a guard, beside the location or the choice that they belong to.
  atoms_up : (o : ℕ) {y : Member} (x : Member) (atoms : List Atom) → y ≡ raise_member d x
      → exclude_all_failing width m (d + o) (y ∷ []) atoms ≡ up (exclude_all_failing width m o (x ∷ []) atoms)
  atoms_up o x atoms e =
      ap (λ (y : Member). exclude_all_failing width m (d + o) (y ∷ []) atoms) e
      ∙ maps_each (raise_item d) 4 _ _ (λ k. atom_up o (x ∷ []) (atom_at atoms k))

  -- The invariant of a location.
  invariant_up : (o l : ℕ) → invariant_of width m (d + o) l ≡ up (invariant_of width m o l)
  invariant_up o l = atoms_up o (state_member width m o loc l) (invariant_at m l) (state_up o loc l)

  -- ---- a step
  -- The group of the choice.
  choice_items_up : (o : ℕ) → choice_items width m (d + o) ≡ up (choice_items width m o)
  unfolding choice_items
  choice_items_up o = ap (λ (b : ℕ). group b (choices m) ∷ []) (add_assoc d o (state_width width m))

  -- Choice c takes each value v of component x, in any state block, to f v.
  leads_up : (before o c : ℕ) (x y : Component) (f : ℕ → Option ℕ)
      → leads width m (d + before) (d + o) c x y f ≡ up (leads width m before o c x y f)
  leads_up before o c x y f = maps_each (raise_item d) (group_size m x) _ _ (λ v.
      ap₂ (λ (l : List Member) (u : Option Member). rule l u ∷ [])
      (ap₂ (λ (a b : Member). a ∷ b ∷ []) (choice_up o c) (state_up before x v)) (after_up o y (f v)))

  -- Choice c sets a component to a value.
  sets_up : (o c : ℕ) (y : Component) (v : Option ℕ) → sets_to width m (d + o) c y v ≡ up (sets_to width m o c y v)
  sets_up o c y v = ap₂ (λ (a : Member) (u : Option Member). rule (a ∷ []) u ∷ []) (choice_up o c) (after_up o y v)

  -- Delay t.
  delay_up : (o t : ℕ) → delay_items width m (d + o) t ≡ up (delay_items width m o t)
  unfolding delay_items
  delay_up o t =
      let D : ℕ → Component → List Item = λ o x. leads width m o o t x x (λ v. Some (delayed_value m t x v)) in
      maps_over (raise_item d) m (D (d + o)) (D o) (λ x. leads_up o o t x x (λ v. Some (delayed_value m t x v)))

  -- The state block in which an update reads its source.
  read_up : (after : Bool) (o : ℕ) → cond after (next_block width m (d + o)) (d + o) ≡ d + cond after (next_block width m o) o
  read_up true o = omega arith
  read_up false o = refl

  -- A counter's update.
  update_up : (o c : ℕ) (order : List ℕ) (i : ℕ) (u : Update) → update_items width m (d + o) c order i u ≡ up (update_items width m o c order i u)
  update_up o c order i Keep = leads_up o o c (counter i) (counter i) Some
  update_up o c order i (Constant n) = sets_up o c (counter i) (in_range (counter_at m i).greatest n)
  update_up o c order i (Sum w z) =
      let to : ℕ → Option ℕ = shifted z (counter_at m i).greatest in
      ap (λ (b : ℕ). leads width m b (d + o) c (counter w) (counter i) to) (read_up (set_earlier order w i) o)
      ∙ leads_up (read_block width m o order w i) o c (counter w) (counter i) to

  -- A clock's update.
  reset_up : (o c i : ℕ) (u : ClockUpdate) → reset_items width m (d + o) c i u ≡ up (reset_items width m o c i u)
  reset_up o c i Unchanged = leads_up o o c (clock i) (clock i) Some
  reset_up o c i Reset = sets_up o c (clock i) (Some 0)
  reset_up o c i (Copy w) = leads_up o o c (clock w) (clock i) Some

  -- An edge.
  edge_up : (o c : ℕ) (e : Edge) → edge_items width m (d + o) c e ≡ up (edge_items width m o c e)
  unfolding edge_items source_items target_items guard_items updates_items resets_items
  edge_up o c e =
      let source = source_items width m o c e in
      let target = target_items width m o c e in
      let guard = guard_items width m o c e in
      let updates = updates_items width m o c e in
      let resets = resets_items width m o c e in
      let R = raise_item d in
      map_two R (source ++ target ++ guard ++ updates) resets (
      map_two R (source ++ target ++ guard) updates (
      map_two R (source ++ target) guard (
      map_two R source target
      (ap₂ (λ (a b : Member). rule (a ∷ []) (Some b) ∷ []) (choice_up o c) (state_up o loc e.source))
      (sets_up o c loc (Some e.target)))
      (atoms_up o (choice_member width m o c) e.guard (choice_up o c)))
      (maps_each R m.vars _ _ (λ i. update_up o c e.order i (update_at e i))))
      (maps_each R m.clocks _ _ (λ i. reset_up o c i (reset_at e i)))

-- ---- the clauses of a piece from the state block at d + o, in the first layout
module _ (m : Model) where
  module _ (d o : ℕ) where
    -- The invariant of location l.
    pub invariant_raised : (l : ℕ) → clauses_of (invariant_of one_hot_width m (d + o) l) ≡ raised d (clauses_of (invariant_of one_hot_width m o l))
    invariant_raised l = items_raised d _ (invariant_up one_hot_width m d o l)

    -- The group of the choice.
    pub choice_raised : clauses_of (choice_items one_hot_width m (d + o)) ≡ raised d (clauses_of (choice_items one_hot_width m o))
    choice_raised = items_raised d _ (choice_items_up one_hot_width m d o)

    -- Delay t.
    pub delay_raised : (t : ℕ) → clauses_of (delay_items one_hot_width m (d + o) t) ≡ raised d (clauses_of (delay_items one_hot_width m o t))
    delay_raised t = items_raised d _ (delay_up one_hot_width m d o t)

    -- Edge e.
    pub edge_raised : (e : ℕ) → clauses_of (edge_of one_hot_width m (d + o) e) ≡ raised d (clauses_of (edge_of one_hot_width m o e))
    edge_raised e = items_raised d _ (edge_up one_hot_width m d o (ceiling m + 1 + e) (edge_at m e))

  -- The end of the list for k is that of the list for 0, raised to state k.
  pub end_raised : (k : ℕ) → clauses_of (end_items one_hot_width m k) ≡ raised (block_at one_hot_width m k) (clauses_of (end_items one_hot_width m 0))
  unfolding end_items
  end_raised k =
      let d : ℕ = block_at one_hot_width m k in
      let e : d + 0 ≡ d + (block_at one_hot_width m 0 + 0) = omega arith in
      items_raised d _ (ap (λ (b : ℕ). rule [] (Some (member b m.locations m.target)) ∷ []) e)
