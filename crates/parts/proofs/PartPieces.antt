-- The parts of atoms, delays and edges have the clauses of the list's pieces.
use mathlib.Core.Path.{◌≡◌, refl, sym, ap, ap₂, subst, ◌∙◌}
use mathlib.Core.Bool.{Bool, true, false, cond}
use mathlib.Core.List.{List, [], ◌∷◌, ◌++◌, map}
use Rattle.std.specs.Prelude.{Some}
use Prim.Native.Nat.{ℕ, ◌+◌, ◌≤◌, ◌<◌}
use native.Mathlib.Omega.{arith}
use borrow.Author.Tests.{lt-ltb, le-ltb}
use lib.Dec.{leb, ltb}
use Rattle.model.specs.declared.Relation.{Relation}
use Rattle.model.specs.declared.Atom.{Atom}
use Rattle.model.specs.declared.Atom.TheVariants.{Blank, OnClock, OnCounter}
use Rattle.model.specs.declared.Update.{Update}
use Rattle.model.specs.declared.Update.TheVariants.{Constant, Sum, Keep as KeepIt}
use Rattle.model.specs.declared.ClockUpdate.{ClockUpdate}
use Rattle.model.specs.declared.ClockUpdate.TheVariants.{Unchanged, Reset, Copy}
use Rattle.model.specs.declared.Edge.{Edge}
use Rattle.model.specs.declared.Model.{Model}
use Rattle.model.specs.Indexed.{each, only_if}
use Rattle.model.specs.Record.{atom_at, update_at, reset_at, counter_at}
use Rattle.model.specs.Automaton.{ceiling, Component, loc, counter, clock, group_size, initial_value, delayed_value, state_size, choices, shifted, in_range}
use Rattle.model.specs.Automaton.{set_earlier}
use Rattle.model.proofs.IndexedLaws.{each_zero, each_suc}
use Rattle.model.proofs.FormLaws.{WellFormed, WellFormedEdge, DeclaredAtom, DeclaredUpdate, DeclaredReset}
use Rattle.list.specs.Lists.{to_list}
use Rattle.list.specs.Items.{Member, offset, next_block, state_width, choice_member, exclude_failing, group_items, initial_items, delay_items}
use Rattle.list.specs.Items.{update_items, reset_items, source_items, target_items, guard_items, read_block, updates_items, resets_items, edge_items}
use Rattle.list.specs.Clauses.{bare, negated, Clause, one, one_hot_width, variable_of, group_clauses, expand, clauses_of}
use Rattle.list.proofs.ListLaws.{each_add, each_cong, flat_none}
use Rattle.list.proofs.OneHot.{next_block_is}
use Rattle.list.proofs.PieceClauses.{groups_piece, initial_piece_lem, values_piece, delay_piece_lem, leads_piece, sets_piece, edge_piece_lem}
use Rattle.list.proofs.PieceClauses.{source_piece, target_piece, guard_piece, updates_piece, resets_piece}
use Rattle.parts.specs.declared.Rule.{Rule}
use Rattle.parts.specs.declared.Rule.TheVariants.{Exclude, Keep, Rise, Shift, Set, Forbid}
use Rattle.parts.specs.Rules.{rule_clauses, row_clauses, value_clauses, part_clauses}
use Rattle.parts.specs.StateBlock.{component_at, group_table, first_at, size_at}
use Rattle.parts.specs.PartsOf.{next_at, exclude_part, atom_part, leads_part, delay_part, set_part, greatest_at, read_at, update_part, reset_part, edge_part}
use Rattle.parts.proofs.GroupLaws.{group_cases, comp_counter, comp_clock, first_is, size_is, over_groups}
use Rattle.parts.proofs.EdgeParts.{source_part, target_part, guard_part, counter_part, clock_part}

each_one : {A : Type 0} (f : ℕ → List A) → each 1 f ≡ f 0
each_one f = each_suc 0 f ∙ ap (λ (l : List _). l ++ f 0) (each_zero f)

-- a part is its rule for each value
pub part_is : (x y z n w : ℕ) (rule : Rule) → part_clauses x (record { rule = rule; before = y; size = n; after = z; into = w }) ≡ row_clauses x y z n rule
unfolding part_clauses value_clauses
part_is x y z n w rule = refl

pub set_is : (x z w : ℕ) (rule : Rule) → part_clauses x (set_part z w rule) ≡ rule_clauses x 0 z 0 rule
set_is x z w rule = part_is x 0 z 1 w rule ∙ each_one (λ v. rule_clauses x (0 + v) z v rule)

-- a constant in range is put, one out of range forbids the choice
pub constant_is : (x z n : ℕ) (b : Bool) → rule_clauses x 0 z 0 (cond b (Set n) Forbid) ≡ one (negated x ∷ map (λ u. bare (z + u)) (to_list (only_if b n)))
constant_is x z n true = refl
constant_is x z n false = refl

module _ (m : Model) where
  abbrev S : ℕ
  S = state_width one_hot_width m

  abbrev at : Component → ℕ
  at = offset one_hot_width m

  abbrev after : ℕ → ℕ
  after = next_block one_hot_width m

  -- ---- the table's numbers
  pub groups_are : (group_table m).groups ≡ 1 + m.vars + m.clocks
  unfolding group_table
  groups_are = refl

  pub vars_are : (group_table m).vars ≡ m.vars
  unfolding group_table
  vars_are = refl

  pub top_is : (group_table m).top ≡ ceiling m
  unfolding group_table
  top_is = refl

  pub state_is : (group_table m).state ≡ state_size m
  unfolding group_table
  state_is = refl

  pub choices_are : (group_table m).choices ≡ choices m
  unfolding group_table
  choices_are = refl

  pub greatest_is : (i : ℕ) → greatest_at (group_table m) i ≡ (counter_at m i).greatest
  unfolding group_table
  greatest_is i = refl

  pub next_is : (o : ℕ) → next_at (group_table m) o ≡ after o
  unfolding group_table
  next_is o = sym (next_block_is m o)

  -- ---- groups
  pub groups_law : (o : ℕ) → m.vars ≤ 4 → m.clocks ≤ 4
      → each (group_table m).groups (λ g. group_clauses (o + first_at (group_table m) g) (size_at (group_table m) g))
      ≡ clauses_of (group_items one_hot_width m o)
  groups_law o p q =
      ap (λ (n : ℕ). each n (λ g. group_clauses (o + first_at (group_table m) g) (size_at (group_table m) g))) groups_are ∙
      each_cong (1 + m.vars + m.clocks) (λ g. group_clauses (o + first_at (group_table m) g) (size_at (group_table m) g))
      (λ g. group_clauses (o + at (component_at m g)) (group_size m (component_at m g)))
      (λ g l. let k : g < 9 = omega arith in ap₂ (λ (s n : ℕ). group_clauses (o + s) n) (first_is m g k) (size_is m g k)) ∙
      over_groups m (λ x. group_clauses (o + at x) (group_size m x)) ∙ sym (groups_piece m o)

  pub initial_law : m.vars ≤ 4 → m.clocks ≤ 4
      → each (group_table m).groups (λ g. one (bare (first_at (group_table m) g + initial_value m (component_at m g)) ∷ []))
      ≡ clauses_of (initial_items one_hot_width m)
  initial_law p q =
      ap (λ (n : ℕ). each n (λ g. one (bare (first_at (group_table m) g + initial_value m (component_at m g)) ∷ []))) groups_are ∙
      each_cong (1 + m.vars + m.clocks) (λ g. one (bare (first_at (group_table m) g + initial_value m (component_at m g)) ∷ []))
      (λ g. one (bare (0 + at (component_at m g) + initial_value m (component_at m g)) ∷ []))
      (λ g l. let k : g < 9 = omega arith in
      let e : first_at (group_table m) g + initial_value m (component_at m g) ≡ 0 + at (component_at m g) + initial_value m (component_at m g) = omega
      (arith, first_is m g k) in
      ap (λ (n : ℕ). one (bare n ∷ [])) e) ∙
      over_groups m (λ x. one (bare (0 + at x + initial_value m x) ∷ [])) ∙ sym (initial_piece_lem m)

  -- ---- parts of groups
  leads_is : (x from o g h : ℕ) (rule : Rule) → g < 9 → h < 9
      → part_clauses x (leads_part (group_table m) from o g h rule)
      ≡ row_clauses x (from + at (component_at m g)) (after o + at (component_at m h)) (group_size m (component_at m g)) rule
  leads_is x from o g h rule p q =
      let b = group_table m in
      part_is x (from + first_at b g) (next_at b o + first_at b h) (size_at b g) (size_at b h) rule ∙
      ap₂ (λ (y n : ℕ). row_clauses x (from + y) (next_at b o + first_at b h) n rule) (first_is m g p) (size_is m g p) ∙
      ap₂ (λ (y z : ℕ). row_clauses x (from + at (component_at m g)) (y + z) (group_size m (component_at m g)) rule) (next_is o) (first_is m h q)

  exclude_is : (x o g : ℕ) (relation : Relation) (constant : ℕ) → g < 9
      → part_clauses x (exclude_part (group_table m) o g relation constant)
      ≡ row_clauses x (o + at (component_at m g)) 0 (group_size m (component_at m g)) (Exclude relation constant)
  exclude_is x o g relation constant p =
      let b = group_table m in
      part_is x (o + first_at b g) 0 (size_at b g) 0 (Exclude relation constant) ∙
      ap₂ (λ (y n : ℕ). row_clauses x (o + y) 0 n (Exclude relation constant)) (first_is m g p) (size_is m g p)

  -- the same, by the component
  leads_from : (x from o : ℕ) (rule : Rule) {g h : ℕ} {y z : Component} → g < 9 → h < 9 → component_at m g ≡ y → component_at m h ≡ z
      → part_clauses x (leads_part (group_table m) from o g h rule) ≡ row_clauses x (from + at y) (after o + at z) (group_size m y) rule
  leads_from x from o rule {g} {h} p q e f =
      leads_is x from o g h rule p q ∙ ap₂ (λ (y z : Component). row_clauses x (from + at y) (after o + at z) (group_size m y) rule) e f

  exclude_from : (x o : ℕ) (relation : Relation) (constant : ℕ) {g : ℕ} {y : Component} → g < 9 → component_at m g ≡ y
      → part_clauses x (exclude_part (group_table m) o g relation constant) ≡ row_clauses x (o + at y) 0 (group_size m y) (Exclude relation constant)
  exclude_from x o relation constant {g} p e =
      exclude_is x o g relation constant p ∙ ap (λ (y : Component). row_clauses x (o + at y) 0 (group_size m y) (Exclude relation constant)) e

  module _ (ok : WellFormed m) where
    -- ---- an atom
    pub atom_law : (o : ℕ) (y : Member) (atom : Atom) → DeclaredAtom m atom
        → part_clauses (variable_of y) (atom_part (group_table m) o atom) ≡ clauses_of (exclude_failing one_hot_width m o (y ∷ []) atom)
    atom_law o y Blank d = part_is (variable_of y) 0 0 0 0 Forbid ∙ each_zero _ ∙ sym (flat_none expand)
    atom_law o y (OnClock x relation constant) d =
        ap (λ (k : ℕ). part_clauses (variable_of y) (exclude_part (group_table m) o (1 + k + x) relation constant)) vars_are ∙
        exclude_from (variable_of y) o relation constant (omega (arith, ok.vars_le, ok.clocks_le)) (comp_clock m x) ∙ sym
        (values_piece m o y (clock x) relation constant)
    atom_law o y (OnCounter x relation constant) d =
        exclude_from (variable_of y) o relation constant (omega (arith, ok.vars_le)) (comp_counter m x d)
        ∙ sym (values_piece m o y (counter x) relation constant)

    -- ---- a delay
    delay_row : ℕ → ℕ → Component → List Clause
    delay_row o d x = each (group_size m x) (λ v. one (negated (o + S + d) ∷ negated (o + at x + v) ∷ bare (after o + at x + delayed_value m d x v) ∷ []))

    delay_at : (o d g : ℕ) → g < 1 + m.vars + m.clocks → part_clauses (o + S + d) (delay_part (group_table m) o d g) ≡ delay_row o d (component_at m g)
    unfolding delay_row
    delay_at o d g l = group_cases m.vars g
        (λ e. rule_is Keep (lt-ltb g (1 + m.vars) (omega arith)) refl ∙ leads_from (o + S + d) o o Keep k k (ap (component_at m) e) (ap (component_at m) e)
        ∙ sym (ap (delay_row o d) (ap (component_at m) e)))
        (λ i p e. let z : component_at m g ≡ counter i = ap (component_at m) e ∙ comp_counter m i p in
        rule_is Keep (lt-ltb g (1 + m.vars) (omega arith)) refl ∙ leads_from (o + S + d) o o Keep k k z z ∙ sym (ap (delay_row o d) z))
        (λ i e. let z : component_at m g ≡ clock i = ap (component_at m) e ∙ comp_clock m i in
        rule_is (Rise d (ceiling m)) (le-ltb g (1 + m.vars) (omega arith)) refl ∙ leads_from (o + S + d) o o (Rise d (ceiling m)) k k z z
        ∙ sym (ap (delay_row o d) z))
      where
        k : g < 9
        k = omega (arith, ok.vars_le, ok.clocks_le)

        pick : Bool → Rule
        pick b = cond b Keep (Rise d (ceiling m))

        rule_is : {b : Bool} (rule : Rule) → ltb g (1 + m.vars) ≡ b → pick b ≡ rule
            → part_clauses (o + S + d) (delay_part (group_table m) o d g) ≡ part_clauses (o + S + d) (leads_part (group_table m) o o g g rule)
        rule_is {b} rule e f =
            ap₂ (λ (v t : ℕ). part_clauses (o + S + d) (leads_part (group_table m) o o g g (cond (ltb g (1 + v)) Keep (Rise d t)))) vars_are top_is ∙
            ap (λ (c : Bool). part_clauses (o + S + d) (leads_part (group_table m) o o g g (pick c))) e
            ∙ ap (λ (r : Rule). part_clauses (o + S + d) (leads_part (group_table m) o o g g r)) f

    pub delay_law : (o d : ℕ)
        → each (group_table m).groups (λ g. part_clauses (o + S + d) (delay_part (group_table m) o d g)) ≡ clauses_of (delay_items one_hot_width m o d)
    unfolding delay_row
    delay_law o d =
        ap (λ (n : ℕ). each n (λ g. part_clauses (o + S + d) (delay_part (group_table m) o d g))) groups_are ∙
        each_cong (1 + m.vars + m.clocks) (λ g. part_clauses (o + S + d) (delay_part (group_table m) o d g)) (λ g. delay_row o d (component_at m g))
        (delay_at o d) ∙
        over_groups m (delay_row o d) ∙ sym (delay_piece_lem m o d)

    -- ---- an edge
    read_is : (o : ℕ) (order : List ℕ) (w i : ℕ) → read_at (group_table m) o order w i ≡ read_block one_hot_width m o order w i
    read_is o order w i = ap (λ (b : ℕ). cond (set_earlier order w i) b o) (next_is o)

    pub update_law : (o c : ℕ) (order : List ℕ) (i : ℕ) (u : Update) → i < m.vars → DeclaredUpdate m u
        → part_clauses (o + S + c) (update_part (group_table m) o order i u) ≡ clauses_of (update_items one_hot_width m o c order i u)
    update_law o c order i KeepIt l d =
        leads_from (o + S + c) o o Keep (omega (arith, ok.vars_le)) (omega (arith, ok.vars_le)) (comp_counter m i l) (comp_counter m i l) ∙ sym
        (leads_piece m o o c (counter i) (counter i) Some)
    update_law o c order i (Constant n) l d =
        let e : next_at (group_table m) o + first_at (group_table m) (1 + i) ≡ after o + at (counter i) =
        ap₂ (λ (a b : ℕ). a + b) (next_is o) (first_is m (1 + i) (omega (arith, ok.vars_le)) ∙ ap at (comp_counter m i l)) in
        set_is (o + S + c) _ _ _ ∙ ap₂ (λ (z g : ℕ). rule_clauses (o + S + c) 0 z 0 (cond (leb n g) (Set n) Forbid)) e (greatest_is i) ∙
        constant_is (o + S + c) (after o + at (counter i)) n (leb n (counter_at m i).greatest) ∙ sym
        (sets_piece m o c (counter i) (in_range (counter_at m i).greatest n))
    update_law o c order i (Sum w z) l d =
        let from = read_block one_hot_width m o order w i in
        ap₂ (λ (b g : ℕ). part_clauses (o + S + c) (leads_part (group_table m) b o (1 + w) (1 + i) (Shift z g))) (read_is o order w i) (greatest_is i) ∙
        leads_from (o + S + c) from o (Shift z (counter_at m i).greatest) (omega (arith, ok.vars_le)) (omega (arith, ok.vars_le)) (comp_counter m w d)
        (comp_counter m i l) ∙ sym
        (leads_piece m from o c (counter w) (counter i) (shifted z (counter_at m i).greatest))

    pub reset_law : (o c i : ℕ) (u : ClockUpdate) → i < m.clocks → DeclaredReset m u
        → part_clauses (o + S + c) (reset_part (group_table m) o i u) ≡ clauses_of (reset_items one_hot_width m o c i u)
    reset_law o c i Unchanged l d =
        let k : 1 + m.vars + i < 9 = omega (arith, ok.vars_le, ok.clocks_le) in
        ap (λ (v : ℕ). part_clauses (o + S + c) (leads_part (group_table m) o o (1 + v + i) (1 + v + i) Keep)) vars_are ∙
        leads_from (o + S + c) o o Keep k k (comp_clock m i) (comp_clock m i) ∙ sym (leads_piece m o o c (clock i) (clock i) Some)
    reset_law o c i Reset l d =
        let k : 1 + m.vars + i < 9 = omega (arith, ok.vars_le, ok.clocks_le) in
        let e : next_at (group_table m) o + first_at (group_table m) (1 + (group_table m).vars + i) ≡ after o + at (clock i) =
        ap₂ (λ (a b : ℕ). a + b) (next_is o)
        (ap (λ (v : ℕ). first_at (group_table m) (1 + v + i)) vars_are ∙ first_is m (1 + m.vars + i) k ∙ ap at (comp_clock m i)) in
        set_is (o + S + c) _ _ _ ∙ ap (λ (z : ℕ). rule_clauses (o + S + c) 0 z 0 (Set 0)) e ∙ sym (sets_piece m o c (clock i) (Some 0))
    reset_law o c i (Copy w) l d =
        let g : 1 + m.vars + w < 9 = omega (arith, ok.vars_le, ok.clocks_le) in
        let k : 1 + m.vars + i < 9 = omega (arith, ok.vars_le, ok.clocks_le) in
        ap (λ (v : ℕ). part_clauses (o + S + c) (leads_part (group_table m) o o (1 + v + w) (1 + v + i) Keep)) vars_are ∙
        leads_from (o + S + c) o o Keep g k (comp_clock m w) (comp_clock m i) ∙ sym (leads_piece m o o c (clock w) (clock i) Some)

    module _ (o c : ℕ) (e : Edge) (w : WellFormedEdge m e) where
      abbrev x : ℕ
      x = o + S + c

      abbrev F : ℕ → List Clause
      F j = part_clauses x (edge_part (group_table m) e o j)

      source_law : F 0 ≡ clauses_of (source_items one_hot_width m o c e)
      source_law =
          let z : o + e.source ≡ o + at loc + e.source = omega arith in
          ap (part_clauses x) (source_part (group_table m) e o) ∙ set_is x o _ (Set e.source) ∙ ap (λ (n : ℕ). one (negated x ∷ bare n ∷ [])) z
          ∙ sym (source_piece m o c e)

      target_law : F 1 ≡ clauses_of (target_items one_hot_width m o c e)
      target_law =
          let z : next_at (group_table m) o + e.target ≡ after o + at loc + e.target = omega (arith, next_is o) in
          ap (part_clauses x) (target_part (group_table m) e o) ∙ set_is x (next_at (group_table m) o) _ (Set e.target)
          ∙ ap (λ (n : ℕ). one (negated x ∷ bare n ∷ [])) z ∙ sym
          (target_piece m o c e)

      guard_law : each 4 (λ k. F (2 + k)) ≡ clauses_of (guard_items one_hot_width m o c e)
      guard_law =
          each_cong 4 (λ k. F (2 + k)) (λ k. clauses_of (exclude_failing one_hot_width m o (choice_member one_hot_width m o c ∷ []) (atom_at e.guard k)))
          (λ k l. ap (part_clauses x) (guard_part (group_table m) e o k l) ∙ atom_law o (choice_member one_hot_width m o c) (atom_at e.guard k)
          (w.guard_ok k l)) ∙ sym (guard_piece m o c e)

      updates_law : each m.vars (λ i. F (6 + i)) ≡ clauses_of (updates_items one_hot_width m o c e)
      updates_law =
          each_cong m.vars (λ i. F (6 + i)) (λ i. clauses_of (update_items one_hot_width m o c e.order i (update_at e i)))
          (λ i l. ap (part_clauses x) (counter_part (group_table m) e o i (subst (λ (n : ℕ). i < n) (sym vars_are) l)) ∙ update_law o c e.order i
          (update_at e i) l (w.sets_ok i l)) ∙ sym
          (updates_piece m o c e)

      resets_law : each m.clocks (λ i. F (6 + m.vars + i)) ≡ clauses_of (resets_items one_hot_width m o c e)
      resets_law =
          each_cong m.clocks (λ i. F (6 + m.vars + i)) (λ i. clauses_of (reset_items one_hot_width m o c i (reset_at e i)))
          (λ i l. ap (λ (v : ℕ). F (6 + v + i)) (sym vars_are) ∙ ap (part_clauses x) (clock_part (group_table m) e o i)
          ∙ reset_law o c i (reset_at e i) l (w.resets_ok i l))
          ∙ sym (resets_piece m o c e)

      pub edge_law : each ((group_table m).groups + 5) F ≡ clauses_of (edge_items one_hot_width m o c e)
      edge_law =
          let n : (group_table m).groups + 5 ≡ 6 + m.vars + m.clocks = omega (arith, groups_are) in
          ap (λ (k : ℕ). each k F) n ∙ each_add (6 + m.vars) m.clocks F ∙
          ap₂ (λ (l r : List Clause). l ++ r)
          (each_add 6 m.vars F ∙ ap₂ (λ (l r : List Clause). l ++ r) (each_add 2 4 F ∙ ap₂ (λ (l r : List Clause). l ++ r)
          (each_suc 1 F ∙ ap₂ (λ (l r : List Clause). l ++ r) (each_one F ∙ source_law) target_law)
          guard_law) updates_law) resets_law ∙ sym (edge_piece_lem m o c e)
