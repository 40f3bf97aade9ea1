-- The groups of a state block: where each begins, and that it lies in the block.
use mathlib.Core.Path.{◌≡◌, refl, sym, ap, subst, ◌∙◌}
use mathlib.Core.Logic.{⊎_elim}
use mathlib.Core.Bool.{Bool, false, cond}
use mathlib.Core.List.{List, ◌++◌}
use Prim.Native.Nat.{ℕ, zero, suc, ◌+◌, ◌-◌, ◌*◌, ◌≤◌, ◌<◌}
use native.Mathlib.Numerals.{suc-eq-add-one}
use native.Mathlib.Omega.{arith}
use borrow.Author.Tests.{lt-ltb, le-ltb, ne_eqb}
use lib.Dec.{eqb, ltb}
use lib.ListN.{get_or-eq_default}
use Rattle.model.specs.declared.Model.{Model}
use Rattle.model.specs.Indexed.{each, list_below, sum_below}
use Rattle.model.specs.Record.{counter_at}
use Rattle.model.specs.Automaton.{ceiling, Component, loc, counter, clock, group_size, state_size}
use Rattle.model.proofs.IndexedLaws.{lt_or_le, get_d_list, length_list, sum_none, sum_more, sum_mono, sum_below_lem, each_zero}
use Rattle.model.proofs.FormLaws.{WellFormed, state_size_is, state_size_le, choices_le}
use Rattle.list.specs.Items.{offset, over_components}
use Rattle.list.specs.Clauses.{one_hot_width}
use Rattle.list.proofs.ListLaws.{each_add, each_cong, each_more}
use Rattle.parts.specs.declared.Group.{Group}
use Rattle.parts.specs.StateBlock.{component_at, empty_group, group_at, group_table, first_at, size_at, Bounded}

-- ---- the components by number
pub group_cases : {C : Type 0} (vars g : ℕ) → (g ≡ 0 → C) → ((i : ℕ) → i < vars → g ≡ 1 + i → C) → ((i : ℕ) → g ≡ 1 + vars + i → C) → C
group_cases vars zero a b d = a refl
group_cases vars (suc i) a b d = ⊎_elim (λ l. b i l (omega arith)) (λ l. d (i - vars) (omega arith)) (lt_or_le i vars)

module _ (m : Model) where
  after_first : (i : ℕ) → component_at m (1 + i) ≡ cond (ltb i m.vars) (counter i) (clock (i - m.vars))
  after_first i =
      let e : 1 + i - 1 ≡ i = omega arith in
      let z : eqb (1 + i) 0 ≡ false = ne_eqb (1 + i) 0 (λ q. omega arith) in
      ap (λ (b : Bool). cond b loc (cond (ltb (1 + i - 1) m.vars) (counter (1 + i - 1)) (clock (1 + i - 1 - m.vars)))) z ∙ ap
      (λ (k : ℕ). cond (ltb k m.vars) (counter k) (clock (k - m.vars))) e

  pub comp_counter : (i : ℕ) → i < m.vars → component_at m (1 + i) ≡ counter i
  comp_counter i l = after_first i ∙ ap (λ (b : Bool). cond b (counter i) (clock (i - m.vars))) (lt-ltb i m.vars l)

  pub comp_clock : (i : ℕ) → component_at m (1 + m.vars + i) ≡ clock i
  comp_clock i =
      let e : 1 + m.vars + i ≡ 1 + (m.vars + i) = omega arith in
      let d : m.vars + i - m.vars ≡ i = omega arith in
      ap (component_at m) e ∙ after_first (m.vars + i) ∙ ap (λ (b : Bool). cond b (counter (m.vars + i)) (clock (m.vars + i - m.vars)))
      (le-ltb (m.vars + i) m.vars (omega arith)) ∙ ap clock d

  -- ---- where a group begins
  abbrev counter_size : ℕ → ℕ
  counter_size j = group_size m (counter j)

  abbrev beginning : ℕ → ℕ
  beginning g = offset one_hot_width m (component_at m g)

  abbrev many : ℕ → ℕ
  many g = group_size m (component_at m g)

  at_counter : (i : ℕ) → i ≤ m.vars → beginning (1 + i) ≡ m.locations + sum_below counter_size i
  at_counter i l = ⊎_elim
      (λ p. ap (offset one_hot_width m) (comp_counter i p))
      (λ p. let e : i ≡ m.vars = omega arith in
      let z : 1 + i ≡ 1 + m.vars + 0 = omega arith in
      ap beginning z ∙ ap (offset one_hot_width m) (comp_clock 0) ∙ omega (arith, ap (sum_below counter_size) e)) (lt_or_le i m.vars)

  at_clock : (i : ℕ) → beginning (1 + m.vars + i) ≡ m.locations + sum_below counter_size m.vars + i * (ceiling m + 1)
  at_clock i = ap (offset one_hot_width m) (comp_clock i)

  -- ---- how many members a group has
  pub size_loc : (g : ℕ) → g ≡ 0 → m.locations ≡ many g
  size_loc g e = sym (ap many e)

  pub size_counter : (g : ℕ) → (g ≡ 0 → ⊥) → g - 1 < m.vars → (counter_at m (g - 1)).greatest + 1 ≡ many g
  size_counter g e l =
      let z : g ≡ 1 + (g - 1) = omega arith in
      sym (ap many z ∙ ap (group_size m) (comp_counter (g - 1) l))

  pub size_clock : (g : ℕ) → (g ≡ 0 → ⊥) → m.vars ≤ g - 1 → ceiling m + 1 ≡ many g
  size_clock g e l =
      let z : g ≡ 1 + m.vars + (g - 1 - m.vars) = omega arith in
      sym (ap many z ∙ ap (group_size m) (comp_clock (g - 1 - m.vars)))

  -- a group begins where the one before it ends
  pub begins_next : (g : ℕ) → beginning (g + 1) ≡ beginning g + many g
  begins_next g = group_cases m.vars g
      (λ e. subst (λ (k : ℕ). beginning (k + 1) ≡ beginning k + many k) (sym e) (omega (arith, at_counter 0 (omega arith), sum_none counter_size)))
      (λ i l e. subst (λ (k : ℕ). beginning (k + 1) ≡ beginning k + many k) (sym e) (in_counters i l))
      (λ i e. subst (λ (k : ℕ). beginning (k + 1) ≡ beginning k + many k) (sym e) (in_clocks i))
    where
      in_counters : (i : ℕ) → i < m.vars → beginning (1 + i + 1) ≡ beginning (1 + i) + many (1 + i)
      in_counters i l =
          let z : 1 + i + 1 ≡ 1 + (i + 1) = omega arith in
          let s : many (1 + i) ≡ counter_size i = ap (group_size m) (comp_counter i l) in
          ap beginning z ∙ omega (arith, at_counter (i + 1) (omega arith), at_counter i (omega arith), sum_more counter_size i, s)

      in_clocks : (i : ℕ) → beginning (1 + m.vars + i + 1) ≡ beginning (1 + m.vars + i) + many (1 + m.vars + i)
      in_clocks i =
          let z : 1 + m.vars + i + 1 ≡ 1 + m.vars + (i + 1) = omega arith in
          let s : many (1 + m.vars + i) ≡ ceiling m + 1 = ap (group_size m) (comp_clock i) in
          ap beginning z ∙ omega (arith, at_clock (i + 1), at_clock i, s)

  -- a group begins after all that come before it
  pub begins_is : (g : ℕ) → sum_below many g ≡ beginning g
  begins_is zero = sum_none many
  begins_is (suc g) =
      ap (sum_below many) (suc-eq-add-one g) ∙ sum_more many g ∙ ap (λ (n : ℕ). n + many g) (begins_is g) ∙ sym (begins_next g)
      ∙ ap beginning (sym (suc-eq-add-one g))

  pub block_is : state_size m ≡ sum_below many (1 + m.vars + m.clocks)
  block_is = state_size_is m ∙ sym (at_clock m.clocks) ∙ sym (begins_is (1 + m.vars + m.clocks))

  -- a group lies in the state block
  pub group_in : (g : ℕ) → g < 1 + m.vars + m.clocks → beginning g + many g ≤ state_size m
  group_in g l = omega (arith, begins_is g, block_is, sum_mono many g (1 + m.vars + m.clocks) l)

  module _ (ok : WellFormed m) where
    pub many_le : (g : ℕ) → many g ≤ 32
    many_le g = group_cases m.vars g
        (λ e. subst (λ (k : ℕ). many k ≤ 32) (sym e) (omega (arith, ok.locations_le)))
        (λ i l e. subst (λ (k : ℕ). many k ≤ 32) (sym e)
        (subst (λ (x : Component). group_size m x ≤ 32) (sym (comp_counter i l)) (omega (arith, ok.greatest_le i l))))
        (λ i e. subst (λ (k : ℕ). many k ≤ 32) (sym e) (subst (λ (x : Component). group_size m x ≤ 32) (sym (comp_clock i)) (omega (arith, ok.ceiling_le))))

    pub beginning_le : (g : ℕ) → beginning g ≤ g * 32
    beginning_le g = omega (arith, begins_is g, sum_below_lem many g 32 (λ i l. many_le i))

  -- ---- the table
  pub first_is : (g : ℕ) → g < 9 → first_at (group_table m) g ≡ beginning g
  unfolding group_table
  first_is g l = ap (λ (x : Group). x.first) (get_d_list empty_group (group_at m) 9 g l)

  pub size_is : (g : ℕ) → g < 9 → size_at (group_table m) g ≡ many g
  unfolding group_table
  size_is g l = ap (λ (x : Group). x.size) (get_d_list empty_group (group_at m) 9 g l)

  first_past : (g : ℕ) → 9 ≤ g → first_at (group_table m) g ≡ 0
  unfolding group_table
  first_past g l = ap (λ (x : Group). x.first) (get_or-eq_default (list_below (group_at m) 9) empty_group (omega (arith, length_list (group_at m) 9)))

  size_past : (g : ℕ) → 9 ≤ g → size_at (group_table m) g ≡ 0
  unfolding group_table
  size_past g l = ap (λ (x : Group). x.size) (get_or-eq_default (list_below (group_at m) 9) empty_group (omega (arith, length_list (group_at m) 9)))

  -- ---- a piece for each component is a piece for each group
  pub over_groups : {A : Type 0} (f : Component → List A) → each (1 + m.vars + m.clocks) (λ g. f (component_at m g)) ≡ over_components m f
  over_groups {A} f =
      let F : ℕ → List A = λ g. f (component_at m g) in
      each_add (1 + m.vars) m.clocks F ∙ ap (λ (l : List A). l ++ each m.clocks (λ i. F (1 + m.vars + i)))
      (each_add 1 m.vars F ∙ ap (λ (l : List A). l ++ each m.vars (λ i. F (1 + i))) (each_more 0 F ∙ ap (λ (l : List A). l ++ F 0) (each_zero F)))
      ∙ ap (λ (l : List A). f loc ++ l ++ each m.clocks (λ i. F (1 + m.vars + i)))
      (each_cong m.vars (λ i. F (1 + i)) (λ i. f (counter i)) (λ i l. ap f (comp_counter i l)))
      ∙ ap (λ (l : List A). f loc ++ each m.vars (λ i. f (counter i)) ++ l)
      (each_cong m.clocks (λ i. F (1 + m.vars + i)) (λ i. f (clock i)) (λ i l. ap f (comp_clock i)))

  module _ (ok : WellFormed m) where
    groups_are : (group_table m).groups ≤ 5 + (group_table m).vars
    unfolding group_table
    groups_are = omega (arith, ok.clocks_le)

    vars_within : 1 + (group_table m).vars ≤ (group_table m).groups
    unfolding group_table
    vars_within = omega arith

    vars_are : (group_table m).vars ≤ 4
    unfolding group_table
    vars_are = ok.vars_le

    state_is : (group_table m).state ≤ 272
    unfolding group_table
    state_is = state_size_le m ok

    choices_are : (group_table m).choices ≤ 64
    unfolding group_table
    choices_are = choices_le m ok

    top_is : (group_table m).top ≤ 31
    unfolding group_table
    top_is = ok.ceiling_le

    pub bounded : Bounded (group_table m)
    bounded = record {
      vars_in = vars_within;
      groups_le = groups_are;
      vars_le = vars_are;
      first_le = λ g. ⊎_elim (λ l. omega (arith, first_is g l, beginning_le ok g)) (λ l. omega (arith, first_past g l)) (lt_or_le g 9);
      size_le = λ g. ⊎_elim (λ l. omega (arith, size_is g l, many_le ok g)) (λ l. omega (arith, size_past g l)) (lt_or_le g 9);
      state_le = state_is;
      choices_le = choices_are;
      top_le = top_is;
    }
