-- What the table of a well-formed model tells: where groups lie, which parts fit, and which pieces of the list they make.
use mathlib.Core.Path.{◌≡◌, sym, ap, ap₂, subst, ◌∙◌}
use mathlib.Core.Bool.{Bool, true, false, cond}
use mathlib.Core.List.{List, [], ◌∷◌, ◌++◌}
use Prim.Native.Nat.{ℕ, ◌+◌, ◌-◌, ◌*◌, ◌≤◌, ◌<◌}
use native.Mathlib.Nat.{mul-le-mul_right, suc-mul}
use native.Mathlib.Omega.{arith}
use lib.Dec.{ltb}
use lib.ListN.{length}
use Rattle.model.specs.declared.Atom.{Atom}
use Rattle.model.specs.declared.Atom.TheVariants.{Blank, OnClock, OnCounter}
use Rattle.model.specs.declared.Update.{Update}
use Rattle.model.specs.declared.Update.TheVariants.{Constant, Sum, Keep as KeepIt}
use Rattle.model.specs.declared.ClockUpdate.{ClockUpdate}
use Rattle.model.specs.declared.ClockUpdate.TheVariants.{Unchanged, Reset, Copy}
use Rattle.model.specs.declared.Model.{Model}
use Rattle.model.specs.Indexed.{each, sum_below}
use Rattle.model.specs.Record.{atom_at, invariant_at, edge_at, counter_at}
use Rattle.model.specs.Automaton.{ceiling, Component, loc, group_size, initial_value, state_size, choices, variables}
use Rattle.model.proofs.IndexedLaws.{length_each, sum_same}
use Rattle.model.proofs.FormLaws.{WellFormed, DeclaredAtom, DeclaredUpdate, DeclaredReset, formed, choices_is, variables_is}
use Rattle.list.specs.Items.{block_at, next_block, state_width, choice_width, state_items, edges_items, state_member, group_items, initial_items, invariant_of}
use Rattle.list.specs.Items.{invariant_items, exclude_failing, choice_items, delay_items, delays_items, edge_of}
use Rattle.list.specs.Clauses.{Clause, one_hot_width, group_clauses, clauses_of}
use Rattle.list.proofs.ListLaws.{each_cong}
use Rattle.list.proofs.OneHot.{state_width_is}
use Rattle.list.proofs.PieceClauses.{state_piece_lem, step_piece_lem, invariants_piece, atoms_piece, choice_piece, delays_piece}
use Rattle.parts.specs.declared.Rule.TheVariants.{Keep, Rise}
use Rattle.parts.specs.Rules.{part_clauses, Fits}
use Rattle.parts.proofs.PartLengths.{keep_length, rise_length}
use Rattle.parts.specs.declared.GroupTable.{GroupTable}
use Rattle.parts.specs.StateBlock.{component_at, group_table, first_at, size_at, Bounded}
use Rattle.parts.specs.PartsOf.{atom_part, leads_part, delay_part, edge_part, AtomIn, UpdateIn, ResetIn}
use Rattle.parts.proofs.GroupLaws.{size_is, comp_counter, comp_clock, bounded, group_cases, block_is}
use Rattle.parts.proofs.PartPieces.{groups_are, vars_are, top_is, state_is, choices_are, groups_law, initial_law, atom_law, delay_law, edge_law}
use Rattle.parts.proofs.PartFits.{group_fits, group_small, locations_in, atom_fits, delay_fits, edge_fits}
use Rattle.parts.specs.Pieces.{Known, BlockIn, StepIn, group_piece, initial_piece, atom_piece, location_piece, delay_piece, delay_pieces, front_piece}
use Rattle.parts.specs.Pieces.{edge_piece, edge_clauses, step_clauses}

-- ---- initial values by number
module _ (m : Model) where
  pub initial_loc : (g : ℕ) → g ≡ 0 → m.initial ≡ initial_value m (component_at m g)
  initial_loc g e = sym (ap (λ (k : ℕ). initial_value m (component_at m k)) e)

  pub initial_counter : (g : ℕ) → (g ≡ 0 → ⊥) → g - 1 < m.vars → (counter_at m (g - 1)).initial ≡ initial_value m (component_at m g)
  initial_counter g e l =
      let z : g ≡ 1 + (g - 1) = omega arith in
      sym (ap (λ (k : ℕ). initial_value m (component_at m k)) z ∙ ap (initial_value m) (comp_counter m (g - 1) l))

  pub initial_clock : (g : ℕ) → (g ≡ 0 → ⊥) → m.vars ≤ g - 1 → 0 ≡ initial_value m (component_at m g)
  initial_clock g e l =
      let z : g ≡ 1 + m.vars + (g - 1 - m.vars) = omega arith in
      sym (ap (λ (k : ℕ). initial_value m (component_at m k)) z ∙ ap (initial_value m) (comp_clock m (g - 1 - m.vars)))

  -- an initial value lies in its group
  pub initial_in_lem : WellFormed m → (g : ℕ) → initial_value m (component_at m g) < group_size m (component_at m g)
  initial_in_lem ok g = group_cases m.vars g
      (λ e. subst (λ (k : ℕ). initial_value m (component_at m k) < group_size m (component_at m k)) (sym e) ok.initial_ok)
      (λ i l e. subst (λ (x : Component). initial_value m x < group_size m x) (sym (ap (component_at m) e ∙ comp_counter m i l))
      (omega (arith, ok.start_ok i l)))
      (λ i e. subst (λ (x : Component). initial_value m x < group_size m x) (sym (ap (component_at m) e ∙ comp_clock m i)) (omega arith))

  pub initial_lies : WellFormed m → (g : ℕ) → g < 1 + m.vars + m.clocks → first_at (group_table m) g + initial_value m (component_at m g) < state_size m
  initial_lies ok g l =
      let n : g < 9 = omega (arith, ok.vars_le, ok.clocks_le) in
      omega (arith, group_fits m ok g l, initial_in_lem ok g, size_is m g n)

-- the blocks of a step lie in an assignment for k
pub step_room : (m : Model) (t k : ℕ) → t < k → block_at one_hot_width m t + state_size m + choices m + state_size m ≤ variables m k
step_room m t k l =
    omega (
      arith,
      variables_is m k,
      ap (λ (s : ℕ). t * (s + choices m)) (state_width_is m),
      mul-le-mul_right (state_size m + choices m) l,
      suc-mul t (state_size m + choices m),
    )

module _ {m : Model} {b : GroupTable} (k : Known m b) where
  pub wf : WellFormed m
  wf = formed m k.formed

  pub known_bounded : Bounded b
  known_bounded = subst Bounded (sym k.is) (bounded m wf)

  pub known_groups : b.groups ≡ 1 + m.vars + m.clocks
  known_groups = ap (λ (x : GroupTable). x.groups) k.is ∙ groups_are m

  pub known_state : b.state ≡ state_size m
  known_state = ap (λ (x : GroupTable). x.state) k.is ∙ state_is m

  pub known_choices : b.choices ≡ choices m
  known_choices = ap (λ (x : GroupTable). x.choices) k.is ∙ choices_are m

  pub known_top : b.top ≡ ceiling m
  known_top = ap (λ (x : GroupTable). x.top) k.is ∙ top_is m

  pub known_vars : b.vars ≡ m.vars
  known_vars = ap (λ (x : GroupTable). x.vars) k.is ∙ vars_are m

  pub at_most_nine : b.groups ≤ 9
  at_most_nine = omega (arith, known_groups, wf.vars_le, wf.clocks_le)

  -- ---- groups
  pub known_in : (g : ℕ) → g < b.groups → first_at b g + size_at b g ≤ state_size m
  known_in g l =
      subst (λ (x : GroupTable). first_at x g + size_at x g ≤ state_size m) (sym k.is) (group_fits m wf g (omega (arith, known_groups)))

  pub known_small : (g : ℕ) → g < b.groups → size_at b g ≤ 32
  known_small g l = subst (λ (x : GroupTable). size_at x g ≤ 32) (sym k.is) (group_small m wf g (omega (arith, known_groups)))

  pub known_initial : (g : ℕ) → g < b.groups → first_at b g + initial_value m (component_at m g) < state_size m
  known_initial g l =
      subst (λ (x : GroupTable). first_at x g + initial_value m (component_at m g) < state_size m) (sym k.is)
      (initial_lies m wf g (omega (arith, known_groups)))

  pub block_in : (o n : ℕ) → o + state_size m ≤ n → BlockIn b o n
  block_in o n h = record {
    groups_le = at_most_nine;
    group_in = λ g l. omega (arith, known_in g l);
    group_le = λ g l. omega (arith, known_small g l);
  }

  pub groups_piece_of : (o : ℕ) → each b.groups (group_piece b o) ≡ clauses_of (group_items one_hot_width m o)
  groups_piece_of o =
      subst (λ (x : GroupTable). each x.groups (group_piece x o) ≡ clauses_of (group_items one_hot_width m o)) (sym k.is)
      (groups_law m o wf.vars_le wf.clocks_le)

  pub initial_piece_of : each b.groups (initial_piece m b) ≡ clauses_of (initial_items one_hot_width m)
  initial_piece_of =
      subst (λ (x : GroupTable). each x.groups (initial_piece m x) ≡ clauses_of (initial_items one_hot_width m)) (sym k.is)
      (initial_law m wf.vars_le wf.clocks_le)

  -- ---- invariants
  pub location_size : size_at b 0 ≡ m.locations
  location_size = subst (λ (x : GroupTable). size_at x 0 ≡ m.locations) (sym k.is) (size_is m 0 (omega arith))

  pub atom_in_lem : (atom : Atom) → DeclaredAtom m atom → AtomIn b atom
  atom_in_lem Blank d = tt
  atom_in_lem (OnClock x relation constant) d = omega (arith, known_vars, wf.vars_le, wf.clocks_le)
  atom_in_lem (OnCounter x relation constant) d = omega (arith, wf.vars_le)

  pub location_piece_of : (o l : ℕ) → l < m.locations → location_piece m b o l ≡ clauses_of (invariant_of one_hot_width m o l)
  location_piece_of o l p =
      let z : o + l ≡ o + 0 + l = omega arith in
      each_cong 4 (atom_piece b o (o + l) (invariant_at m l))
      (λ j. clauses_of (exclude_failing one_hot_width m o (state_member one_hot_width m o loc l ∷ []) (atom_at (invariant_at m l) j)))
      (λ j q. ap (λ (x : ℕ). part_clauses x (atom_part b o (atom_at (invariant_at m l) j))) z ∙ ap
      (λ (x : GroupTable). part_clauses (o + 0 + l) (atom_part x o (atom_at (invariant_at m l) j))) k.is
      ∙ atom_law m wf o (state_member one_hot_width m o loc l) (atom_at (invariant_at m l) j)
      (wf.invariant_ok l p j q)) ∙ sym (atoms_piece m o (state_member one_hot_width m o loc l ∷ []) (invariant_at m l))

  pub invariants_piece_of : (o : ℕ) → each m.locations (location_piece m b o) ≡ clauses_of (invariant_items one_hot_width m o)
  invariants_piece_of o =
      each_cong m.locations (location_piece m b o) (λ l. clauses_of (invariant_of one_hot_width m o l)) (location_piece_of o) ∙ sym (invariants_piece m o)

  pub invariant_fits : (o n l : ℕ) → o + state_size m ≤ n → l < m.locations → (j : ℕ) → j < 4 → Fits (atom_part b o (atom_at (invariant_at m l) j)) n
  invariant_fits o n l h p j q =
      subst (λ (x : GroupTable). Fits (atom_part x o (atom_at (invariant_at m l) j)) n) (sym k.is)
      (atom_fits m wf o n (atom_at (invariant_at m l) j) h (wf.invariant_ok l p j q))

  pub known_locations : m.locations ≤ state_size m
  known_locations = locations_in m wf

  -- the state clauses
  pub state_piece_of : (o : ℕ) → each b.groups (group_piece b o) ++ each (size_at b 0) (location_piece m b o) ≡ clauses_of (state_items one_hot_width m o)
  state_piece_of o =
      ap₂ (λ (l r : List Clause). l ++ r) (groups_piece_of o)
      (ap (λ (n : ℕ). each n (location_piece m b o)) location_size ∙ invariants_piece_of o) ∙ sym (state_piece_lem m o)

  -- ---- a step
  pub update_in_lem : (u : Update) → DeclaredUpdate m u → UpdateIn u
  update_in_lem KeepIt d = tt
  update_in_lem (Constant n) d = tt
  update_in_lem (Sum w offset) d = omega (arith, wf.vars_le)

  pub reset_in : (u : ClockUpdate) → DeclaredReset m u → ResetIn b u
  reset_in Unchanged d = tt
  reset_in Reset d = tt
  reset_in (Copy w) d = omega (arith, known_vars, wf.vars_le, wf.clocks_le)

  pub choice_piece_of : (o : ℕ) → group_clauses (o + b.state) b.choices ≡ clauses_of (choice_items one_hot_width m o)
  choice_piece_of o =
      ap (λ (s : ℕ). group_clauses (o + s) b.choices) (known_state ∙ sym (state_width_is m))
      ∙ ap (group_clauses (o + state_width one_hot_width m)) known_choices ∙ sym
      (choice_piece m o)

  pub delay_piece_of : (o d : ℕ) → delay_pieces b o d ≡ clauses_of (delay_items one_hot_width m o d)
  delay_piece_of o d =
      subst (λ (x : GroupTable). delay_pieces x o d ≡ clauses_of (delay_items one_hot_width m o d)) (sym k.is)
      (ap (λ (s : ℕ). each (group_table m).groups (λ g. part_clauses (o + s + d) (delay_part (group_table m) o d g)))
      (state_is m ∙ sym (state_width_is m)) ∙ delay_law m wf o d)

  pub front_piece_of : (o : ℕ) → front_piece b o ≡ clauses_of (choice_items one_hot_width m o) ++ clauses_of (delays_items one_hot_width m o)
  front_piece_of o = ap₂ (λ (l r : List Clause). l ++ r) (choice_piece_of o) delays
    where
      delays : each (b.top + 1) (delay_pieces b o) ≡ clauses_of (delays_items one_hot_width m o)
      delays =
          ap (λ (n : ℕ). each (n + 1) (delay_pieces b o)) known_top
          ∙ each_cong (ceiling m + 1) (delay_pieces b o) (λ d. clauses_of (delay_items one_hot_width m o d)) (λ d l. delay_piece_of o d) ∙ sym
          (delays_piece m o)

  -- a delay has a clause for each member
  pub members_are : sum_below (size_at b) b.groups ≡ b.state
  members_are =
      subst (λ (x : GroupTable). sum_below (size_at x) x.groups ≡ x.state) (sym k.is)
      (ap (sum_below (size_at (group_table m))) (groups_are m) ∙ sum_same (size_at (group_table m)) (λ g. group_size m (component_at m g))
      (1 + m.vars + m.clocks)
      (λ g l. size_is m g (omega (arith, wf.vars_le, wf.clocks_le))) ∙ sym (block_is m) ∙ sym (state_is m))

  delay_clauses_of : (o d : ℕ) → b.state ≡ length (delay_pieces b o d)
  delay_clauses_of o d = sym (length_each (size_at b) b.groups (delay_piece b o d) (λ g. by g (ltb g (1 + b.vars))) ∙ members_are)
    where
      by : (g : ℕ) (t : Bool) → length (part_clauses (o + b.state + d) (leads_part b o o g g (cond t Keep (Rise d b.top)))) ≡ size_at b g
      by g true = keep_length _ _ _ _ _
      by g false = rise_length _ _ _ _ _ _ _

  pub step_in : (o n : ℕ) → o + state_size m + choices m + state_size m ≤ n → StepIn b o n
  step_in o n h = record {
    choice_in = omega (arith, known_state, known_choices);
    delay_is_choice = omega (arith, known_top, known_choices, choices_is m);
    delay_fits = λ d g l. subst (λ (x : GroupTable). Fits (delay_part x o d g) n) (sym k.is) (delay_fits m wf o n h d g (omega (arith, known_groups)));
    delay_clauses = delay_clauses_of o;
  }

  -- step t + 1: choice and delays, the edges, the state after
  pub step_piece_of : (t : ℕ) → step_clauses m t
      ≡ front_piece b (block_at one_hot_width m t) ++ clauses_of (edges_items one_hot_width m (block_at one_hot_width m t))
      ++ clauses_of (state_items one_hot_width m (block_at one_hot_width m (t + 1)))
  unfolding step_clauses
  step_piece_of t =
      let o = block_at one_hot_width m t in
      let z : next_block one_hot_width m o ≡ block_at one_hot_width m (t + 1)
      = omega (arith, suc-mul t (state_width one_hot_width m + choice_width one_hot_width m)) in
      step_piece_lem m o ∙ ap₂ (λ (l r : List Clause). l ++ clauses_of (edges_items one_hot_width m o) ++ r) (sym (front_piece_of o))
      (ap (λ (n : ℕ). clauses_of (state_items one_hot_width m n)) z)

  pub edge_piece_of : (o x e : ℕ) → e < m.used → x ≡ o + state_size m + (ceiling m + 1 + e)
      → each (b.groups + 5) (edge_piece x b (edge_at m e) o) ≡ edge_clauses m o e
  unfolding edge_clauses
  edge_piece_of o x e l z =
      let w : x ≡ o + state_width one_hot_width m + (ceiling m + 1 + e) = z ∙ ap (λ (s : ℕ). o + s + (ceiling m + 1 + e)) (sym (state_width_is m)) in
      subst (λ (y : ℕ). each (b.groups + 5) (edge_piece y b (edge_at m e) o) ≡ clauses_of (edge_of one_hot_width m o e)) (sym w)
      (subst (λ (y : GroupTable). each (y.groups + 5) (edge_piece (o + state_width one_hot_width m + (ceiling m + 1 + e)) y (edge_at m e) o)
      ≡ clauses_of (edge_of one_hot_width m o e)) (sym k.is) (edge_law m wf o (ceiling m + 1 + e) (edge_at m e) (wf.edge_ok e l)))

  pub edge_fits_of :
      (o n : ℕ) → o + state_size m + choices m + state_size m ≤ n → (e : ℕ) → e < m.used → (j : ℕ) → j < b.groups + 5 → Fits (edge_part b (edge_at m e) o j) n
  edge_fits_of o n h e p j l =
      subst (λ (x : GroupTable). Fits (edge_part x (edge_at m e) o j) n) (sym k.is)
      (edge_fits m wf o n h (edge_at m e) (wf.edge_ok e p) j (subst (λ (x : GroupTable). j < x.groups + 5) k.is l))
