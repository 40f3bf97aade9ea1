-- Numbering and clause order: the clause list as a list of items. An item says what is asked of groups of solver variables; a layout
-- (specs/Clauses.antt has the first) gives a group its variables and an item its clauses.
use Rattle.std.specs.Prelude.{cond, List, [], ◌∷◌, ◌++◌, ℕ, ◌+◌, ◌*◌}
use Rattle.std.specs.Prelude.{Option, None, Some, option_map}
use Rattle.model.specs.declared.Relation.{Relation}
use Rattle.model.specs.declared.Atom.{Atom}
use Rattle.model.specs.declared.Atom.TheVariants.{Blank, OnClock, OnCounter}
use Rattle.model.specs.declared.Update.{Update}
use Rattle.model.specs.declared.Update.TheVariants.{Keep, Constant, Sum}
use Rattle.model.specs.declared.ClockUpdate.{ClockUpdate}
use Rattle.model.specs.declared.ClockUpdate.TheVariants.{Unchanged, Reset, Copy}
use Rattle.model.specs.declared.Edge.{Edge}
use Rattle.model.specs.declared.Model.{Model}
use Rattle.model.specs.Indexed.{each, sum_below}
use Rattle.model.specs.Record.{atom_at, update_at, reset_at, counter_at, invariant_at, edge_at}
use Rattle.model.specs.Automaton.{ceiling, choices, Component, loc, counter, clock, group_size, initial_value}
use Rattle.model.specs.Automaton.{meets, delayed_value, in_range, shifted, set_earlier}

-- A member of a group: where the group's variables begin, how many members the group has, and the member's place among them, from 0.
pub record Member : Type 0 where
  pub base : ℕ
  pub size : ℕ
  pub place : ℕ

-- Member v of the group of n members whose variables begin at b.
abbrev pub member : ℕ → ℕ → ℕ → Member
member b n v = record { base = b; size = n; place = v }

-- What the list asks. `group b n`: of the group of n members whose variables begin at b, one member is true. `rule ms (some x)`: if the
-- members ms are all true, so is x. `rule ms none`: the members ms are not all true.
pub data Item : Type 0 where
  group : ℕ → ℕ → Item
  rule : List Member → Option Member → Item

-- State block: the locations, each counter, each clock. A piece for each component in this order.
abbrev pub over_components {ℓ} : {A : Type ℓ} → Model → (Component → List A) → List A
over_components m f = f loc ++ each m.vars (λ i. f (counter i)) ++ each m.clocks (λ i. f (clock i))

-- `width n` is the number of variables that the layout gives a group of n members.
module _ (width : ℕ → ℕ) (m : Model) where
  -- ---- numbering
  -- Where the group of a component begins in its state block.
  abbrev pub offset : Component → ℕ
  offset loc = 0
  offset (counter i) = width m.locations + sum_below (λ j. width (group_size m (counter j))) i
  offset (clock i) = width m.locations + sum_below (λ j. width (group_size m (counter j))) m.vars + i * width (ceiling m + 1)

  -- S, the length of a state block.
  abbrev pub state_width : ℕ
  state_width = offset (clock m.clocks)

  -- Choice block: delays 0 to M, then edges, in one group. H, its length.
  abbrev pub choice_width : ℕ
  choice_width = width (choices m)

  -- Numbers: state 0, then for each step its choice block and its state block. Where the block of state t begins.
  abbrev pub block_at : ℕ → ℕ
  block_at t = t * (state_width + choice_width)

  -- The state block that follows the state block at `o` and the choice block after it.
  abbrev pub next_block : ℕ → ℕ
  next_block o = o + state_width + choice_width

  -- Value v of a component in the state block at `o`.
  abbrev pub state_member : ℕ → Component → ℕ → Member
  state_member o x v = member (o + offset x) (group_size m x) v

  -- Choice c in the choice block that follows the state block at `o`.
  abbrev pub choice_member : ℕ → ℕ → Member
  choice_member o c = member (o + state_width) (choices m) c

  -- ---- state clauses
  -- One value v of component x: where it fails the comparison, not the members ms, not that value.
  abbrev pub exclude_value : ℕ → List Member → Component → Relation → ℕ → ℕ → List Item
  exclude_value o ms x relation constant v = cond (meets relation v constant) [] (rule (ms ++ (state_member o x v ∷ [])) None ∷ [])

  -- Each value failing the comparison; values rise.
  abbrev pub exclude_values : ℕ → List Member → Component → Relation → ℕ → List Item
  exclude_values o ms x relation constant = each (group_size m x) (exclude_value o ms x relation constant)

  -- An atom: each value failing it. A blank slot holds no atom and asks nothing.
  abbrev pub exclude_failing : ℕ → List Member → Atom → List Item
  exclude_failing o ms Blank = []
  exclude_failing o ms (OnClock x relation constant) = exclude_values o ms (clock x) relation constant
  exclude_failing o ms (OnCounter x relation constant) = exclude_values o ms (counter x) relation constant

  -- The atoms of an invariant or a guard, in order of the slots.
  abbrev pub exclude_all_failing : ℕ → List Member → List Atom → List Item
  exclude_all_failing o ms atoms = each 4 (λ k. exclude_failing o ms (atom_at atoms k))

  -- State clauses, first part: the group clauses of each group.
  unfoldable pub group_items : ℕ → List Item
  group_items o = over_components m (λ x. group (o + offset x) (group_size m x) ∷ [])

  -- Location l: each invariant atom in order, each clock value failing it: not location, not that value.
  abbrev pub invariant_of : ℕ → ℕ → List Item
  invariant_of o l = exclude_all_failing o (state_member o loc l ∷ []) (invariant_at m l)

  -- State clauses, second part: the invariant of each location.
  unfoldable pub invariant_items : ℕ → List Item
  invariant_items o = each m.locations (invariant_of o)

  -- State clauses of the state block at `o`.
  unfoldable pub state_items : ℕ → List Item
  state_items o = group_items o ++ invariant_items o

  -- ---- start
  -- Start, second part: one clause each for the initial location, each counter's initial value, each clock at 0.
  unfoldable pub initial_items : List Item
  initial_items = over_components m (λ x. rule [] (Some (state_member 0 x (initial_value m x))) ∷ [])

  -- Start: state clauses of state 0; then one clause each for the initial values.
  unfoldable pub start_items : List Item
  start_items = state_items 0 ++ initial_items

  -- ---- step t, from the state block at `o` to the next one
  -- Step, first part: group clauses of the choice.
  unfoldable pub choice_items : ℕ → List Item
  choice_items o = group (o + state_width) (choices m) ∷ []

  -- Each value v of component x in the state block at `before`: not choice c, not that value, f v of component y in the state after; without
  -- the last literal where f v is out of range.
  abbrev pub leads : ℕ → ℕ → ℕ → Component → Component → (ℕ → Option ℕ) → List Item
  leads before o c x y f = each (group_size m x) (λ v. rule (choice_member o c ∷ state_member before x v ∷ []) (option_map (state_member (next_block o) y) (f v)) ∷ [])

  -- Not choice c, a value of component y in the state after; or not choice c alone, where the value is out of range.
  abbrev pub sets_to : ℕ → ℕ → Component → Option ℕ → List Item
  sets_to o c y v = rule (choice_member o c ∷ []) (option_map (state_member (next_block o) y) v) ∷ []

  -- Delay d: for each member of the state before in block order: not delay, not member, its successor in the state after.
  unfoldable pub delay_items : ℕ → ℕ → List Item
  delay_items o d = over_components m (λ x. leads o o d x x (λ v. Some (delayed_value m d x v)))

  -- Each delay, 0 to M.
  unfoldable pub delays_items : ℕ → List Item
  delays_items o = each (ceiling m + 1) (delay_items o)

  -- An edge, which is choice c: not edge, source before.
  unfoldable pub source_items : ℕ → ℕ → Edge → List Item
  source_items o c e = rule (choice_member o c ∷ []) (Some (state_member o loc e.source)) ∷ []

  -- An edge: not edge, target after.
  unfoldable pub target_items : ℕ → ℕ → Edge → List Item
  target_items o c e = rule (choice_member o c ∷ []) (Some (state_member (next_block o) loc e.target)) ∷ []

  -- An edge, per guard atom and failing value: not edge, not value before.
  unfoldable pub guard_items : ℕ → ℕ → Edge → List Item
  guard_items o c e = exclude_all_failing o (choice_member o c ∷ []) e.guard

  -- The state block in which an update of counter i reads counter w: that of the state after if w is set earlier, else that of the state before.
  abbrev pub read_block : ℕ → List ℕ → ℕ → ℕ → ℕ
  read_block o order w i = cond (set_earlier order w i) (next_block o) o

  -- An edge, per counter: for keep, each value: not edge, not value before, same after; for a constant: not edge, value after, or not edge
  -- alone if it is out of range; for w plus offset, each value of w: not edge, not value before (after, if w is set earlier), result after, or
  -- without the last literal if it is out of range.
  abbrev pub update_items : ℕ → ℕ → List ℕ → ℕ → Update → List Item
  update_items o c order i Keep = leads o o c (counter i) (counter i) Some
  update_items o c order i (Constant n) = sets_to o c (counter i) (in_range (counter_at m i).greatest n)
  update_items o c order i (Sum w z) = leads (read_block o order w i) o c (counter w) (counter i) (shifted z (counter_at m i).greatest)

  -- An edge: each counter's update, by rising counter.
  unfoldable pub updates_items : ℕ → ℕ → Edge → List Item
  updates_items o c e = each m.vars (λ i. update_items o c e.order i (update_at e i))

  -- An edge, per clock: unchanged, each value is kept like a counter's; reset gives not edge, 0 after; a copy of w gives, for each value: not edge,
  -- not w's value before, the same value after.
  abbrev pub reset_items : ℕ → ℕ → ℕ → ClockUpdate → List Item
  reset_items o c i Unchanged = leads o o c (clock i) (clock i) Some
  reset_items o c i Reset = sets_to o c (clock i) (Some 0)
  reset_items o c i (Copy w) = leads o o c (clock w) (clock i) Some

  -- An edge: each clock.
  unfoldable pub resets_items : ℕ → ℕ → Edge → List Item
  resets_items o c e = each m.clocks (λ i. reset_items o c i (reset_at e i))

  -- An edge: source, target, guard, counters, clocks.
  unfoldable pub edge_items : ℕ → ℕ → Edge → List Item
  edge_items o c e = source_items o c e ++ target_items o c e ++ guard_items o c e ++ updates_items o c e ++ resets_items o c e

  -- Edge e, which is choice M + 1 + e.
  abbrev pub edge_of : ℕ → ℕ → List Item
  edge_of o e = edge_items o (ceiling m + 1 + e) (edge_at m e)

  -- Each edge.
  unfoldable pub edges_items : ℕ → List Item
  edges_items o = each m.used (edge_of o)

  -- Step t: group clauses of the choice; each delay; each edge; last, state clauses of state t.
  unfoldable pub step_items : ℕ → List Item
  step_items o = choice_items o ++ delays_items o ++ edges_items o ++ state_items (next_block o)

  -- ---- the whole list
  -- End: the target location in state k.
  unfoldable pub end_items : ℕ → List Item
  end_items k = rule [] (Some (state_member (block_at k) loc m.target)) ∷ []

  -- The list for k less its last clause: start, then step 1 to step k.
  unfoldable pub body_items : ℕ → List Item
  body_items k = start_items ++ each k (λ t. step_items (block_at t))

  -- The list for k: start, each step, end.
  unfoldable pub items : ℕ → List Item
  items k = body_items k ++ end_items k
